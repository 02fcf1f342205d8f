-- The sites of a run begin in the world that opens with their nodes.
use Rattle.std.proofs.Common.{◌≡◌, ◌≢◌, ◌∙◌, ap, refl, subst, sym, ℕ, zero, suc, ◌<◌, List, [], ◌++◌, length, map, arith, slice_get, Some}
use Rattle.std.specs.Global.{Global}
use Rattle.qs_base.specs.declared.identifiers.ClientNo.{ClientNo}
use Rattle.qs_base.specs.declared.identifiers.NodeNo.{NodeNo}
use Rattle.qs_book_script.specs.declared.script.Script.{Script}
use Rattle.qs_book_script.specs.declared.script.Seat.{Seat}
use Rattle.qs_cell.specs.Hearing.{Post}
use Rattle.qs_cell.specs.Starts.{post_of}
use Rattle.qs_cell_peers.specs.Links.{into_of, out_of}
use Rattle.qs_client.specs.declared.cell.ClientCell.{ClientCell}
use Rattle.qs_disk.specs.Disk.{DiskState}
use Rattle.qs_world.specs.World.{Opening}
use Rattle.qs_world_links.proofs.Linked.{each_new}
use Rattle.qs_world_links.proofs.Starting.{each_start}
use Rattle.qs_world_links.specs.Between as links
use Rattle.qs_world_links.specs.Everywhere.{AreNew}
use Rattle.qs_world_links.specs.Posts.{IsPostOf, trace_in}
use Rattle.qs_world_nodes.proofs.Places.{found, low_of, posts_of_each}
use Rattle.qs_world_nodes.proofs.Planned.{each_planned}
use Rattle.qs_world_nodes.specs.Nodes.{plans_of, post_at}
use Rattle.qs_world_nodes.specs.Running.{NodesBegin}
use Rattle.qs_world_plans.specs.Plan.{setting_of}
use Rattle.qs_world_plans.specs.Waiting.{client_count}
use Rattle.qs_world_rounds.specs.Rounds.{Cast}
use Rattle.qs_world_rounds.specs.Seats.{BeginsAt, number_of, plan_of, seated, seated_as, seated_below, sits_at}
use Rattle.qs_world_seats.proofs.ByNumber.{each_by_number}
use Rattle.qs_world_seats.proofs.SitesBegin.{each_site_begins}
use Rattle.qs_world_seats.specs.Sites.{AreNumbered, IsSiteIn, OpensSite, numbers_below}
use Rattle.qs_world_sites.specs.Seats.{HasBegun, IsNewLink, plan_between}
use Rattle.qs_world_sites.specs.Sites.{SitesValue}

-- ---- the clients of a node have numbers of their own

same_below : (node : NodeNo) (seats : List Seat) (n : ℕ) → seated_below node seats n ≡ numbers_below (λ client. sits_at node client seats) n
same_below node seats zero = refl
same_below node seats (suc n) = ap (λ (l : List ClientNo). l ++ seated_as node (record { 0 = n }) seats) (same_below node seats n)

numbered : (node : NodeNo) (seats : List Seat) (clients : List ClientCell) → map number_of clients ≡ seated node seats → AreNumbered client_count clients
unfolding seated
numbered node seats clients e = each_by_number (λ client. sits_at node client seats) client_count clients (e ∙ same_below node seats client_count)

begins_as_site : {D : Type 0} (told : Type 0) (state : D → DiskState) (own : D → ℕ) (alloc : Global) (script : Script) (size : ℕ) (node : NodeNo) (disk : D) (cast : Cast D) (o : Opening)
    → told → (b : BeginsAt told state own alloc script size node disk cast) → OpensSite alloc node.0 (setting_of script size node 0) script cast.clients b.started.running.host.log o → IsSiteIn told state o node.0 cast
begins_as_site told state own alloc script size node disk cast o t b opens =
    each_site_begins told state o node.0 alloc (setting_of script size node 0) (plan_of node script.faults) script disk cast t b.started opens (numbered node script.seats cast.clients b.clients) b.seats

module _ {D : Type 0} (told : Type 0) (state : D → DiskState) (own : D → ℕ) (alloc : Global) (script : Script) (disks : List D) (all : SitesValue D) (begun : HasBegun told state own alloc script disks all) where
  -- ---- the links

  -- the cell of each node tells of nothing yet
  begins_as_post : (n : ℕ) (disk : D) (a : Cast D) → BeginsAt told state own alloc script (length disks) (record { 0 = n }) disk a → IsPostOf (length disks) n (post_of a.node) × (trace_in (post_of a.node) ≡ [])
  begins_as_post n disk a b =
      let it = each_start told state n alloc disk (setting_of script (length disks) (record { 0 = n }) 0) a.node.links a.node.seat.ends (plan_of (record { 0 = n }) script.faults) a.node b.started refl b.links.size_is (ap (λ (m : NodeNo). m.0) b.links.me) in
      (it.0, it.1.0)

  tells_nothing : (n : ℕ) (a : Cast D) → slice_get all.sites n ≡ Some a → IsPostOf (length disks) n (post_of a.node) × (trace_in (post_of a.node) ≡ [])
  tells_nothing n a is = by (found disks n (omega (arith, low_of all.sites n a is, begun.count)))
    where
      by : (disk : D) × (slice_get disks n ≡ Some disk) → IsPostOf (length disks) n (post_of a.node) × (trace_in (post_of a.node) ≡ [])
      by (disk, at) = begins_as_post n disk a (begun.each n disk a at is)

  new_link : (n m : ℕ) (a b : Cast D) → IsNewLink (plan_between n m script.faults) (out_of a.node.links m) (into_of b.node.links n) → links.IsNewLink (plans_of script n m) (out_of a.node.links m) (into_of b.node.links n)
  new_link n m a b is = record { is_plan = each_planned n m script.faults; fresh = is.fresh; empty = is.empty; fifo = is.fifo }

  begins_new : (other : Post D) → AreNew (length disks) (plans_of script) (post_at other all.sites)
  begins_new other = record {
    of = λ n low. (told_at n low).0;
    none = λ n low. (told_at n low).1;
    links = λ m n low_m low_n apart. posts_of_each (λ k p q. (k ≢ n) → links.IsNewLink (plans_of script k n) (out_of q.links n) (into_of (post_at other all.sites n).links k)) other all.sites all.sites refl
        (λ k a b a_is b_is k_apart. posts_of_each (λ j r s. (k ≢ j) → links.IsNewLink (plans_of script k j) (out_of b.node.links j) (into_of s.links k)) other all.sites all.sites refl
        (λ j d e d_is e_is j_apart. new_link k j b e (begun.links k j b e b_is e_is j_apart)) n (omega (arith, begun.count, low_n)) k_apart)
        m (omega (arith, begun.count, low_m)) apart;
  }
    where
      told_at : (n : ℕ) → n < length disks → IsPostOf (length disks) n (post_at other all.sites n) × (trace_in (post_at other all.sites n) ≡ [])
      told_at n low = posts_of_each (λ k p q. IsPostOf (length disks) k q × (trace_in q ≡ [])) other all.sites all.sites refl (λ k a b a_is b_is. tells_nothing k b b_is) n (omega (arith, begun.count, low))

-- ---- all of it

pub each_begins : {D : Type 0} (told : Type 0) (state : D → DiskState) (own : D → ℕ) (alloc : Global) (script : Script) (disks : List D) (all : SitesValue D) (o : Opening) → NodesBegin told state own alloc script disks all o
each_begins {D} told state own alloc script disks all o t begun opens = record {
  count = begun.count ∙ sym opens.size;
  each = each;
  links = λ other. each_new o.size (plans_of script) (post_at other all.sites)
      (subst (λ (n : ℕ). AreNew n (plans_of script) (post_at other all.sites)) (sym opens.size) (begins_new told state own alloc script disks all begun other));
}
  where
    each : (n : ℕ) (a : Cast D) → slice_get all.sites n ≡ Some a → IsSiteIn told state o n a
    each n a is = by (found disks n (omega (arith, low_of all.sites n a is, begun.count)))
      where
        by : (disk : D) × (slice_get disks n ≡ Some disk) → IsSiteIn told state o n a
        by (disk, at) = begins_as_site told state own alloc script (length disks) (record { 0 = n }) disk a o t (begun.each n disk a at is) (opens.sites n disk a at is)
