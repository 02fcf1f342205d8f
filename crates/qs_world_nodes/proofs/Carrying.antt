-- What is carried as a round begins, in the lanes and on the links, leaves the sites in the world.
use Rattle.std.proofs.Common.{◌≡◌, ◌≢◌, ◌∙◌, ap, subst, sym, ℕ, ◌<◌, List, [], ◌∷◌, length, Ok, arith, slice_get, Some}
use Rattle.qs_cell.specs.Hearing.{Post}
use Rattle.qs_cell.specs.Starts.{CellValue, post_of}
use Rattle.qs_cell_peers.specs.Links.{IsSameNode, into_of, out_of}
use Rattle.qs_client.specs.declared.cell.ClientCell.{ClientCell}
use Rattle.qs_disk.specs.Disk.{DiskState}
use Rattle.qs_link.specs.declared.outgoing.LinkFault.{LinkFault}
use Rattle.qs_world.specs.World.{Opening}
use Rattle.qs_world_links.proofs.Carrying.{each_all_carried, each_same}
use Rattle.qs_world_links.specs.Everywhere.{WasCarried}
use Rattle.qs_world_nodes.proofs.Places.{found, low_of, posts_of_each}
use Rattle.qs_world_nodes.specs.Nodes.{AreSitesIn, post_at}
use Rattle.qs_world_nodes.specs.Running.{CarriesKeep}
use Rattle.qs_world_rounds.specs.Rounds.{CarriesAll, Cast}
use Rattle.qs_world_seats.proofs.SitesGoOn.{each_links, each_site_carries}
use Rattle.qs_world_seats.specs.Sites.{IsSiteIn}
use Rattle.qs_world_sites.specs.Sites.{AreLinksCarried, CarriesLanes, Each, HasOtherLinks}

-- the node and its links stay as the lanes to its clients are carried
abbrev pub IsSamePost : {D : Type 0} → Post D → Post D → Type 0
IsSamePost old new = (new.seat.node ≡ old.seat.node) × (new.links ≡ old.links)

pub same_cell : {D : Type 0} (old new : CellValue D) (befores afters : List ClientCell) → CarriesAll old new befores afters → IsSamePost (post_of old) (post_of new)
same_cell old new [] [] same = (ap (λ (c : CellValue _). c.seat.node) same, ap (λ (c : CellValue _). c.links) same)
same_cell old new [] (a ∷ more) carries = absurd carries
same_cell old new (b ∷ bs) [] carries = absurd carries
same_cell old new (b ∷ bs) (a ∷ more) (mid, (both, rest)) =
    let it : IsSamePost (post_of mid) (post_of new) = same_cell mid new bs more rest in
    (it.0 ∙ both.node, it.1 ∙ both.links)

-- each site stays in the world
pub each_of : {D : Type 0} (P : Cast D → Cast D → Type 0) (Q : ℕ → Cast D → Type 0) (old new : List (Cast D)) → Each P old new → ((n : ℕ) (a b : Cast D) → P a b → Q n a → Q n b)
    → ((n : ℕ) (a : Cast D) → slice_get old n ≡ Some a → Q n a) → (n : ℕ) (b : Cast D) → slice_get new n ≡ Some b → Q n b
each_of {D} P Q old new e keeps was n b is = by (found old n (omega (arith, low_of new n b is, e.count)))
  where
    by : (a : Cast D) × (slice_get old n ≡ Some a) → Q n b
    by (a, old_is) = keeps n a b (e.each n a b old_is is) (was n a old_is)

module _ {D : Type 0} (told : Type 0) (state : D → DiskState) (o : Opening) (plans : ℕ → ℕ → List LinkFault) where
  -- ---- the lanes

  lanes_keep : (old new : List (Cast D)) → Each CarriesLanes old new → AreSitesIn told state o plans old → AreSitesIn told state o plans new
  lanes_keep old new e was = record {
    count = e.count ∙ was.count;
    each = each_of CarriesLanes (λ n a. IsSiteIn told state o n a) old new e (λ n a b carries there. each_site_carries told state o n a b carries there) was.each;
    links = λ other. each_same o.size plans (post_at other old) (post_at other new)
        (λ n low. posts_of_each (λ k p q. IsSamePost p q) other old new e.count (λ k a b old_is new_is. same_cell a.node b.node a.clients b.clients (e.each k a b old_is new_is)) n (omega (arith, was.count, low)))
        (was.links other);
  }

  -- ---- the links

  links_site : (n : ℕ) (a b : Cast D) → HasOtherLinks a b → IsSiteIn told state o n a → IsSiteIn told state o n b
  links_site n a b has there = subst (IsSiteIn told state o n) (sym has.is) (each_links told state o n a b.node.links there)

  abbrev IsSameOne : Post D → Post D → Type 0
  IsSameOne old new = (new.seat.node ≡ old.seat.node) × IsSameNode old.links new.links

  abbrev WasMoved : ℕ → ℕ → Post D → Post D → Post D → Post D → Type 0
  WasMoved m n p q r s = WasCarried (out_of p.links n) (out_of q.links n) (into_of r.links m) (into_of s.links m)

  module _ (old new : List (Cast D)) (c : AreLinksCarried old new) (other : Post D) where
    moved : (m n : ℕ) → m < length old → n < length old → m ≢ n → WasMoved m n (post_at other old m) (post_at other new m) (post_at other old n) (post_at other new n)
    moved m n low_m low_n apart = posts_of_each (λ k p q. (k ≢ n) → WasMoved k n p q (post_at other old n) (post_at other new n)) other old new c.others.count
        (λ k a b a_is b_is k_apart. posts_of_each (λ j r s. (k ≢ j) → WasMoved k j (post_of a.node) (post_of b.node) r s) other old new c.others.count
        (λ j d e d_is e_is j_apart. let it = c.links k j a b d e a_is b_is d_is e_is j_apart in record { result = Ok it.held; carried = it.carried })
        n low_n k_apart)
        m low_m apart

    same_one : (n : ℕ) → n < length old → IsSameOne (post_at other old n) (post_at other new n)
    same_one n low = posts_of_each (λ k p q. IsSameOne p q) other old new c.others.count
        (λ k a b a_is b_is. let it = c.others.each k a b a_is b_is in (ap (λ (x : Cast D). x.node.seat.node) it.is, it.linked.same)) n low

  links_keep : (old new : List (Cast D)) → AreLinksCarried old new → AreSitesIn told state o plans old → AreSitesIn told state o plans new
  links_keep old new c was = record {
    count = c.others.count ∙ was.count;
    each = each_of HasOtherLinks (λ n a. IsSiteIn told state o n a) old new c.others links_site was.each;
    links = λ other. each_all_carried o.size plans (post_at other old) (post_at other new) (record {
      same = λ n low. same_one old new c other n (omega (arith, was.count, low));
      each = λ m n low_m low_n apart. moved old new c other m n (omega (arith, was.count, low_m)) (omega (arith, was.count, low_n)) apart;
    }) (was.links other);
  }

  -- ---- both

  pub each_carries : (old new : List (Cast D)) → CarriesKeep told state o plans old new
  each_carries old new c was = links_keep c.mid new c.links (lanes_keep old c.mid c.lanes was)
