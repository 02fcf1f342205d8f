-- A burst leaves the sites in the world, once the links were carried behind it, from both ends at once.
use Rattle.std.proofs.Common.{◌≡◌, ◌≢◌, ◌∙◌, refl, subst, sym, ℕ, zero, suc, ◌<◌, Bool, List, arith, length, slice_get, Some}
use Rattle.std.specs.Global.{Global}
use Rattle.qs_book_script.specs.declared.script.Script.{Script}
use Rattle.qs_cell.specs.Hearing.{Post}
use Rattle.qs_cell_peers.specs.Links.{LinksValue, into_of, out_of}
use Rattle.qs_disk.specs.Disk.{DiskState}
use Rattle.qs_link.specs.Lane.{IsFifo}
use Rattle.qs_link.specs.declared.outgoing.LinkFault.{LinkFault}
use Rattle.qs_world.specs.World.{Opening}
use Rattle.qs_world_bursts.proofs.Joining.{each_joined}
use Rattle.qs_world_bursts.proofs.Turning.{each_turns, turns_tell}
use Rattle.qs_world_bursts.specs.Telling.{AreFifo, TellsOfActs}
use Rattle.qs_world_bursts.specs.Threads.{BurstKeeps, RoundBehindKeeps, RoundsBehind, RoundsBehindAreTraced}
use Rattle.qs_world_links.specs.Posts.{IsPostOf}
use Rattle.qs_world_nodes.proofs.Beginning.{each_begins}
use Rattle.qs_world_nodes.proofs.Carrying.{each_carries, each_of, same_cell}
use Rattle.qs_world_nodes.proofs.Places.{found, low_of, posts_of_each}
use Rattle.qs_world_nodes.proofs.Rounds.{each_visits}
use Rattle.qs_world_nodes.proofs.Telling.{each_sites_traced}
use Rattle.qs_world_nodes.specs.Nodes.{AreSitesIn, plans_of, post_at}
use Rattle.qs_world_rounds.specs.Rounds.{Cast}
use Rattle.qs_world_rounds.specs.Turns.{TakesTurns}
use Rattle.qs_world_seats.specs.Sites.{IsSiteIn}
use Rattle.qs_world_sites.specs.Bursts.{Bursts}
use Rattle.qs_world_sites.specs.Sites.{AreCarried, CarriesLanes, SitesValue, links_of}

-- ---- where each ring is looked at from both ends, as it is carried

module _ {D : Type 0} (size : ℕ) (mid new : List (Cast D)) (count : length mid ≡ size) (c : AreCarried mid new) (other : Post D) where
  -- the lanes to clients are carried before, and leave the links
  same_links : (a b : Cast D) → CarriesLanes a b → links_of b ≡ links_of a
  same_links a b carries = (same_cell a.node b.node a.clients b.clients carries).1

  joined : (n m : ℕ) (a b : Cast D) → slice_get mid n ≡ Some a → slice_get mid m ≡ Some b → n ≢ m → IsFifo (out_of (links_of a) m).feed (into_of (links_of b) n)
  joined n m a b a_is b_is apart = by (found c.mid n (omega (arith, low_n, c.lanes.count))) (found c.mid m (omega (arith, low_m, c.lanes.count)))
    where
      low_n : n < length mid
      low_n = low_of mid n a a_is

      low_m : m < length mid
      low_m = low_of mid m b b_is

      by : (x : Cast D) × (slice_get c.mid n ≡ Some x) → (y : Cast D) × (slice_get c.mid m ≡ Some y) → IsFifo (out_of (links_of a) m).feed (into_of (links_of b) n)
      by (x, x_is) (y, y_is) = moved (found new n (omega (arith, low_n, c.lanes.count, c.links.others.count))) (found new m (omega (arith, low_m, c.lanes.count, c.links.others.count)))
        where
          moved : (p : Cast D) × (slice_get new n ≡ Some p) → (q : Cast D) × (slice_get new m ≡ Some q) → IsFifo (out_of (links_of a) m).feed (into_of (links_of b) n)
          moved (p, p_is) (q, q_is) = subst (λ (l : LinksValue). IsFifo (out_of l m).feed (into_of (links_of b) n)) (same_links a x (c.lanes.each n a x a_is x_is))
              (subst (λ (l : LinksValue). IsFifo (out_of (links_of x) m).feed (into_of l n)) (same_links b y (c.lanes.each m b y b_is y_is))
              (c.links.links n m x p y q x_is p_is y_is q_is apart).carried.fifo.0)

  are_fifo : AreFifo size (post_at other mid)
  are_fifo m n low_m low_n apart = posts_of_each (λ k p q. (k ≢ n) → IsFifo (out_of p.links n).feed (into_of (post_at other mid n).links k)) other mid mid refl
      (λ k a b a_is b_is k_apart. posts_of_each (λ j r s. (k ≢ j) → IsFifo (out_of (links_of a) j).feed (into_of r.links k)) other mid mid refl
      (λ j d e d_is e_is j_apart. joined k j a d a_is d_is j_apart) n (omega (arith, count, low_n)) k_apart)
      m (omega (arith, count, low_m)) apart

-- ---- a burst, and a round behind it

module _ {D : Type 0} (told : Type 0) (state : D → DiskState) (own size : D → ℕ) (o : Opening) (plans : ℕ → ℕ → List LinkFault) (turns : ℕ) where
  -- where each ring was looked at from both ends
  module _ (old mid : List (Cast D)) (t : told) (b : Bursts told state own size turns old mid) (fifo : (other : Post D) → AreFifo o.size (post_at other mid)) (was : AreSitesIn told state o plans old) where
    tells : (other : Post D) (n : ℕ) → n < o.size → TellsOfActs o.size n (post_at other old n) (post_at other mid n)
    tells other n low = posts_of_each (λ k p q. IsPostOf o.size k p → TellsOfActs o.size k p q) other old mid b.count
        (λ k a d a_is d_is of. turns_tell told state own size o.size k turns a d (b.each k a d a_is d_is) of) n (omega (arith, was.count, low)) ((was.links other).of n low)

    pub joined_in : AreSitesIn told state o plans mid
    joined_in = record {
      count = b.count ∙ was.count;
      each = each_of (TakesTurns told state own size turns) (λ n a. IsSiteIn told state o n a) old mid b (λ n a d taken there. each_turns told state own size o n turns a d t taken there) was.each;
      links = λ other. each_joined o.size plans (post_at other old) (post_at other mid) (tells other) (fifo other) (was.links other);
    }

  -- as it is carried
  pub behind : (old mid new : List (Cast D)) → told → Bursts told state own size turns old mid → AreCarried mid new → AreSitesIn told state o plans old → AreSitesIn told state o plans mid
  behind old mid new t b c was = joined_in old mid t b (are_fifo o.size mid new (b.count ∙ was.count) c) was

  pub each_burst : (old mid new : List (Cast D)) → BurstKeeps told state own size o plans turns old mid new
  each_burst old mid new t b c was = each_carries told state o plans mid new c (behind old mid new t b c was)

  pub each_round_behind : (order : List ℕ) (old new : SitesValue D) (quiet : Bool) → RoundBehindKeeps told state own size o plans turns order old new quiet
  each_round_behind order old new quiet t r was = each_visits told state own size o plans order r.round.carried new r.round.did t r.round.visits
      (each_burst old.sites r.burst.sites r.round.carried.sites t r.bursts r.round.carries was)

  pub each_rounds_behind : (n : ℕ) (old new : SitesValue D) → told → RoundsBehind told state own size turns n old new → AreSitesIn told state o plans old.sites → AreSitesIn told state o plans new.sites
  each_rounds_behind zero old new t same was = subst (λ (s : SitesValue D). AreSitesIn told state o plans s.sites) (sym same) was
  each_rounds_behind (suc n) old new t (mid, (before, (order, (quiet, last)))) was = each_round_behind order mid new quiet t last (each_rounds_behind n old mid t before was)

pub each_rounds_behind_traced : {D : Type 0} (told : Type 0) (state : D → DiskState) (own size : D → ℕ) (alloc : Global) (script : Script) (disks : List D) (o : Opening) (turns n : ℕ) (all new : SitesValue D)
    → RoundsBehindAreTraced told state own size alloc script disks o turns n all new
each_rounds_behind_traced told state own size alloc script disks o turns n all new t begun opens rounds =
    each_sites_traced told state o (plans_of script) new.sites
    (each_rounds_behind told state own size o (plans_of script) turns n all new t rounds (each_begins told state own alloc script disks all o t begun opens))
