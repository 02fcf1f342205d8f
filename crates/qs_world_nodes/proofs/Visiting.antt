-- A visit at any place leaves the sites in the world: it is one of one site, or of none.
use Rattle.std.proofs.Common.{◌≡◌, ◌⊎◌, ◌∙◌, ap, inl, inr, refl, subst, sym, ℕ, zero, suc, ◌<◌, Bool, true, false, List, Option, Some, None, Result, Ok, Err, arith, slice_get, slice_set}
use Rattle.qs_cell.specs.Hearing.{Post}
use Rattle.qs_cell.specs.Starts.{CellValue, post_of}
use Rattle.qs_cell.specs.State.{StartsAgain}
use Rattle.qs_cell.specs.WholeVisits.{Visits}
use Rattle.qs_cell.specs.declared.state.RestartFault.{RestartFault}
use Rattle.qs_cell.specs.declared.state.RestartFault.TheVariants as restart_faults
use Rattle.qs_disk.specs.Disk.{DiskState}
use Rattle.qs_link.specs.declared.outgoing.LinkFault.{LinkFault}
use Rattle.qs_world.specs.World.{Opening}
use Rattle.qs_world_links.proofs.Carrying.{each_same}
use Rattle.qs_world_links.proofs.Linked.{each_restarted, each_visited}
use Rattle.qs_world_links.specs.Everywhere.{LinksAreTold, OthersStay}
use Rattle.qs_world_nodes.proofs.Places.{low_of, posts_at, same_some, set_here, set_length, set_other}
use Rattle.qs_world_nodes.proofs.Walking.{visit_keeps}
use Rattle.qs_world_nodes.specs.Nodes.{AreSitesIn, post_at, post_by}
use Rattle.qs_world_nodes.specs.Running.{VisitKeeps}
use Rattle.qs_world_rounds.specs.Breaks as one
use Rattle.qs_world_rounds.specs.Rounds.{Cast, NodeVisitIf, VisitAt, is_up}
use Rattle.qs_world_seats.proofs.SitesGoOn.{each_fails, each_visit_at}
use Rattle.qs_world_seats.specs.Sites.{IsSiteIn}
use Rattle.qs_world_sites.specs.Sites.{SitesValue}

module _ {D : Type 0} (told : Type 0) (state : D → DiskState) (own size : D → ℕ) (o : Opening) (plans : ℕ → ℕ → List LinkFault) where
  -- ---- one site changes

  module _ (old : List (Cast D)) (k : ℕ) (site after : Cast D) (got : slice_get old k ≡ Some site) (was : AreSitesIn told state o plans old) where
    pub low : k < o.size
    low = omega (arith, low_of old k site got, was.count)

    pub at_k : slice_get (slice_set old k after) k ≡ Some after
    at_k = set_here old k site after got

    pub others : (other : Post D) → OthersStay o.size k (post_at other old) (post_at other (slice_set old k after))
    others other j in_run apart = by (set_other old k j after)
      where
        by : (j ≡ k) ⊎ (slice_get (slice_set old k after) j ≡ slice_get old j) → post_at other (slice_set old k after) j ≡ post_at other old j
        by (inl e) = absurd (apart e)
        by (inr e) = ap (post_by other) e

    site_changes : IsSiteIn told state o k after → ((other : Post D) → LinksAreTold o.size plans (post_at other (slice_set old k after))) → AreSitesIn told state o plans (slice_set old k after)
    site_changes there linked = record { count = set_length old k after ∙ was.count; each = each; links = linked }
      where
        each : (n : ℕ) (b : Cast D) → slice_get (slice_set old k after) n ≡ Some b → IsSiteIn told state o n b
        each n b is = by (set_other old k n after)
          where
            by : (n ≡ k) ⊎ (slice_get (slice_set old k after) n ≡ slice_get old n) → IsSiteIn told state o n b
            by (inl e) = subst (λ (j : ℕ). IsSiteIn told state o j b) (sym e) (subst (IsSiteIn told state o k) (same_some after b (sym at_k ∙ (ap (slice_get (slice_set old k after)) (sym e) ∙ is))) there)
            by (inr e) = was.each n b (sym e ∙ is)

    -- nothing happens to the node and its links
    same_told : after.node ≡ site.node → (other : Post D) → LinksAreTold o.size plans (post_at other (slice_set old k after))
    same_told same other = each_same o.size plans (post_at other old) (post_at other (slice_set old k after)) (λ n in_run. by n (set_other old k n after)) (was.links other)
      where
        by : (n : ℕ) → (n ≡ k) ⊎ (slice_get (slice_set old k after) n ≡ slice_get old n)
            → ((post_at other (slice_set old k after) n).seat.node ≡ (post_at other old n).seat.node) × ((post_at other (slice_set old k after) n).links ≡ (post_at other old n).links)
        by n (inl e) = posts_at (λ (p q : Post D). (q.seat.node ≡ p.seat.node) × (q.links ≡ p.links)) other old (slice_set old k after) n site after (ap (slice_get old) e ∙ got) (ap (slice_get (slice_set old k after)) e ∙ at_k)
            (ap (λ (c : CellValue D). c.seat.node) same, ap (λ (c : CellValue D). c.links) same)
        by n (inr e) = (ap (λ (x : Option (Cast D)). (post_by other x).seat.node) e, ap (λ (x : Option (Cast D)). (post_by other x).links) e)

    -- the node is visited
    visited_told : Visits told state own size (post_of site.node) (post_of after.node) → (other : Post D) → LinksAreTold o.size plans (post_at other (slice_set old k after))
    visited_told visits other = each_visited o.size plans told state own size k (post_at other old) (post_at other (slice_set old k after)) low
        (posts_at (λ (p q : Post D). Visits told state own size p q) other old (slice_set old k after) k site after got at_k visits) (others other) (was.links other)

    -- or is started again, whatever that answers
    restarted_told : (answer : Result Bool RestartFault) → StartsAgain told state own size site.node.alloc site.node.seat.node after.node.seat.node answer → after.node.links ≡ site.node.links
        → (other : Post D) → LinksAreTold o.size plans (post_at other (slice_set old k after))
    restarted_told answer starts links other = each_restarted o.size plans told state own size site.node.alloc k (post_at other old) (post_at other (slice_set old k after)) answer low
        (posts_at (λ (p q : Post D). StartsAgain told state own size site.node.alloc p.seat.node q.seat.node answer) other old (slice_set old k after) k site after got at_k starts)
        (posts_at (λ (p q : Post D). q.links ≡ p.links) other old (slice_set old k after) k site after got at_k links) (others other) (was.links other)

    node_told : (up did : Bool) → NodeVisitIf up told state own size site.node after.node did → (other : Post D) → LinksAreTold o.size plans (post_at other (slice_set old k after))
    node_told true did acts = visited_told acts.visits
    node_told false did starts = restarted_told (Ok did) starts.starts starts.links

    visit_told : (place : ℕ) (did : Bool) → VisitAt told state own size place site after did → (other : Post D) → LinksAreTold o.size plans (post_at other (slice_set old k after))
    visit_told zero did (visit, same) = node_told (is_up site.node) did visit
    visit_told (suc at) did (same, visit) = same_told same

    pub site_visited : (place : ℕ) (did : Bool) → told → VisitAt told state own size place site after did → AreSitesIn told state o plans (slice_set old k after)
    site_visited place did t visit = site_changes (each_visit_at told state own size o k place site after did t visit (was.each k site got)) (visit_told place did visit)

    fails_told : (place : ℕ) → one.FailsAt told state own size place site after → (other : Post D) → LinksAreTold o.size plans (post_at other (slice_set old k after))
    fails_told zero (fails, same) = restarted_told (Err restart_faults.DiskFailed) fails.starts fails.links
    fails_told (suc at) fails = absurd fails

    pub site_failed : (place : ℕ) → told → one.FailsAt told state own size place site after → AreSitesIn told state o plans (slice_set old k after)
    site_failed place t fails = site_changes (each_fails told state own size o k place site after t fails (was.each k site got)) (fails_told place fails)

  -- ---- a visit

  pub each_visit : (place : ℕ) (old new : SitesValue D) (did : Bool) → VisitKeeps told state own size o plans place old new did
  each_visit place old new did t visit was = visit_keeps told state own size (λ (l : List (Cast D)). AreSitesIn told state o plans l)
      (λ olds k at site after done got visited there. site_visited olds k site after got there at done t visited) place old new did visit was
