-- The links of sites keep their plans, and their cells stand in the world.
use Rattle.std.proofs.Common.{◌≡◌, ◌∙◌, ap, subst, sym, ℕ, ◌<◌, List, length, arith, slice_get, Some}
use Rattle.qs_cell.specs.Hearing.{Post}
use Rattle.qs_cell.specs.Starts.{post_of}
use Rattle.qs_disk.specs.Disk.{DiskState}
use Rattle.qs_link.specs.declared.outgoing.LinkFault.{LinkFault}
use Rattle.qs_node_step.specs.declared.trace.Step.{Step}
use Rattle.qs_world.specs.World.{Opening}
use Rattle.qs_world_links.proofs.Linked.{each_keeps}
use Rattle.qs_world_links.specs.Posts.{trace_in}
use Rattle.qs_world_nodes.proofs.Places.{found, post_there}
use Rattle.qs_world_nodes.specs.Nodes.{AreSitesIn, post_at, trace_at, trace_by}
use Rattle.qs_world_nodes.specs.Running.{SitesHaveCells}
use Rattle.qs_world_rounds.specs.Rounds.{Cast}
use Rattle.qs_world_seats.proofs.Cellular.{each_site_cell}
use Rattle.qs_world_traces.specs.Links.{IsTakenByPlan, KeepPlans, put_to, took_from}

-- the traces of sites are those of their posts
module _ {D : Type 0} (size : ℕ) (sites : List (Cast D)) (count : length sites ≡ size) (other : Post D) where
  same_trace : (n : ℕ) → n < size → trace_in (post_at other sites n) ≡ trace_at sites n
  same_trace n low = by (found sites n (omega (arith, low, count)))
    where
      by : (a : Cast D) × (slice_get sites n ≡ Some a) → trace_in (post_at other sites n) ≡ trace_at sites n
      by (a, is) = ap (λ (p : Post D). trace_in p) (post_there other sites n a is) ∙ sym (ap trace_by is)

  pub keep_at : (plans : ℕ → ℕ → List LinkFault) → KeepPlans size plans (λ n. trace_in (post_at other sites n)) → KeepPlans size plans (trace_at sites)
  keep_at plans posts n m low_n low_m apart = subst (λ (l : List Step). IsTakenByPlan (plans m n) (put_to n l) (took_from m (trace_at sites n))) (same_trace m low_m)
      (subst (λ (l : List Step). IsTakenByPlan (plans m n) (put_to n (trace_in (post_at other sites m))) (took_from m l)) (same_trace n low_n) (posts n m low_n low_m apart))

-- where there are two nodes there is a post
pub keep : {D : Type 0} (told : Type 0) (state : D → DiskState) (o : Opening) (plans : ℕ → ℕ → List LinkFault) (sites : List (Cast D)) → AreSitesIn told state o plans sites → KeepPlans o.size plans (trace_at sites)
keep {D} told state o plans sites are n m low_n low_m apart = by (found sites n (omega (arith, low_n, are.count)))
  where
    by : (a : Cast D) × (slice_get sites n ≡ Some a) → IsTakenByPlan (plans m n) (put_to n (trace_at sites m)) (took_from m (trace_at sites n))
    by (a, is) = keep_at o.size sites are.count (post_of a.node) plans (each_keeps o.size plans (post_at (post_of a.node) sites) (are.links (post_of a.node))) n m low_n low_m apart

pub each_cells : {D : Type 0} (told : Type 0) (state : D → DiskState) (o : Opening) (plans : ℕ → ℕ → List LinkFault) (sites : List (Cast D)) → SitesHaveCells told state o plans sites
each_cells told state o plans sites are = record {
  count = are.count;
  each = λ n a is. each_site_cell told state o n a (are.each n a is);
  keep = keep told state o plans sites are;
}
