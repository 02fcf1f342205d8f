-- What a place k, and the home, know of the outcome. It holds in every world.
use Rattle.std.proofs.Common.{◌≡◌, ℕ, ◌<◌, ◌≤◌, true}
use Rattle.qs_world_agree.specs.World.{Open, World}

pub record Keeps (w : World) (k : ℕ) : Type 0 where
  pub unborn : w.present (w.node k) < k → w.outcome k ≡ Open  -- a place that is still to come knows nothing
  pub home_keeps : w.up w.home ≡ true → w.outcome w.home ≡ w.cell  -- the home knows what it decided until it stops
  pub home_born : w.home ≤ w.present (w.node w.home)  -- the home has begun
