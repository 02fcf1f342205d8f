-- What a place k sent to node i, or its server i served, shows that it is to be told. It holds in every world.
use Rattle.std.proofs.Common.{◌≡◌, ℕ, ◌<◌, ◌≤◌, true}
use Rattle.qs_world_agree.specs.World.{OnePhase, World}

pub record Involved (w : World) (k i : ℕ) : Type 0 where
  pub unborn : w.present (w.node k) < k → (w.sent k i ≡ 0) × (w.served k i ≡ 0)  -- a place that is still to come has done nothing
  pub sender : 1 ≤ w.sent k i → w.involved k ≡ true  -- who sent a request is to be told
  pub one_phase : w.class (w.node k) i ≡ OnePhase → 1 ≤ w.served k i → w.involved k ≡ true  -- and so is who used a server that is told without a vote
