-- The numbers of server i of a place k. They hold in every world.
use Rattle.std.proofs.Common.{ℕ, ◌≤◌}
use Rattle.qs_world_agree.specs.World.{World}

pub record Servers (w : World) (k i : ℕ) : Type 0 where
  pub served_arrived : w.served k i ≤ w.arrived k i  -- what is served has come
  pub voted_served : w.voted k i ≤ w.served k i  -- a vote covers what was served
