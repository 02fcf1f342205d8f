-- A request that was handed up has come to its server: request l from place i to node j.
use Rattle.std.proofs.Common.{ℕ, ◌≤◌}
use Rattle.qs_world_agree.specs.World.{World}

pub record Arrivals (w : World) (i j l : ℕ) : Type 0 where
  pub came : 1 ≤ w.received_at i j l → (1 ≤ w.arrival i j l) × (w.arrival i j l ≤ w.arrived (w.received_at i j l) (w.server_of i j l))  -- it is one of those that came there
