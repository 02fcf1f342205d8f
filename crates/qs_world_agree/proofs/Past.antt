-- From one world to a later one: what a place k that stopped keeps, towards node m; and what was put for it by place p, up to number j.
use Rattle.std.proofs.Common.{◌≡◌, ℕ, ◌<◌, ◌≤◌}
use Rattle.qs_world_agree.specs.World.{World}
use Rattle.qs_world_agree.specs.Doomed.{IsPast, IsLeft}

pub record Past (w v : World) (k m : ℕ) : Type 0 where
  pub node : v.node ≡ w.node
  pub stopped : IsPast w k → IsPast v k  -- it never runs again
  pub engaged : IsPast w k → v.engaged k ≡ w.engaged k  -- who is engaged stays so, and nobody else is
  pub peer : IsPast w k → v.peer k m ≡ w.peer k m  -- it gets to know nobody
  pub sent : IsPast w k → v.sent k m ≡ w.sent k m  -- and sends nothing

-- what it did not take it never takes
pub record Missed (w v : World) (k p j : ℕ) : Type 0 where
  pub left : IsPast w k → IsLeft w p k j → IsLeft v p k j

-- nor does it take what comes of an earlier incarnation than it knows
pub record Behind (w v : World) (k p j : ℕ) : Type 0 where
  pub node : v.node ≡ w.node
  pub later : p < w.peer k (w.node p) → p < v.peer k (w.node p)
  pub left : p < w.peer k (w.node p) → IsLeft w p k j → IsLeft v p k j

-- what p sends only grows; and what stopped as a place that it knows, or an earlier one of that node, takes nothing more of it
pub record Later (w v : World) (k p : ℕ) : Type 0 where
  pub sent : (m : ℕ) → w.sent p m ≤ v.sent p m
  pub known : k ≤ w.peer p (w.node k) → k ≤ v.peer p (v.node k)
  pub took : IsPast w k → k ≤ w.peer p (w.node k) → v.received k p ≡ w.received k p
