-- Where a place inquired because its superior had restarted, that superior's dead incarnation is engaged for good.
use Rattle.std.proofs.Common.{◌≡◌, ◌<◌, true}
use Rattle.qs_world_agree.specs.World.{World}

pub record Orphans (w : World) : Type 0 where
  pub above : w.orphaned ≡ true → (w.engaged w.orphaned_by ≡ true) × (w.orphaned_by < w.present (w.node w.orphaned_by))  -- it is engaged, and dead
