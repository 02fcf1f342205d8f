-- The home, while nothing is decided.
use Rattle.std.proofs.Common.{◌≡◌, true}
use Rattle.qs_world_agree.specs.World.{Open, World}

pub record Home (w : World) : Type 0 where
  pub home_engaged : w.cell ≡ Open → w.engaged w.home ≡ true  -- it is engaged
  pub home_present : w.cell ≡ Open → w.present (w.node w.home) ≡ w.home  -- and its node has not restarted
