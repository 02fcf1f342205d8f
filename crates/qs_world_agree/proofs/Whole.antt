-- The invariant: what holds in every world, and what holds while nothing is aborted.
use Rattle.std.proofs.Common.{◌≢◌, ℕ}
use Rattle.qs_world_agree.specs.World.{Aborted, World}
use Rattle.qs_world_agree.proofs.Counts.{Counts}
use Rattle.qs_world_agree.proofs.Servers.{Servers}
use Rattle.qs_world_agree.proofs.Involved.{Involved}
use Rattle.qs_world_agree.proofs.Outcomes.{Outcomes}
use Rattle.qs_world_agree.proofs.Keeps.{Keeps}
use Rattle.qs_world_agree.proofs.Places.{Places}
use Rattle.qs_world_agree.proofs.Arrivals.{Arrivals}
use Rattle.qs_world_agree.proofs.Tree.{Tree}
use Rattle.qs_world_agree.proofs.Bond.{Bond}
use Rattle.qs_world_agree.proofs.Held.{Held}
use Rattle.qs_world_agree.proofs.Owed.{Owed}
use Rattle.qs_world_agree.proofs.Silent.{Silent}
use Rattle.qs_world_agree.proofs.Orphans.{Orphans}
use Rattle.qs_world_agree.proofs.Doubt.{Doubt}
use Rattle.qs_world_agree.proofs.Prepares.{Prepares}
use Rattle.qs_world_agree.proofs.Logged.{Logged}
use Rattle.qs_world_agree.proofs.Knows.{Knows}
use Rattle.qs_world_agree.proofs.Asks.{Asks}

-- what holds while nothing is aborted
pub record Whole (w : World) : Type 0 where
  pub places : Places w
  pub arrivals : (i j l : ℕ) → Arrivals w i j l
  pub tree : Tree w
  pub bond : (k : ℕ) → Bond w k
  pub held : (n : ℕ) → Held w n
  pub owed : (n : ℕ) → Owed w n
  pub silent : Silent w
  pub orphans : Orphans w
  pub doubt : (k : ℕ) → Doubt w k
  pub prepares : (k i : ℕ) → Prepares w k i
  pub logged : (n i : ℕ) → Logged w n i
  pub knows : (k : ℕ) → Knows w k
  pub asks : (k j : ℕ) → Asks w k j

pub record Inv (w : World) : Type 0 where
  pub counts : Counts w
  pub servers : (k i : ℕ) → Servers w k i
  pub involved : (k i : ℕ) → Involved w k i
  pub keeps : (k : ℕ) → Keeps w k
  pub outcomes : Outcomes w
  pub whole : w.cell ≢ Aborted → Whole w
