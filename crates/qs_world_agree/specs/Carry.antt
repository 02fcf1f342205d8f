-- The laws carried to another world, one machine for each of its transactions.
use Rattle.std.specs.Prelude.{◌≡◌, ◌⊎◌, List, [], ◌∷◌}
use Rattle.qs_world_agree.specs.World.{Committed, World}
use Rattle.qs_world_agree.specs.Origins.{Origin, IsOrigin, first}
use Rattle.qs_world_agree.specs.Step.{Event}
use Rattle.qs_world_agree.specs.Laws.{Run, IsReached, IsSettled, IsAnswered, IsInvolved, IsAgreed, IsSilenced}

-- one act of another world after another
abbrev pub RunOf : {State Act : Type 0} → (Act → State → State → Type 0) → State → List Act → State → Type 0
RunOf does old [] new = new ≡ old
RunOf {State} does old (a ∷ rest) new = (mid : State) × does a old mid × RunOf does mid rest new

-- the machine goes from one world to another
pub record Leads (old new : World) : Type 0 where
  pub events : List Event
  pub run : Run old events new

-- a world that some run leads to, with all that holds of it
pub record IsLawful (w : World) : Type 0 where
  pub reached : IsReached w
  pub agreed : IsAgreed w
  pub settled : w.cell ≡ Committed → IsSettled w
  pub answered : w.cell ≡ Committed → IsAnswered w
  pub involved : w.cell ≡ Committed → IsInvolved w

-- a transaction has not begun, or a lawful world of the machine shows it
abbrev pub IsShown : {State Tid : Type 0} → (Tid → State → Type 0) → (Tid → State → World → Type 0) → Tid → State → Type 0
IsShown unbegun shows t s = unbegun t s ⊎ ((w : World) × IsLawful w × shows t s w)

-- it has not begun still, or it began or was found in logs, and the same act may have gone on with it
abbrev pub Begins : {State Tid : Type 0} → (Tid → State → Type 0) → (Tid → State → World → Type 0) → Tid → State → Type 0
Begins unbegun shows t s = unbegun t s ⊎ ((o : Origin) × IsOrigin o × ((w : World) × Leads (first o) w × shows t s w))

-- what shows it goes on to what shows it later
abbrev pub GoesOn : {State Tid : Type 0} → (Tid → State → World → Type 0) → Tid → State → World → Type 0
GoesOn shows t s w = (new : World) × Leads w new × shows t s new

-- and whoever knew abort keeps to it
abbrev pub StaysLawful : {State Tid : Type 0} → (Tid → State → World → Type 0) → Tid → State → World → Type 0
StaysLawful shows t s w = (new : World) × Leads w new × IsLawful new × IsSilenced w new × shows t s new
