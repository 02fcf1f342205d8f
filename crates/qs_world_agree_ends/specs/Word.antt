-- What a world comes to in which an outcome is decided.
use Rattle.std.specs.Prelude.{◌≡◌, ◌≢◌, ℕ, true, false, List}
use Rattle.qs_world_agree.specs.World.{Open, Aborted, World}
use Rattle.qs_world_agree.specs.Origins.{Origin, IsOrigin, first}
use Rattle.qs_world_agree.specs.Step.{Event}
use Rattle.qs_world_agree.specs.Laws.{Run, IsReached}
use Rattle.qs_world_agree_ends.specs.Moments.{IsAfter}
use Rattle.qs_world_agree_ends.specs.Waiting.{rose_in_doubt, AwaitsWord}

-- where the running place of the home's node is a later one, or has decided, the outcome is decided
abbrev pub HomeHasDecided : Type 0
HomeHasDecided = (w : World) (h : ℕ) → IsReached w → w.up h ≡ true → w.node h ≡ w.node w.home → (h ≡ w.home → w.outcome h ≢ Open) → w.cell ≢ Open

-- no place awaits word that is told or has to ask
pub record NoneIsNext (origin : Origin) (events : List Event) (w : World) : Type 0 where
  pub listed : (k : ℕ) → AwaitsWord w k → w.involved k ≡ true → w.unended ≡ true → w.commit_list (w.node k) ≡ true → ⊥  -- none that a Commit names which has no End
  pub risen : (k : ℕ) → AwaitsWord w k → w.cell ≡ Aborted → rose_in_doubt origin events k ≡ true → ⊥  -- of an abort none that rose in doubt
  pub stopped : (k : ℕ) → AwaitsWord w k → w.cell ≡ Aborted → IsAfter events w k → w.up (w.engager k) ≡ false → ⊥  -- none whose engager has stopped
  pub told : (k : ℕ) → AwaitsWord w k → w.cell ≡ Aborted → IsAfter events w k → w.up (w.engager k) ≡ true → w.outcome (w.engager k) ≡ Aborted → ⊥  -- and none whose engager runs and knows it

-- then nobody awaits word
abbrev pub NobodyAwaits : Type 0
NobodyAwaits = (origin : Origin) (events : List Event) (w : World) (k : ℕ) → IsOrigin origin → Run (first origin) events w → w.cell ≢ Open → NoneIsNext origin events w → AwaitsWord w k → ⊥
