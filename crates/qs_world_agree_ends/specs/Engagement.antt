-- Who is engaged, and by whom, whatever is decided. A dead place stays engaged.
use Rattle.std.specs.Prelude.{◌≡◌, ◌≢◌, ℕ, ◌<◌, ◌≤◌, true, false}
use Rattle.qs_world_agree.specs.World.{Open, Aborted, World}
use Rattle.qs_world_agree.specs.Doomed.{IsBusy}
use Rattle.qs_world_agree.specs.Laws.{IsReached}

-- how an engaged place hangs below the place that engaged it
pub record IsHanging (w : World) (k : ℕ) : Type 0 where
  pub away : w.node k ≢ w.node w.home  -- it is none of the home's node
  pub superior : w.superior k ≡ w.node (w.engager k)  -- its superior is the engager's node
  pub above : w.engager k ≢ w.home → w.engaged (w.engager k) ≡ true  -- the engager is engaged too, or is the home
  pub took : 1 ≤ w.last k (w.engager k)  -- it took a request of the engager
  pub uncovered : w.gone (w.engager k) ≡ false → w.covered (w.engager k) (w.node k) < w.last k (w.engager k)  -- whose last one the engager has not covered, if it has no cause Gone
  pub newer : k < w.peer (w.engager k) (w.node k) → w.gone (w.engager k) ≡ true  -- which it has where it saw a restart of this node

-- who is engaged, and is not the home, hangs below its engager
abbrev pub EngagedHangs : Type 0
EngagedHangs = (w : World) (k : ℕ) → IsReached w → w.engaged k ≡ true → k ≢ w.home → IsHanging w k

-- which is nearer to the home, unless the place knows abort: then it may have been engaged by a request that it dropped
abbrev pub EngagerIsNearer : Type 0
EngagerIsNearer = (w : World) (k : ℕ) → IsReached w → w.engaged k ≡ true → k ≢ w.home → w.outcome k ≢ Aborted → w.depth (w.engager k) < w.depth k

-- where anything is open a place is engaged, unless it is the home
abbrev pub BusyIsEngaged : Type 0
BusyIsEngaged = (w : World) (k : ℕ) → IsReached w → k ≢ w.home → IsBusy w k → w.engaged k ≡ true

-- and the home is engaged until it has decided
abbrev pub HomeIsEngaged : Type 0
HomeIsEngaged = (w : World) → IsReached w → w.cell ≡ Open → w.engaged w.home ≡ true
