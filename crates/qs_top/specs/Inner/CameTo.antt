-- The ends that a run over the disks of many nodes may come to, and what was made at each.
use Rattle.std.specs.Prelude.{◌⊎◌, ⊤, ℕ, List, Result, Ok, Err}
use Rattle.qs_base.specs.declared.identifiers.NodeNo.{NodeNo}
use Rattle.qs_base.specs.declared.memory.NoMemory.{NoMemory}
use Rattle.qs_book_journal.specs.declared.entry.Entry.{Entry}
use Rattle.qs_book_script.specs.declared.script.Script.{Script}
use Rattle.qs_disk.specs.Disk.{DiskState}
use Rattle.qs_log.specs.declared.fault.OpenFault.{OpenFault}
use Rattle.qs_node_step.specs.declared.trace.Step.{Step}
use Rattle.qs_top.specs.Inner.Making.{IsFailed, IsOutOfMemory, IsPassedEnd, IsPassedShort}
use Rattle.qs_top.specs.Inner.OverNodes.{IsUnopenedMade}
use Rattle.qs_top.specs.Ran.{AreMerged, machine_of}
use Rattle.qs_top.specs.declared.whole.RunMade.{RunMade}
use Rattle.qs_world_rounds.specs.declared.faults.RoundFault.{RoundFault}
use Rattle.qs_world_rounds.specs.declared.faults.RoundFault.TheVariants as faults
use Rattle.qs_world_rounds.specs.declared.rounds.Ending.{Ending}
use Rattle.qs_world_serial.specs.Serial.{EachBeside, HasRun, IsNotOpened, IsTouchedDisk}
use Rattle.qs_world_serial.specs.declared.serial.SiteTold.{SiteTold}
use Rattle.qs_text.specs.declared.given.Shown.{Shown}

-- all its rounds were made, and it is told
pub record CameToEnd {D : Type 0} (told : Type 0) (state : D → DiskState) (own size : D → ℕ) (seed : ℕ) (script : Script) (shown : Shown) (made : RunMade) (disks afters : List D) : Type 0 where
  pub ending : Ending
  pub tells : List SiteTold
  pub ran : HasRun told state own size script seed (Ok ending) (Ok tells) disks afters
  pub journal : List Entry
  pub trace : List Step
  pub merged : AreMerged tells journal trace
  pub passed : IsPassedEnd script shown ending (machine_of tells) journal trace made

-- a disk failed as its node was started again, and it is told up to there
pub record CameShort {D : Type 0} (told : Type 0) (state : D → DiskState) (own size : D → ℕ) (seed : ℕ) (script : Script) (made : RunMade) (disks afters : List D) : Type 0 where
  pub node : NodeNo
  pub tells : List SiteTold
  pub ran : HasRun told state own size script seed (Err (faults.DiskFault node)) (Ok tells) disks afters
  pub journal : List Entry
  pub trace : List Step
  pub merged : AreMerged tells journal trace
  pub passed : IsPassedShort script node (machine_of tells) journal trace made

-- rounds whose journal is judged: they came to their end, or a disk failed
abbrev pub IsJudged : Result Ending RoundFault → Type 0
IsJudged (Ok ending) = ⊤
IsJudged (Err (faults.DiskFault node)) = ⊤
IsJudged (Err faults.Damaged) = ⊥
IsJudged (Err faults.NoMemory) = ⊥

-- it is refused, or memory was as it was judged
pub record CameToRefusal {D : Type 0} (told : Type 0) (state : D → DiskState) (own size : D → ℕ) (seed : ℕ) (script : Script) (made : RunMade) (disks afters : List D) : Type 0 where
  pub ending : Result Ending RoundFault
  pub judged : IsJudged ending
  pub tells : List SiteTold
  pub ran : HasRun told state own size script seed ending (Ok tells) disks afters
  pub journal : List Entry
  pub trace : List Step
  pub merged : AreMerged tells journal trace
  pub failed : IsFailed script (machine_of tells) journal made

-- the log of a node was not opened
pub record CameToNoLog {D : Type 0} (told : Type 0) (state : D → DiskState) (own size : D → ℕ) (made : RunMade) (disks afters : List D) : Type 0 where
  pub node : NodeNo
  pub why : OpenFault
  pub not : IsNotOpened told state own size node.0 why disks afters
  pub unopened : IsUnopenedMade node why made

-- all nodes ran, whatever they came to
pub record HasRunSo {D : Type 0} (told : Type 0) (state : D → DiskState) (own size : D → ℕ) (seed : ℕ) (script : Script) (disks afters : List D) : Type 0 where
  pub ending : Result Ending RoundFault
  pub tells : Result (List SiteTold) NoMemory
  pub ran : HasRun told state own size script seed ending tells disks afters

-- memory was refused, before all nodes began or later
pub record CameToNoMemory {D : Type 0} (told : Type 0) (state : D → DiskState) (own size : D → ℕ) (seed : ℕ) (script : Script) (made : RunMade) (disks afters : List D) : Type 0 where
  pub nothing : IsOutOfMemory made
  pub left : EachBeside (λ n. IsTouchedDisk told state size) disks afters ⊎ HasRunSo told state own size seed script disks afters

abbrev pub CameTo : {D : Type 0} → Type 0 → (D → DiskState) → (D → ℕ) → (D → ℕ) → ℕ → Script → Shown → RunMade → List D → List D → Type 0
CameTo told state own size seed script shown made disks afters =
    CameToEnd told state own size seed script shown made disks afters
    ⊎ (CameShort told state own size seed script made disks afters
    ⊎ (CameToRefusal told state own size seed script made disks afters
    ⊎ (CameToNoLog told state own size made disks afters
    ⊎ CameToNoMemory told state own size seed script made disks afters)))
