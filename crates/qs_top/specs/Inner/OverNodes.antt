-- What a run over the disks of many nodes comes to, before its output is given.
use Rattle.std.specs.Prelude.{◌≡◌, ◌⊎◌, ℕ, List, Result, Ok, Err, map}
use Rattle.qs_base.specs.declared.memory.NoMemory.{NoMemory}
use Rattle.qs_base.specs.declared.identifiers.NodeNo.{NodeNo}
use Rattle.qs_book_journal.specs.declared.entry.Entry.{Entry}
use Rattle.qs_book_script.specs.declared.script.Script.{Script}
use Rattle.qs_disk.specs.Disk.{DiskState}
use Rattle.qs_log.specs.declared.fault.OpenFault.{OpenFault}
use Rattle.qs_node_step.specs.declared.trace.Step.{Step}
use Rattle.qs_top.specs.Inner.Making.{IsMadeFrom, IsNothingMade, IsOutOfMemory, not_opened}
use Rattle.qs_top.specs.Ran.{AreMerged, machine_of, opened_in}
use Rattle.qs_top.specs.declared.nodes.Gathered.{Gathered}
use Rattle.qs_top.specs.declared.whole.RunMade.{RunMade}
use Rattle.qs_world_left.specs.Left.{AreReadAsLeft}
use Rattle.qs_world_rounds.specs.declared.faults.RoundFault.{RoundFault}
use Rattle.qs_world_rounds.specs.declared.rounds.Ending.{Ending}
use Rattle.qs_world_serial.specs.Serial.{IsRun}
use Rattle.qs_world_serial.specs.declared.serial.SerialRun.{SerialRun}
use Rattle.qs_world_serial.specs.declared.serial.SerialRun.TheVariants as runs
use Rattle.qs_world_serial.specs.declared.serial.SiteTold.{SiteTold}
use Rattle.qs_text.specs.declared.given.Shown.{Shown}

-- what all nodes tell
pub record IsGathered (tells : List SiteTold) (all : Gathered) : Type 0 where
  pub opened : all.opened ≡ map opened_in tells
  pub merged : AreMerged tells all.journal all.trace

-- where memory was had for it
abbrev pub IsGatheredOf : Result (List SiteTold) NoMemory → Gathered → Type 0
IsGatheredOf (Ok tells) all = IsGathered tells all
IsGatheredOf (Err refused) all = ⊥

-- it was merged, and judged
pub record IsMadeOfTold (script : Script) (shown : Shown) (ending : Result Ending RoundFault) (tells : List SiteTold) (made : RunMade) : Type 0 where
  pub journal : List Entry
  pub trace : List Step
  pub merged : AreMerged tells journal trace
  pub made_from : IsMadeFrom script shown ending (machine_of tells) journal trace made

-- a log was not opened
pub record IsUnopenedMade (node : NodeNo) (why : OpenFault) (made : RunMade) : Type 0 where
  pub nothing : IsNothingMade made
  pub status : made.status ≡ not_opened node why

abbrev pub IsMadeOfRun : Script → Shown → SerialRun → RunMade → Type 0
IsMadeOfRun script shown (runs.NotOpened node why) made = IsUnopenedMade node why made
IsMadeOfRun script shown runs.NoMemory made = IsOutOfMemory made
IsMadeOfRun script shown (runs.Ended ending (Ok tells)) made = IsOutOfMemory made ⊎ IsMadeOfTold script shown ending tells made
IsMadeOfRun script shown (runs.Ended ending (Err refused)) made = IsOutOfMemory made

-- the run over these disks, and what was made of it
pub record IsOverNodes {D : Type 0} (told : Type 0) (state : D → DiskState) (own size : D → ℕ) (seed : ℕ) (script : Script) (shown : Shown) (made : RunMade) (disks afters : List D) : Type 0 where
  pub ran : SerialRun
  pub is : IsRun told state own size script seed ran disks afters
  pub made_of : IsMadeOfRun script shown ran made
  pub read : told → AreReadAsLeft (map state disks)
