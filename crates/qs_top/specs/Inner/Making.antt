-- How what a run made is judged, before its output is given.
use Rattle.std.specs.Prelude.{◌≡◌, ◌⊎◌, ℕ, List, Some, None, Result, Ok, Err}
use Rattle.qs_base.specs.declared.identifiers.NodeNo.{NodeNo}
use Rattle.qs_book_conformance.specs.Conforming.{Conforms}
use Rattle.qs_book_journal.specs.declared.entry.Entry.{Entry}
use Rattle.qs_log.specs.declared.fault.OpenFault.{OpenFault}
use Rattle.qs_log.specs.declared.fault.OpenFault.TheVariants as faults
use Rattle.qs_book_machine.specs.Book.{BookValue}
use Rattle.qs_world_plans.specs.Waiting.{waiting_of}
use Rattle.qs_world_rounds.specs.declared.faults.RoundFault.{RoundFault}
use Rattle.qs_world_rounds.specs.declared.faults.RoundFault.TheVariants as round_faults
use Rattle.qs_world_rounds.specs.declared.rounds.Ending.{Ending}
use Rattle.qs_book_script.specs.declared.script.Script.{Script}
use Rattle.qs_book_script.specs.declared.status.Status.{Status}
use Rattle.qs_book_script.specs.declared.status.Status.TheVariants as statuses
use Rattle.qs_node_step.specs.declared.trace.Step.{Step}
use Rattle.qs_top.specs.Ends.{status_of}
use Rattle.qs_top.specs.Verdicts.{IsRefusal, IsRefusedAt}
use Rattle.qs_top.specs.Run.{IsNothing, output_from}
use Rattle.qs_top.specs.declared.whole.RunMade.{RunMade}
use Rattle.qs_text.specs.declared.given.Shown.{Shown}

-- the status of a run whose node's log was not opened
abbrev pub not_opened : NodeNo → OpenFault → Status
not_opened node faults.DiskFailed = statuses.DiskFault node
not_opened node (faults.Damaged at) = statuses.Damaged node at
not_opened node faults.NoMemory = statuses.NoMemory

-- nothing is told, and nothing is to be given
pub record IsNothingMade (made : RunMade) : Type 0 where
  pub nothing : IsNothing made.journal made.trace
  pub output : made.output ≡ None

-- it conforms and is told
pub record IsPassed (script : Script) (book : BookValue) (journal : List Entry) (trace : List Step) (made : RunMade) : Type 0 where
  pub conforms : Conforms script book journal
  pub entries : made.journal ≡ journal
  pub steps : made.trace ≡ trace

-- it is refused, or memory was, and nothing is told
pub record IsFailed (script : Script) (book : BookValue) (journal : List Entry) (made : RunMade) : Type 0 where
  pub nothing : IsNothingMade made
  pub refusal : IsRefusal made.status
  pub refused : (line clause : ℕ) → made.status ≡ statuses.Unlawful line clause → IsRefusedAt script book journal line clause

-- the journal of a run that came to its end
pub record IsPassedEnd (script : Script) (shown : Shown) (ending : Ending) (book : BookValue) (journal : List Entry) (trace : List Step) (made : RunMade) : Type 0 where
  pub passed : IsPassed script book journal trace made
  pub status : made.status ≡ status_of ending.rounds ending.settled (waiting_of script journal)
  pub output : made.output ≡ Some (output_from script journal shown book)

abbrev pub IsJudgedEnd : Script → Shown → Ending → BookValue → List Entry → List Step → RunMade → Type 0
IsJudgedEnd script shown ending book journal trace made = IsPassedEnd script shown ending book journal trace made ⊎ IsFailed script book journal made

-- the journal of a run whose node's disk failed
pub record IsPassedShort (script : Script) (node : NodeNo) (book : BookValue) (journal : List Entry) (trace : List Step) (made : RunMade) : Type 0 where
  pub passed : IsPassed script book journal trace made
  pub status : made.status ≡ statuses.DiskFault node
  pub output : made.output ≡ None

abbrev pub IsJudgedShort : Script → NodeNo → BookValue → List Entry → List Step → RunMade → Type 0
IsJudgedShort script node book journal trace made = IsPassedShort script node book journal trace made ⊎ IsFailed script book journal made

-- ---- what came of the rounds

-- memory was refused, or a restart found its log damaged, which counts as that: nothing is told
pub record IsOutOfMemory (made : RunMade) : Type 0 where
  pub nothing : IsNothingMade made
  pub status : made.status ≡ statuses.NoMemory

abbrev pub IsMadeFrom : Script → Shown → Result Ending RoundFault → BookValue → List Entry → List Step → RunMade → Type 0
IsMadeFrom script shown (Ok ending) book journal trace made = IsJudgedEnd script shown ending book journal trace made
IsMadeFrom script shown (Err (round_faults.DiskFault node)) book journal trace made = IsJudgedShort script node book journal trace made
IsMadeFrom script shown (Err round_faults.Damaged) book journal trace made = IsOutOfMemory made
IsMadeFrom script shown (Err round_faults.NoMemory) book journal trace made = IsOutOfMemory made
