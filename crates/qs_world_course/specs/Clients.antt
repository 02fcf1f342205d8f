-- What the course of a run has of a client, beside what its node has for it: at each stage of a step, and between steps.
use Rattle.std.specs.Prelude.{◌≡◌, ◌⊎◌, ⊤, ℕ, ◌<◌, true, false, List, Option, None, Some}
use Rattle.std.specs.BTreeMap.{is_at}
use Rattle.std.specs.List.{find}
use Rattle.std.specs.Map.{lookup}
use Rattle.qs_base.specs.declared.identifiers.ClientNo.{ClientNo}
use Rattle.qs_base.specs.declared.identifiers.NodeNo.{NodeNo}
use Rattle.qs_base.specs.declared.identifiers.Tid.{Tid}
use Rattle.qs_book_journal.specs.declared.script_line.Command.TheVariants as commands
use Rattle.qs_book_journal.specs.declared.script_line.ScriptLine.{ScriptLine}
use Rattle.qs_book_conformance.specs.Answers.{is_refused}
use Rattle.qs_book_conformance.specs.Course.{ClientValue, borrowing_of, first_of, is_seat}
use Rattle.qs_book_conformance.specs.declared.values.CommandMade.{CommandMade}
use Rattle.qs_book_conformance.specs.declared.values.CommandMade.TheVariants as makes
use Rattle.qs_book_conformance.specs.declared.values.Sought.{Sought}
use Rattle.qs_node_kept.specs.Keeping.{has_label, is_outcome_of}
use Rattle.qs_node_kept.specs.Loans.{last_taken}
use Rattle.qs_node_kept.specs.declared.kept.Decided.{Decided}
use Rattle.qs_node_kept.specs.declared.kept.Kept.{Kept}
use Rattle.qs_node_kept.specs.declared.kept.KeptLabel.{KeptLabel}
use Rattle.qs_node_kept.specs.declared.kept.Lent.{Lent}
use Rattle.qs_node_step.specs.State.{client_cmp}
use Rattle.qs_node_step.specs.Step.{is_owner}
use Rattle.qs_node_step.specs.declared.state.Issued.{Issued}
use Rattle.qs_node_step.specs.declared.state.OpenCommand.{OpenCommand}
use Rattle.qs_world_course.specs.Loans.{HoldsBorrowing, loans_of}

abbrev pub Commands : Type 0
Commands = List (ClientNo × OpenCommand)

-- what a node has for its clients
pub record ForClients : Type 0 where
  pub here : NodeNo
  pub inc : ℕ  -- the number of its incarnation
  pub in_hand : Commands  -- taken, and not answered
  pub kept : Kept

abbrev pub in_hand_of : ClientNo → Commands → Option OpenCommand
in_hand_of client in_hand = lookup (is_at (client_cmp client)) in_hand

-- ---- what the first line of a client has made

abbrev pub sought_of : NodeNo → Issued → Sought
sought_of here issued = record { tid = issued.tid; member = issued.member; from = here; number = issued.number }

-- what is not issued has made nothing; or it asked, or, in the middle of a step, aborted. All else is answered as it is made
abbrev pub HasMadeUnissued : OpenCommand → CommandMade → Type 0
HasMadeUnissued command makes.Nothing = ⊤
HasMadeUnissued command makes.Asked = command.line.command ≡ commands.Commit
HasMadeUnissued command makes.Aborted = command.line.command ≡ commands.Abort
HasMadeUnissued command made = ⊥

-- and what is issued has made that request
abbrev pub HasMade : NodeNo → OpenCommand → CommandMade → Type 0
HasMade here command made = elim command.issued [ None ↦ HasMadeUnissued command made | Some issued ↦ made ≡ makes.Issued (sought_of here issued) ]

-- nothing but an answer is left to be made of a line with this label: of an owner's the outcome is kept, and a borrower's loan is of an earlier incarnation
pub record IsOver (client : ClientNo) (node : ForClients) (label : List ℕ) : Type 0 where
  pub begun : KeptLabel
  pub labelled : find (has_label label) node.kept.labels ≡ Some begun
  pub tid : Tid
  pub of : begun.tid ≡ Some tid
  pub decided : is_owner client begun.owner ≡ true → (outcome : Decided) × (find (is_outcome_of tid) node.kept.outcomes ≡ Some outcome)
  pub lent_before : is_owner client begun.owner ≡ false → (loan : Lent) × ((last_taken client tid node.kept.loans ≡ Some loan) × (loan.inc < node.inc))

-- so is a line that is not in hand and has made something: it did so before its node restarted
abbrev pub IsSpent : ClientNo → ForClients → Option ScriptLine → CommandMade → Type 0
IsSpent client node first made = (made ≡ makes.Nothing) ⊎ ((line : ScriptLine) → first ≡ Some line → IsOver client node line.label)

-- ---- a client that has these lines left

pub record IsOnCourse (node : ForClients) (client : ClientNo) (lines : List ScriptLine) (state : ClientValue) : Type 0 where
  pub seat : is_seat state.seat node.here.0 ≡ true
  pub left : state.left ≡ lines
  pub line : (command : OpenCommand) → in_hand_of client node.in_hand ≡ Some command → first_of lines ≡ Some command.line
  pub made : (command : OpenCommand) → in_hand_of client node.in_hand ≡ Some command → HasMade node.here command state.made
  pub spent : in_hand_of client node.in_hand ≡ None → IsSpent client node (first_of lines) state.made
  pub loans : (tid : Tid) → HoldsBorrowing (loans_of client tid node.kept.loans) (borrowing_of state tid)
  -- of the labels that the node keeps, those whose begin of this client was refused
  pub refused : (label : List ℕ) (begun : KeptLabel) → find (has_label label) node.kept.labels ≡ Some begun → is_owner client begun.owner ≡ true → begun.tid ≡ None
      → is_refused state label ≡ true
  pub begun : (label : List ℕ) (begun : KeptLabel) (tid : Tid) → find (has_label label) node.kept.labels ≡ Some begun → begun.tid ≡ Some tid
      → is_refused state label ≡ false
