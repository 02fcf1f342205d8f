-- What a command makes breaks no rule, where it says so and has made nothing yet; and what the course has of its client then.
use Rattle.std.specs.Prelude.{◌≡◌, true, false, List, None, Some}
use Rattle.qs_base.specs.declared.identifiers.ClientNo.{ClientNo}
use Rattle.qs_base.specs.declared.identifiers.Member.{Member}
use Rattle.qs_base.specs.declared.identifiers.Tid.{Tid}
use Rattle.qs_ops.specs.declared.operation.Op.{Op}
use Rattle.qs_book_journal.specs.declared.script_line.Command.{Command}
use Rattle.qs_book_journal.specs.declared.script_line.Command.TheVariants as commands
use Rattle.qs_book_journal.specs.declared.script_line.ScriptLine.{ScriptLine}
use Rattle.qs_book_machine.specs.Transaction.{TransactionValue}
use Rattle.qs_book_conformance.specs.Borrowing.{broken_request, broken_yield, is_void}
use Rattle.qs_book_conformance.specs.Commands.{broken_ask, broken_asked, broken_begin}
use Rattle.qs_book_conformance.specs.Course.{ClientValue}
use Rattle.qs_book_conformance.specs.declared.values.CommandMade.{CommandMade}
use Rattle.qs_book_conformance.specs.declared.values.CommandMade.TheVariants as makes
use Rattle.qs_node_kept.specs.Loans.{last_taken}
use Rattle.qs_node_kept.specs.declared.kept.Lent.{Lent}
use Rattle.qs_node_step.specs.declared.state.Issued.{Issued}
use Rattle.qs_node_step.specs.declared.state.OpenCommand.{OpenCommand}
use Rattle.qs_world_course.specs.Clients.{Commands, ForClients, HasMade, IsOnCourse, in_hand_of, sought_of}
use Rattle.qs_world_course.specs.Due.{HasLoans, IsFirst, IsOf, Said}
use Rattle.qs_world_course.specs.Loans.{loan_of}

-- ---- the entries

-- a client's first line says this, and has made nothing
pub record Says (s : Said) (command : Command) : Type 0 where
  pub first : IsFirst s
  pub is : s.line.command ≡ command
  pub nothing : s.state.made ≡ makes.Nothing

abbrev pub BeginIsKept : Type 0
BeginIsKept = (s : Said) → Says s commands.Begin → broken_begin s.course s.here s.line.label s.client ≡ None

abbrev pub AskIsKept : Type 0
AskIsKept = (s : Said) (tid : Tid) (tx : TransactionValue) → Says s commands.Commit → IsOf s true tid tx → broken_ask s.course s.here tid ≡ None

abbrev pub AbortIsKept : Type 0
AbortIsKept = (s : Said) (tid : Tid) (tx : TransactionValue) → Says s commands.Abort → IsOf s true tid tx → broken_asked s.course s.here tid ≡ None

abbrev pub OwnerMayIssue : Type 0
OwnerMayIssue = (s : Said) (tid : Tid) (tx : TransactionValue) (member : Member) (op : Op) → Says s (commands.Request member op) → IsOf s true tid tx
    → broken_request s.course s.here tid s.client member op ≡ None

-- the loan of a borrower's last take stands
pub record HasStanding (s : Said) (tid : Tid) (tx : TransactionValue) : Type 0 where
  pub of : IsOf s false tid tx
  pub loans : List Lent
  pub held : HasLoans s tid loans
  pub loan : Lent
  pub last : last_taken s.client tid loans ≡ Some loan
  pub ungiven : loan.yielded ≡ false
  pub stands : is_void s.course.book s.here tx (loan_of loan) ≡ false

abbrev pub BorrowerMayIssue : Type 0
BorrowerMayIssue = (s : Said) (tid : Tid) (tx : TransactionValue) (member : Member) (op : Op) → Says s (commands.Request member op) → HasStanding s tid tx
    → broken_request s.course s.here tid s.client member op ≡ None

abbrev pub BorrowerMayYield : Type 0
BorrowerMayYield = (s : Said) (tid : Tid) (tx : TransactionValue) → Says s commands.Yield → HasStanding s tid tx → broken_yield s.course s.here tid s.client ≡ None

-- ---- its client

-- what is in hand asks, or aborts
abbrev pub MadeGoes : Type 0
MadeGoes = (node : ForClients) (client : ClientNo) (lines : List ScriptLine) (state : ClientValue) (command : OpenCommand) (made : CommandMade)
    → IsOnCourse node client lines state → in_hand_of client node.in_hand ≡ Some command → HasMade node.here command made
    → IsOnCourse node client lines (record state { made = made })

-- or is issued as a request
abbrev pub IssuesGo : Type 0
IssuesGo = (node : ForClients) (later : Commands) (client : ClientNo) (lines : List ScriptLine) (state : ClientValue) (command : OpenCommand) (issued : Issued)
    → IsOnCourse node client lines state → in_hand_of client node.in_hand ≡ Some command
    → in_hand_of client later ≡ Some (record command { issued = Some issued })
    → IsOnCourse (record node { in_hand = later }) client lines (record state { made = makes.Issued (sought_of node.here issued) })
