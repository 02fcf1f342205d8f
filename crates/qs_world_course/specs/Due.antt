-- Which answers are due, by what a node knows: each reason for which a node answers, and what the course has to have of it.
use Rattle.std.specs.Prelude.{◌≡◌, ◌⊎◌, ℕ, ◌<◌, Bool, true, false, List, None, Some, slice_get, if◌then◌else◌}
use Rattle.std.specs.List.{list_any}
use Rattle.qs_base.specs.declared.identifiers.ClientNo.{ClientNo}
use Rattle.qs_base.specs.declared.identifiers.Member.{Member}
use Rattle.qs_base.specs.declared.identifiers.Tid.{Tid}
use Rattle.qs_ops.specs.Operations.{answer_of}
use Rattle.qs_ops.specs.declared.answer.Answer.{Answer}
use Rattle.qs_ops.specs.declared.answer.Answer.TheVariants as answers
use Rattle.qs_ops.specs.declared.operation.Op.{Op}
use Rattle.qs_ops.specs.declared.reply.Reply.{Reply}
use Rattle.qs_book_journal.specs.declared.script_line.Command.{Command}
use Rattle.qs_book_journal.specs.declared.script_line.Command.TheVariants as commands
use Rattle.qs_book_journal.specs.declared.script_line.ScriptLine.{ScriptLine}
use Rattle.qs_book_machine.specs.Book.{find_label, find_transaction}
use Rattle.qs_book_machine.specs.Nodes.{NodeValue, keep_of}
use Rattle.qs_book_machine.specs.Transaction.{TransactionValue, is_abort, is_open}
use Rattle.qs_book_conformance.specs.Alike.{is_answer_of}
use Rattle.qs_book_conformance.specs.Answers.{broken_answer, is_due, is_outcome_answer, is_refused}
use Rattle.qs_book_conformance.specs.Borrowing.{is_void, owns}
use Rattle.qs_book_conformance.specs.Course.{ClientValue, CourseValue, borrowing_of, first_of, is_seat, replies_to}
use Rattle.qs_book_conformance.specs.declared.values.CommandMade.TheVariants as makes
use Rattle.qs_book_conformance.specs.declared.values.Sought.{Sought}
use Rattle.qs_node_kept.specs.Loans.{first_untaken, last_taken}
use Rattle.qs_node_kept.specs.declared.kept.Decided.{Decided}
use Rattle.qs_node_kept.specs.declared.kept.Lent.{Lent}
use Rattle.qs_node_step.specs.Commands.{outcome_answer}
use Rattle.qs_world_course.specs.Loans.{HoldsBorrowing, loan_of, loans_of}

-- a line of a client, in a course that has this of the client, at a node
pub record Said : Type 0 where
  pub course : CourseValue
  pub here : ℕ
  pub client : ClientNo
  pub state : ClientValue
  pub line : ScriptLine

-- it is the first that is not answered
pub record IsFirst (s : Said) : Type 0 where
  pub there : slice_get s.course.clients s.client.0 ≡ Some s.state
  pub seat : is_seat s.state.seat s.here ≡ true
  pub first : first_of s.state.left ≡ Some s.line

abbrev pub IsDue : Said → Answer → Type 0
IsDue s answer = is_due s.course s.here s.client s.state s.line answer ≡ true

-- an answer that is due to it breaks no rule
abbrev pub DueIsKept : Type 0
DueIsKept = (s : Said) (answer : Answer) → IsFirst s → IsDue s answer → broken_answer s.course s.here s.client s.line.line answer ≡ None

-- ---- a begin: ok where it has begun; where it has not, how much the log lacks, and then all else of its label is not begun

abbrev pub BeginIsDue : Type 0
BeginIsDue = (s : Said) → is_refused s.state s.line.label ≡ false → s.line.command ≡ commands.Begin → s.state.made ≡ makes.Begun → IsDue s answers.Done

abbrev pub RefusalIsDue : Type 0
RefusalIsDue = (s : Said) (node : NodeValue) (room : ℕ) → is_refused s.state s.line.label ≡ false → s.line.command ≡ commands.Begin → s.state.made ≡ makes.Nothing
    → slice_get s.course.book.nodes s.here ≡ Some node → room < keep_of node.format → IsDue s (answers.LogFull (keep_of node.format) room)

abbrev pub NotBegunIsDue : Type 0
NotBegunIsDue = (s : Said) → is_refused s.state s.line.label ≡ true → IsDue s answers.NotBegun

-- ---- all else is of a transaction that was begun

-- the client owns it or not
pub record IsOf (s : Said) (own : Bool) (tid : Tid) (tx : TransactionValue) : Type 0 where
  pub unrefused : is_refused s.state s.line.label ≡ false
  pub label : find_label s.course.book s.line.label ≡ Some tid
  pub found : find_transaction s.course.book tid ≡ Some tx
  pub own_is : owns tx.owner s.client ≡ own

-- ---- the owner: what is decided has its outcome, or is ended; what is not has the reply

abbrev pub EndsIt : Command → Type 0
EndsIt command = (command ≡ commands.Commit) ⊎ (command ≡ commands.Abort)

abbrev pub OwnerIsTold : Type 0
OwnerIsTold = (s : Said) (tid : Tid) (tx : TransactionValue) (decided : Decided) → IsOf s true tid tx → EndsIt s.line.command
    → is_outcome_answer tx.cell tx.cause (outcome_answer decided) ≡ true → IsDue s (outcome_answer decided)

abbrev pub OwnerIsEnded : Type 0
OwnerIsEnded = (s : Said) (tid : Tid) (tx : TransactionValue) (member : Member) (op : Op) → IsOf s true tid tx → s.line.command ≡ commands.Request member op
    → is_open tx.cell ≡ false → IsDue s answers.Ended

-- the reply was given to what the line has issued
pub record IsReplied (s : Said) (reply : Reply) : Type 0 where
  pub member : Member
  pub op : Op
  pub asks : s.line.command ≡ commands.Request member op
  pub sought : Sought
  pub made : s.state.made ≡ makes.Issued sought
  pub given : list_any (is_answer_of (answer_of reply)) (replies_to s.course sought) ≡ true

abbrev pub OwnerIsReplied : Type 0
OwnerIsReplied = (s : Said) (tid : Tid) (tx : TransactionValue) (reply : Reply) → IsOf s true tid tx → IsReplied s reply → is_open tx.cell ≡ true
    → IsDue s (answer_of reply)

-- ---- a borrower

-- what the node takes its loan for: it knows each reason of the machine's for which it is void, and no other but that the transaction is aborted
pub record IsVoidSo (s : Said) (tx : TransactionValue) (loan : Lent) (void : Bool) : Type 0 where
  pub known : is_void s.course.book s.here tx (loan_of loan) ≡ true → void ≡ true
  pub so : void ≡ true → (is_void s.course.book s.here tx (loan_of loan) ≡ true) ⊎ (is_abort tx.cell ≡ true)

-- the loans that the node keeps are those that the course has
abbrev pub HasLoans : Said → Tid → List Lent → Type 0
HasLoans s tid loans = HoldsBorrowing (loans_of s.client tid loans) (borrowing_of s.state tid)

-- a take: ended where the loan is void, and else ok
abbrev pub TakeIsDue : Type 0
TakeIsDue = (s : Said) (tid : Tid) (tx : TransactionValue) (loans : List Lent) (loan : Lent) (void : Bool) → IsOf s false tid tx → s.line.command ≡ commands.Take
    → HasLoans s tid loans → first_untaken s.client tid loans ≡ Some loan → IsVoidSo s tx loan void → IsDue s (if void then answers.Ended else answers.Done)

-- what speaks of the loan of the last take: a yield that has not given it back yet, and a request
pub record IsOfLoan (s : Said) (tid : Tid) (tx : TransactionValue) (loans : List Lent) (loan : Lent) : Type 0 where
  pub of : IsOf s false tid tx
  pub which : (s.line.command ≡ commands.Yield) ⊎ ((member : Member) × ((op : Op) × (s.line.command ≡ commands.Request member op)))
  pub ungiven : s.state.made ≡ makes.GaveBack → ⊥
  pub held : HasLoans s tid loans
  pub last : last_taken s.client tid loans ≡ Some loan

-- not its own where it gave that back, ended where it is void, and else its reply
abbrev pub NotYoursIsDue : Type 0
NotYoursIsDue = (s : Said) (tid : Tid) (tx : TransactionValue) (loans : List Lent) (loan : Lent) → IsOfLoan s tid tx loans loan → loan.yielded ≡ true
    → IsDue s answers.NotYours

abbrev pub EndedIsDue : Type 0
EndedIsDue = (s : Said) (tid : Tid) (tx : TransactionValue) (loans : List Lent) (loan : Lent) → IsOfLoan s tid tx loans loan → loan.yielded ≡ false
    → IsVoidSo s tx loan true → IsDue s answers.Ended

abbrev pub BorrowerIsReplied : Type 0
BorrowerIsReplied = (s : Said) (tid : Tid) (tx : TransactionValue) (loans : List Lent) (loan : Lent) (reply : Reply) → IsOfLoan s tid tx loans loan → IsReplied s reply
    → loan.yielded ≡ false → IsVoidSo s tx loan false → IsDue s (answer_of reply)
