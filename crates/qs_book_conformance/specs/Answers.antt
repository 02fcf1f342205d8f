-- Which answers are due to a command.
use Rattle.std.specs.Prelude.{ℕ, ◌==◌, Bool, true, false, not, ◌&&◌, ◌||◌, List, Option, Some, None, slice_get, nat_lt, if◌then◌else◌}
use Rattle.std.specs.List.{list_any}
use Rattle.std.specs.BTreeMap.{is_at}
use Rattle.qs_base.specs.Order.{bytes_cmp}
use Rattle.qs_base.specs.declared.identifiers.ClientNo.{ClientNo}
use Rattle.qs_base.specs.declared.identifiers.Tid.{Tid}
use Rattle.qs_ops.specs.Alike.{same_cause}
use Rattle.qs_ops.specs.declared.answer.Answer.{Answer}
use Rattle.qs_ops.specs.declared.answer.Answer.TheVariants as answers
use Rattle.qs_ops.specs.declared.answer.Cause.{Cause}
use Rattle.qs_book_journal.specs.declared.script_line.Command.{Command}
use Rattle.qs_book_journal.specs.declared.script_line.Command.TheVariants as commands
use Rattle.qs_book_journal.specs.declared.script_line.ScriptLine.{ScriptLine}
use Rattle.qs_book_machine.specs.Book.{find_label, find_transaction}
use Rattle.qs_book_machine.specs.Nodes.{NodeValue, keep_of}
use Rattle.qs_book_machine.specs.Transaction.{TransactionValue}
use Rattle.qs_book_machine.specs.Transaction.{is_abort as is_aborted}
use Rattle.qs_book_machine.specs.declared.transaction.Cell.{Cell}
use Rattle.qs_book_machine.specs.declared.transaction.Cell.TheVariants as cells
use Rattle.qs_book_conformance.specs.Alike.{is_answer_of}
use Rattle.qs_book_conformance.specs.Borrowing.{owns, next_loan, present_loan, is_void}
use Rattle.qs_book_conformance.specs.Commands.{is_begin}
use Rattle.qs_book_conformance.specs.Course.{BorrowingValue, ClientValue, CourseValue, first_at, borrowing_of, replies_to}
use Rattle.qs_book_conformance.specs.declared.fault.Rule.{Rule}
use Rattle.qs_book_conformance.specs.declared.fault.Rule.TheVariants as rules
use Rattle.qs_book_conformance.specs.declared.values.Loan.{Loan}
use Rattle.qs_book_conformance.specs.declared.values.CommandMade.{CommandMade}
use Rattle.qs_book_conformance.specs.declared.values.CommandMade.TheVariants as makes

abbrev pub is_ok : Answer → Bool
is_ok answers.Done = true
is_ok _ = false

abbrev pub is_ended : Answer → Bool
is_ended answers.Ended = true
is_ended _ = false

abbrev pub is_not_yours : Answer → Bool
is_not_yours answers.NotYours = true
is_not_yours _ = false

abbrev pub is_not_begun : Answer → Bool
is_not_begun answers.NotBegun = true
is_not_begun _ = false

-- ---- begin: ok once it has begun; or it has not, and the log has less room than a transaction needs

abbrev pub is_log_full : Option NodeValue → Answer → Bool
is_log_full (Some node) (answers.LogFull need room) = (need == keep_of node.format) && nat_lt room need
is_log_full _ _ = false

abbrev pub is_begin_answer : Option NodeValue → CommandMade → Answer → Bool
is_begin_answer state makes.Begun answer = is_ok answer
is_begin_answer state makes.Nothing answer = is_log_full state answer
is_begin_answer state _ answer = false

-- the client's begin of this label was refused: it has not begun, and every later command of its on it is told so
abbrev pub is_refused : ClientValue → List ℕ → Bool
is_refused client label = list_any (is_at (bytes_cmp label)) client.refused

-- ---- replies

-- a serve since the request was issued gave this reply; several serves may have its number, where its node restarted
abbrev pub is_replied : CourseValue → CommandMade → Answer → Bool
is_replied course (makes.Issued sought) answer = list_any (is_answer_of answer) (replies_to course sought)
is_replied course _ answer = false

-- ---- the owner: its outcome to a commit and an abort; to a request the reply, or that it ended, by the cell

abbrev pub is_outcome_answer : Cell → Option Cause → Answer → Bool
is_outcome_answer cells.Commit cause answers.Committed = true
is_outcome_answer cells.Abort (Some cause) (answers.Aborted told) = same_cause told cause
is_outcome_answer _ _ _ = false

abbrev pub is_owned_answer : Cell → Bool → Answer → Bool
is_owned_answer cells.Open replied answer = replied
is_owned_answer _ replied answer = is_ended answer

abbrev pub is_owner_answer : CourseValue → TransactionValue → CommandMade → Command → Answer → Bool
is_owner_answer course tx made commands.Commit answer = is_outcome_answer tx.cell tx.cause answer
is_owner_answer course tx made commands.Abort answer = is_outcome_answer tx.cell tx.cause answer
is_owner_answer course tx made (commands.Request member op) answer = is_owned_answer tx.cell (is_replied course made answer) answer
is_owner_answer course tx made _ answer = false

-- ---- a borrower: not its own where the loan is given back, ended where that is void; ended too where the cell is abort, which
-- ---- its node may know or not

abbrev pub is_loan_answer : CourseValue → ℕ → TransactionValue → Loan → Bool → Answer → Bool
is_loan_answer course here tx loan well answer =
    if loan.given_back then is_not_yours answer
    else if is_void course.book here tx loan then is_ended answer
    else well || (is_aborted tx.cell && is_ended answer)

-- no answer before the loan is made
abbrev pub is_lent_answer : CourseValue → ℕ → TransactionValue → Option Loan → Bool → Answer → Bool
is_lent_answer course here tx None well answer = false
is_lent_answer course here tx (Some loan) well answer = is_loan_answer course here tx loan well answer

-- ok to the yield that gave the loan back
abbrev pub is_yield_answer : CourseValue → ℕ → TransactionValue → Option Loan → CommandMade → Answer → Bool
is_yield_answer course here tx loan makes.GaveBack answer = is_ok answer
is_yield_answer course here tx loan _ answer = is_lent_answer course here tx loan false answer

abbrev pub is_borrower_answer : CourseValue → ℕ → TransactionValue → BorrowingValue → CommandMade → Command → Answer → Bool
is_borrower_answer course here tx borrowing made commands.Take answer =
    is_lent_answer course here tx (next_loan borrowing) (is_ok answer) answer
is_borrower_answer course here tx borrowing made commands.Yield answer =
    is_yield_answer course here tx (present_loan borrowing) made answer
is_borrower_answer course here tx borrowing made (commands.Request member op) answer =
    is_lent_answer course here tx (present_loan borrowing) (is_replied course made answer) answer
is_borrower_answer course here tx borrowing made _ answer = false

-- ---- all commands

abbrev pub is_known_answer : CourseValue → ℕ → ClientNo → ClientValue → Tid → Option TransactionValue → Command → Answer → Bool
is_known_answer course here client state tid None command answer = false
is_known_answer course here client state tid (Some tx) command answer =
    if owns tx.owner client then is_owner_answer course tx state.made command answer
    else is_borrower_answer course here tx (borrowing_of state tid) state.made command answer

-- on the transaction that the label began; there is no answer before that
abbrev pub is_label_answer : CourseValue → ℕ → ClientNo → ClientValue → Option Tid → Command → Answer → Bool
is_label_answer course here client state None command answer = false
is_label_answer course here client state (Some tid) command answer =
    is_known_answer course here client state tid (find_transaction course.book tid) command answer

abbrev pub is_due : CourseValue → ℕ → ClientNo → ClientValue → ScriptLine → Answer → Bool
is_due course here client state line answer =
    if is_refused state line.label then is_not_begun answer
    else if is_begin line.command then is_begin_answer (slice_get course.book.nodes here) state.made answer
    else is_label_answer course here client state (find_label course.book line.label) line.command answer

-- ---- the rule

abbrev pub broken_due : Bool → Bool → Option Rule
broken_due first due =
    if not first then Some rules.AnswersInOrder
    else if not due then Some rules.AnswerIsDue
    else None

abbrev pub broken_line : CourseValue → ℕ → ClientNo → ClientValue → Option ScriptLine → ℕ → Answer → Option Rule
broken_line course here client state None line answer = Some rules.AnswersInOrder
broken_line course here client state (Some command) line answer =
    broken_due (command.line == line) (is_due course here client state command answer)

-- the answered line is that of the first command that is not answered, and the answer is due to it
abbrev pub broken_answer : CourseValue → ℕ → ClientNo → ℕ → Answer → Option Rule
broken_answer course here client line answer = elim (slice_get course.clients client.0) [
  | None ↦ Some rules.AnswersInOrder
  | Some state ↦ broken_line course here client state (first_at course here client) line answer
]
