-- Loans: which of its loans a borrower's command speaks of, and what that loan is worth.
--
-- The j-th take of a transaction takes the j-th loan of it to that client. Every other command speaks of the loan of the last take.
use Rattle.std.specs.Prelude.{ℕ, ◌-◌, ◌==◌, Bool, false, not, ◌&&◌, ◌||◌, Option, Some, None, slice_get, if◌then◌else◌}
use Rattle.qs_base.specs.declared.identifiers.ClientNo.{ClientNo}
use Rattle.qs_base.specs.declared.identifiers.NodeNo.{NodeNo}
use Rattle.qs_base.specs.declared.identifiers.Member.{Member}
use Rattle.qs_base.specs.declared.identifiers.Tid.{Tid}
use Rattle.qs_ops.specs.declared.operation.Op.{Op}
use Rattle.qs_book_machine.specs.Book.{BookValue, find_transaction, inc_at}
use Rattle.qs_book_machine.specs.Transaction.{TransactionValue, learnt_abort}
use Rattle.qs_book_conformance.specs.Course.{BorrowingValue, ClientValue, CourseValue, first_at, made_by, borrowing_of}
use Rattle.qs_book_conformance.specs.Commands.{says_yield, says_request, broken_command}
use Rattle.qs_book_conformance.specs.declared.fault.Rule.{Rule}
use Rattle.qs_book_conformance.specs.declared.fault.Rule.TheVariants as rules
use Rattle.qs_book_conformance.specs.declared.values.Loan.{Loan}

abbrev pub node_no : ℕ → NodeNo
node_no here = record { 0 = here }

-- the loan that the next take takes
abbrev pub next_loan : BorrowingValue → Option Loan
next_loan borrowing = slice_get borrowing.loans borrowing.taken

-- the loan that the last take took
abbrev pub present_loan : BorrowingValue → Option Loan
present_loan borrowing = if borrowing.taken == 0 then None else slice_get borrowing.loans (borrowing.taken - 1)

abbrev pub owns : Option ClientNo → ClientNo → Bool
owns None client = false
owns (Some owner) client = owner.0 == client.0

-- a member of this node learnt abort, in its present incarnation
abbrev pub knows_abort : BookValue → ℕ → TransactionValue → Bool
knows_abort book here tx = learnt_abort tx (node_no here) (inc_at book (node_no here))

-- the loan is worth nothing any more: its node restarted since, or knows abort
abbrev pub is_void : BookValue → ℕ → TransactionValue → Loan → Bool
is_void book here tx loan = not (loan.inc == inc_at book (node_no here)) || knows_abort book here tx

-- it is made, not given back, and worth something
abbrev pub stands : BookValue → ℕ → TransactionValue → Option Loan → Bool
stands book here tx None = false
stands book here tx (Some loan) = not loan.given_back && not (is_void book here tx loan)

-- the client's present loan of the transaction stands
abbrev pub has_loan : CourseValue → ℕ → Tid → TransactionValue → Option ClientValue → Bool
has_loan course here tid tx None = false
has_loan course here tid tx (Some client) = stands course.book here tx (present_loan (borrowing_of client tid))

-- ---- who yields, and who issues

abbrev pub broken_loan_use : Bool → Option Rule → Option Rule
broken_loan_use stands (Some rule) = Some rule
broken_loan_use stands None = if stands then None else Some rules.LoanStands

abbrev pub stands_for : CourseValue → ℕ → Tid → ClientNo → Option TransactionValue → Bool
stands_for course here tid client None = false
stands_for course here tid client (Some tx) = has_loan course here tid tx (slice_get course.clients client.0)

-- a borrower gives its present loan back
abbrev pub broken_yield : CourseValue → ℕ → Tid → ClientNo → Option Rule
broken_yield course here tid client =
    broken_loan_use (stands_for course here tid client (find_transaction course.book tid))
    (broken_command (says_yield course.book tid (first_at course here client)) (made_by course client))

-- the owner issues by right, a borrower on its present loan
abbrev pub may_issue : CourseValue → ℕ → Tid → ClientNo → Option TransactionValue → Bool
may_issue course here tid client None = false
may_issue course here tid client (Some tx) =
    owns tx.owner client || has_loan course here tid tx (slice_get course.clients client.0)

abbrev pub broken_request : CourseValue → ℕ → Tid → ClientNo → Member → Op → Option Rule
broken_request course here tid client member op =
    broken_loan_use (may_issue course here tid client (find_transaction course.book tid))
    (broken_command (says_request course.book tid member op (first_at course here client)) (made_by course client))
