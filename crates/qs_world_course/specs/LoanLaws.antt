-- The laws of loans: what a node keeps of them and what the course has of them go together through all that is done to them.
use Rattle.std.specs.Prelude.{◌≡◌, ℕ, true, false, List, [], ◌∷◌, ◌++◌, Some}
use Rattle.qs_base.specs.declared.identifiers.ClientNo.{ClientNo}
use Rattle.qs_base.specs.declared.identifiers.Tid.{Tid}
use Rattle.qs_node_kept.specs.Loans.{first_untaken, give_back, is_loan_of, last_taken, take_first}
use Rattle.qs_node_kept.specs.declared.kept.Lent.{Lent}
use Rattle.qs_book_conformance.specs.Borrowing.{next_loan, present_loan}
use Rattle.qs_book_conformance.specs.Course.{BorrowingValue}
use Rattle.qs_book_conformance.specs.Effects.{gave_back, lent_in, taken_one}
use Rattle.qs_world_course.specs.Loans.{HoldsBorrowing, loan_in, loans_of, new_loan}

-- the loan that the next take takes, and that of the last take
abbrev pub NextIsNext : Type 0
NextIsNext = (client : ClientNo) (tid : Tid) (loans : List Lent) (b : BorrowingValue) → HoldsBorrowing (loans_of client tid loans) b
    → loan_in (first_untaken client tid loans) ≡ next_loan b

abbrev pub PresentIsPresent : Type 0
PresentIsPresent = (client : ClientNo) (tid : Tid) (loans : List Lent) (b : BorrowingValue) → HoldsBorrowing (loans_of client tid loans) b
    → loan_in (last_taken client tid loans) ≡ present_loan b

-- a take, a yield, and one more loan
abbrev pub TakesGo : Type 0
TakesGo = (client : ClientNo) (tid : Tid) (loans : List Lent) (b : BorrowingValue) (loan : Lent) → first_untaken client tid loans ≡ Some loan
    → HoldsBorrowing (loans_of client tid loans) b
    → HoldsBorrowing (loans_of client tid (take_first client tid loans)) (taken_one b)

abbrev pub YieldsGo : Type 0
YieldsGo = (client : ClientNo) (tid : Tid) (loans : List Lent) (b : BorrowingValue) (loan : Lent) → last_taken client tid loans ≡ Some loan
    → HoldsBorrowing (loans_of client tid loans) b
    → HoldsBorrowing (loans_of client tid (give_back client tid loans)) (gave_back b)

abbrev pub LoansGo : Type 0
LoansGo = (client : ClientNo) (tid : Tid) (loans : List Lent) (b : BorrowingValue) (inc : ℕ) → HoldsBorrowing (loans_of client tid loans) b
    → HoldsBorrowing (loans_of client tid (loans ++ new_loan client tid inc ∷ [])) (lent_in inc b)

-- and the loans of another client, or of another transaction, stay
abbrev pub OthersStay : Type 0
OthersStay = (client other : ClientNo) (tid another : Tid) (loans : List Lent)
    → ((loan : Lent) → is_loan_of client tid loan ≡ true → is_loan_of other another loan ≡ false)
    → (loans_of other another (take_first client tid loans) ≡ loans_of other another loans) × (loans_of other another (give_back client tid loans) ≡ loans_of other another loans)
