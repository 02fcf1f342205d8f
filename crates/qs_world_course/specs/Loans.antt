-- The loans that a node keeps of a client, and those that the course has of it.
use Rattle.std.specs.Prelude.{◌≡◌, ⊤, ℕ, true, false, List, [], ◌∷◌, map, Option, None, Some, zero, suc}
use Rattle.std.specs.List.{filter}
use Rattle.qs_base.specs.declared.identifiers.ClientNo.{ClientNo}
use Rattle.qs_base.specs.declared.identifiers.Tid.{Tid}
use Rattle.qs_node_kept.specs.Loans.{is_loan_of}
use Rattle.qs_node_kept.specs.declared.kept.Lent.{Lent}
use Rattle.qs_book_conformance.specs.Course.{BorrowingValue}
use Rattle.qs_book_conformance.specs.declared.values.Loan.{Loan}

abbrev pub loan_of : Lent → Loan
loan_of lent = record { inc = lent.inc; given_back = lent.yielded }

abbrev pub loan_in : Option Lent → Option Loan
loan_in None = None
loan_in (Some lent) = Some (loan_of lent)

-- the first so many are taken, and no other; and what is not taken is not given back
abbrev pub AreTaken : ℕ → List Lent → Type 0
AreTaken zero [] = ⊤
AreTaken zero (loan ∷ loans) = (loan.taken ≡ false) × ((loan.yielded ≡ false) × AreTaken zero loans)
AreTaken (suc n) [] = ⊥
AreTaken (suc n) (loan ∷ loans) = (loan.taken ≡ true) × AreTaken n loans

-- a loan that is made to it in this incarnation
abbrev pub new_loan : ClientNo → Tid → ℕ → Lent
new_loan client tid inc = record { tid = tid; client = client; inc = inc; taken = false; yielded = false }

-- loans of one client and one transaction
pub record HoldsBorrowing (loans : List Lent) (borrowing : BorrowingValue) : Type 0 where
  pub loans_are : borrowing.loans ≡ map loan_of loans
  pub taken : AreTaken borrowing.taken loans

abbrev pub loans_of : ClientNo → Tid → List Lent → List Lent
loans_of client tid loans = filter (is_loan_of client tid) loans
