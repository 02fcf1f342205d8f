-- Where the loan stands that a take or a yield of a client changes.
use Rattle.std.specs.Prelude.{◌≡◌, ◌<◌, ℕ, true, List, length, slice_set, Option, Some, None, if◌then◌else◌}
use Rattle.qs_base.specs.declared.identifiers.ClientNo.{ClientNo}
use Rattle.qs_base.specs.declared.identifiers.Tid.{Tid}
use Rattle.qs_node_kept.specs.declared.kept.Lent.{Lent}
use Rattle.qs_node_kept.specs.Loans.{is_taken, first_untaken, take_first, last_taken, give_back}

-- the first loan that no take has taken is the one at that place, which a take changes; or there is none
pub record TakesAt (client : ClientNo) (tid : Tid) (loans : List Lent) (place : ℕ) (loan : Lent) : Type 0 where
  pub within : place < length loans
  pub first : first_untaken client tid loans ≡ Some loan
  pub taken : take_first client tid loans ≡ slice_set loans place (record loan { taken = true })

pub record TakesNone (client : ClientNo) (tid : Tid) (loans : List Lent) : Type 0 where
  pub first : first_untaken client tid loans ≡ None
  pub taken : take_first client tid loans ≡ loans

abbrev pub Takes : ClientNo → Tid → List Lent → Option (ℕ × Lent) → Type 0
Takes client tid loans None = TakesNone client tid loans
Takes client tid loans (Some found) = TakesAt client tid loans found.0 found.1

-- the last loan that was taken is the one at that place, which a yield changes; or there is none
pub record YieldsAt (client : ClientNo) (tid : Tid) (loans : List Lent) (place : ℕ) (loan : Lent) : Type 0 where
  pub within : place < length loans
  pub last : last_taken client tid loans ≡ Some loan
  pub given : give_back client tid loans ≡ slice_set loans place (record loan { yielded = true })

pub record YieldsNone (client : ClientNo) (tid : Tid) (loans : List Lent) : Type 0 where
  pub last : last_taken client tid loans ≡ None
  pub given : give_back client tid loans ≡ loans

abbrev pub Yields : ClientNo → Tid → List Lent → Option (ℕ × Lent) → Type 0
Yields client tid loans None = YieldsNone client tid loans
Yields client tid loans (Some found) = YieldsAt client tid loans found.0 found.1

-- the last that was taken, with one more loan
abbrev pub later_taken : ClientNo → Tid → Option (ℕ × Lent) → ℕ → Lent → Option (ℕ × Lent)
later_taken client tid last place loan = if is_taken client tid loan then Some (place, loan) else last
