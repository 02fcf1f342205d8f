-- Which votes of a log are found: a Commit that marks them finds the same, and each is of a transaction that is named.
use Rattle.qs_world_runs.proofs.Words.{◌≡◌, ◌⊎◌, inl, inr, ℕ, ◌||◌, arith, Bool, true, false, List, [], ◌∷◌, map, Option, Some, None, refl, sym, ap, ◌∙◌, if◌then◌else◌, nat_le, nat_lt, nat_tests, Tid, cell_of_transaction, may_be_lost, TransactionValue, Voter, Cell, Prepared, mark_committed, names_transaction, is_found_in, some_same}
use Rattle.qs_book_machine.specs.declared.transaction.Cell.TheVariants as cells
use Rattle.qs_restart.specs.Recovery.{is_of}
use Rattle.qs_world_lawful.proofs.FoundMembers.{and_both}
use Rattle.qs_world_lawful.proofs.LogRecords.{found_is, is_found}

pub less_than : (a b : ℕ) → nat_lt a b ≡ true → nat_le a b ≡ true
less_than a b e = grind (arith, nat_tests, e)

-- a Commit marks votes, and finds the same
pub marked_found : (at : Voter) (covers : ℕ) (tid : Tid) (votes : List Prepared) → is_found_in at covers (map (mark_committed tid) votes) ≡ is_found_in at covers votes
marked_found at covers tid [] = refl
marked_found at covers tid (vote ∷ votes) = by (is_of tid vote) (marked_found at covers tid votes)
  where
    by : (b : Bool) → is_found_in at covers (map (mark_committed tid) votes) ≡ is_found_in at covers votes → is_found_in at covers ((if b then record vote { committed = true } else vote) ∷ map (mark_committed tid) votes) ≡ is_found_in at covers (vote ∷ votes)
    by true more = ap (λ (b : Bool). is_found at covers vote || b) more
    by false more = ap (λ (b : Bool). is_found at covers vote || b) more

-- a found vote is of a transaction that is named
pub found_named : (at : Voter) (covers : ℕ) (votes : List Prepared) → is_found_in at covers votes ≡ true → names_transaction at.tid ≡ true
found_named at covers [] is = absurd (cc is)
found_named at covers (vote ∷ votes) is = by (is_found at covers vote) refl is (found_named at covers votes)
  where
    by : (b : Bool) → is_found at covers vote ≡ b → (b || is_found_in at covers votes) ≡ true → (is_found_in at covers votes ≡ true → names_transaction at.tid ≡ true) → names_transaction at.tid ≡ true
    by true e i more = ap names_transaction (sym (found_is at covers vote e).0) ∙ (and_both (names_transaction vote.tid) _ e).0
    by false e i more = more i

-- what is aborted may be lost; and each cell is that or is not
pub lost_is : (here : ℕ) (tid : Tid) (o : Option TransactionValue) → cell_of_transaction o ≡ Some cells.Abort → may_be_lost here tid o ≡ true
lost_is here tid None e = absurd (cc e)
lost_is here tid (Some tx) e = let c : tx.cell ≡ cells.Abort = some_same e in rw c refl

pub is_aborted_or : (o : Option TransactionValue) → (cell_of_transaction o ≡ Some cells.Abort) ⊎ (cell_of_transaction o ≡ Some cells.Abort → ⊥)
is_aborted_or None = inr (λ e. cc e)
is_aborted_or (Some tx) = by tx.cell
  where
    by : (c : Cell) → (Some c ≡ Some cells.Abort) ⊎ (Some c ≡ Some cells.Abort → ⊥)
    by cells.Abort = inl refl
    by cells.Open = inr (λ e. cc e)
    by cells.Commit = inr (λ e. cc e)
