-- The earliest standing request is the one that is marked as served.
use Rattle.std.proofs.Common.{◌≡◌, ◌<◌, ◌≤◌, ℕ, zero, suc, ◌+◌, List, [], ◌∷◌, get_or, set, length, refl, ap, arith}
use Rattle.std.specs.Prelude.{Bool, Some, None, true, false, not, cond, nat_lt}
use Rattle.std.specs.List.{position, position_or_len}
use Rattle.std.proofs.lemmas.Bool.Decides.{nat_tests}
use Rattle.qs_base.specs.declared.identifiers.Member.{Member}
use Rattle.qs_book_machine.specs.declared.transaction.Request.{Request}
use Rattle.qs_book_machine.specs.Transaction.{is_standing, mark_served}

pub mark_served_at : (member : Member) (xs : List Request) (i : ℕ) (r d : Request) → i < length xs → is_standing member (get_or xs i d) ≡ true → ((k : ℕ) → k < i → is_standing member (get_or xs k d) ≡ false) → r ≡ get_or xs i d → set xs i (record r { served = true }) ≡ mark_served member xs
mark_served_at member [] i r d l is before e = absurd (omega arith)
mark_served_at member (x ∷ xs) zero r d l is before e = rw is (ap (λ (q : Request). record q { served = true } ∷ xs) e)
mark_served_at member (x ∷ xs) (suc i) r d l is before e =
    let first : is_standing member x ≡ false = before 0 (omega arith) in
    rw first (ap (λ (l : List Request). x ∷ l) (mark_served_at member xs i r d (omega arith) is (λ k less. before (suc k) (omega arith)) e))

none_below : (a b : ℕ) → cond (nat_lt a b) (Some a) None ≡ None → b ≤ a
none_below a b h = grind (arith, nat_tests)

unmarked : (member : Member) (xs : List Request) → length xs ≤ position_or_len (is_standing member) xs → xs ≡ mark_served member xs
unmarked member [] long = refl
unmarked member (x ∷ xs) long = by (is_standing member x) refl (unmarked member xs) long
  where
    by : (b : Bool) → is_standing member x ≡ b → (length xs ≤ position_or_len (is_standing member) xs → xs ≡ mark_served member xs) → suc (length xs) ≤ cond (not b) (1 + position_or_len (is_standing member) xs) 0 → x ∷ xs ≡ mark_served member (x ∷ xs)
    by true is more l = absurd (omega arith)
    by false is more l = rw is (ap (λ (l : List Request). x ∷ l) (more (omega arith)))

pub mark_served_none : (member : Member) (xs : List Request) → position (is_standing member) xs ≡ None → xs ≡ mark_served member xs
mark_served_none member xs h = unmarked member xs (none_below (position_or_len (is_standing member) xs) (length xs) h)
