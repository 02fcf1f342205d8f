-- What digits make of a number, one after another.
use Rattle.std.proofs.Common.{◌≡◌, ◌<◌, ◌≤◌, ℕ, ◌+◌, ◌*◌, ◌-◌, ◌^◌, Bool, true, false, cond, List, [], ◌∷◌, length, drop, get_or, Some, None, refl, sym, ◌∙◌, subst, arith, drop-cons, add-one}
use Rattle.std.specs.Prelude.{nat_lt}
use Rattle.std.proofs.Math.ListN.{drop_of_length-le}
use Rattle.std.proofs.lemmas.Bool.{lt-ltb, le-ltb, ltb-true}
use borrow.Author.Tests.{ltb-false}
use Rattle.qs_book_script.specs.Numbers.{below, read_on}

-- further digits make no less of a number
read_on_le : (number : ℕ) (digits : List ℕ) → number ≤ read_on number digits
read_on_le number [] = omega arith
read_on_le number (digit ∷ digits) =
    let rest : 10 * number + (digit - 48) ≤ read_on (10 * number + (digit - 48)) digits = read_on_le (10 * number + (digit - 48)) digits in
    omega arith

-- what the digits from a place on make of a number
pub read_on_next : (value : ℕ) (digits : List ℕ) (at : ℕ) → at < length digits
    → read_on value (drop at digits) ≡ read_on (10 * value + (get_or digits at 0 - 48)) (drop (at + 1) digits)
read_on_next value digits at inside = rw (drop-cons digits at 0, add-one) refl

pub below_is : (limit value n : ℕ) → below limit (Some value) ≡ Some n → (value < limit) × (value ≡ n)
below_is limit value n e = small (nat_lt value limit) refl e
  where
    small : (b : Bool) → nat_lt value limit ≡ b → cond b (Some value) None ≡ Some n → (value < limit) × (value ≡ n)
    small true t s = (ltb-true _ _ t, cc)
    small false t s = cc

below_none : (limit value : ℕ) → limit ≤ value → below limit (Some value) ≡ None
below_none limit value high = rw (le-ltb value limit high) refl

below_not : (limit value : ℕ) → below limit (Some value) ≡ None → limit ≤ value
below_not limit value e = high (nat_lt value limit) refl e
  where
    high : (b : Bool) → nat_lt value limit ≡ b → cond b (Some value) None ≡ None → limit ≤ value
    high true t s = cc
    high false t s = ltb-false value limit t

-- ---- reading digit by digit

pub value_next : (value next at : ℕ) (digits : List ℕ) → at < length digits → read_on value (drop at digits) ≡ read_on 0 digits
    → below (2 ^ 64) (Some (10 * value + (get_or digits at 0 - 48))) ≡ Some next
    → (read_on next (drop (at + 1) digits) ≡ read_on 0 digits) × (next < 2 ^ 64)
value_next value next at digits inside same e =
    let b = below_is (2 ^ 64) _ next e in
    (subst (λ v. read_on v (drop (at + 1) digits) ≡ read_on 0 digits) b.1 (sym (read_on_next value digits at inside) ∙ same), subst (λ v. v < 2 ^ 64) b.1 b.0)

pub value_lost : (value at : ℕ) (digits : List ℕ) → at < length digits → read_on value (drop at digits) ≡ read_on 0 digits
    → below (2 ^ 64) (Some (10 * value + (get_or digits at 0 - 48))) ≡ None → below (2 ^ 64) (Some (read_on 0 digits)) ≡ None
value_lost value at digits inside same e =
    let next = 10 * value + (get_or digits at 0 - 48) in
    let high : 2 ^ 64 ≤ next = below_not (2 ^ 64) next e in
    let more : next ≤ read_on next (drop (at + 1) digits) = read_on_le next (drop (at + 1) digits) in
    let is : read_on next (drop (at + 1) digits) ≡ read_on 0 digits = sym (read_on_next value digits at inside) ∙ same in
    below_none (2 ^ 64) (read_on 0 digits) (omega arith)

pub value_whole : (value at : ℕ) (digits : List ℕ) → length digits ≤ at → read_on value (drop at digits) ≡ read_on 0 digits → value < 2 ^ 64
    → Some value ≡ below (2 ^ 64) (Some (read_on 0 digits))
value_whole value at digits end same small =
    let e : value ≡ read_on 0 digits = rw (drop_of_length-le digits end) at same in
    rw (← e, lt-ltb value (2 ^ 64) small) refl
