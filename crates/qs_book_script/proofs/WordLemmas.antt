-- Facts about numbers among words.
use Rattle.std.proofs.Common.{◌≡◌, ◌<◌, ◌≤◌, ◌↔◌, ℕ, ◌^◌, ◌&&◌, ◌==◌, zero, suc, Bool, true, false, not, cond, List, [], ◌∷◌, length, get_or, Some, None, refl, sym, ◌∙◌, ap, subst, arith, rules}
use Rattle.std.specs.Char.{is_ascii_digit}
use Rattle.std.specs.List.{list_all}
use Rattle.std.specs.Fmt.{decimal}
use Rattle.std.proofs.lemmas.Bool.{lt-ltb, ltb-true}
use Rattle.std.proofs.lemmas.Bool.Decides.{nat_tests}
use Rattle.std.proofs.lemmas.Fmt.{decimal-digits_value, digits_value-decimal, digits_decimal, decimal_nonempty, length-decimal-le, first_decimal}
use Rattle.std.proofs.lemmas.Str.Parse.{IsNumeralModel, numerals_by_fold}
use Rattle.qs_book_script.specs.Numbers.{is_decimal, read_on, number_of}

pub own : IsNumeralModel (λ ds. list_all is_ascii_digit ds ≡ true) (read_on 0)
own = numerals_by_fold _ (search rules) read_on (search rules)

from_and : (a b : Bool) → (a && b) ≡ true → b ≡ true
from_and true b e = e
from_and false b e = cc

digits_of_decimal : (word : List ℕ) → is_decimal word ≡ true → (list_all is_ascii_digit word ≡ true) × (0 < length word)
digits_of_decimal [] e = cc
digits_of_decimal (digit ∷ []) e = (rw e refl, omega arith)
digits_of_decimal (first ∷ next ∷ more) e = (from_and (not (first == 48)) _ e, omega arith)

-- ---- one spelling

and_true : (a b : Bool) → (a && b) ≡ true → (a ≡ true) × (b ≡ true)
and_true true b e = (refl, e)
and_true false b e = cc

chosen : (b : Bool) (v n : ℕ) → cond b (Some v) None ≡ Some n → (b ≡ true) × (v ≡ n)
chosen true v n e = (refl, cc)
chosen false v n e = cc

no_zero_first : (word : List ℕ) → is_decimal word ≡ true → get_or word 0 0 ≡ 48 → length word ≡ 1
no_zero_first [] e z = cc
no_zero_first (digit ∷ []) e z = refl
no_zero_first (first ∷ next ∷ more) e z =
    let h : not (first == 48) ≡ true = (and_true _ _ e).0 in
    absurd (grind (arith, nat_tests))

is_decimal_word : (word : List ℕ) → list_all is_ascii_digit word ≡ true → 0 < length word → (1 < length word → 48 < get_or word 0 0) → is_decimal word ≡ true
is_decimal_word [] all some first = absurd (omega arith)
is_decimal_word (digit ∷ []) all some first = (and_true _ _ all).0
is_decimal_word (one ∷ next ∷ more) all some first =
    let above : 48 < one = first (omega arith) in
    let h : (one == 48) ≡ false = grind (arith, nat_tests) in
    rw (h, all) refl

to_spelling : (word : List ℕ) (n : ℕ) → number_of word ≡ Some n → (n < 2 ^ 64) × (word ≡ decimal n)
to_spelling word n e =
    let c = chosen _ _ _ e in
    let a = and_true _ _ c.0 in
    let d = digits_of_decimal word a.0 in
    let small : read_on 0 word < 2 ^ 64 = ltb-true _ _ a.1 in
    let same : decimal (read_on 0 word) ≡ word = decimal-digits_value own word d.0 d.1 (no_zero_first word a.0) small in
    (subst (λ m. m < 2 ^ 64) c.1 small, sym same ∙ ap decimal c.1)

first_digit : (n : ℕ) → n < 2 ^ 64 → 1 < length (decimal n) → 48 < get_or (decimal n) 0 0
first_digit zero small long =
    let short : length (decimal 0) ≤ 1 = length-decimal-le 1 0 (omega arith) (omega arith) small in
    absurd (omega arith)
first_digit (suc n) small long = first_decimal (suc n) (omega arith) small

from_spelling : (word : List ℕ) (n : ℕ) → (n < 2 ^ 64) × (word ≡ decimal n) → number_of word ≡ Some n
from_spelling word n h =
    let value : read_on 0 (decimal n) ≡ n = digits_value-decimal own n h.0 in
    let is : is_decimal (decimal n) ≡ true =
    is_decimal_word (decimal n) (digits_decimal own n h.0) (decimal_nonempty n h.0) (first_digit n h.0) in
    rw (h.1, is, value, lt-ltb _ _ h.0) refl

pub one_spelling : (word : List ℕ) (n : ℕ) → (number_of word ≡ Some n) ↔ ((n < 2 ^ 64) × (word ≡ decimal n))
one_spelling word n = (to_spelling word n, from_spelling word n)
