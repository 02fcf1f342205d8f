-- A note's text tells its count.
use Rattle.qs_world_lawful.proofs.Words.{◌≡◌, ℕ, ◌+◌, ◌<◌, ◌≤◌, ◌==◌, ◌^◌, ◌++◌, Bool, true, false, List, [], ◌∷◌, zero, suc, refl, sym, ap, subst, ◌∙◌, arith, nat_lt, length, if◌then◌else◌, nat_tests, Tid, is_zero_plus}
use Rattle.std.proofs.Common.{◌/◌, ◌*◌, ◌%◌, codes}
use Rattle.std.proofs.Math.Nat.{le-div_iff_mul-le}
use Rattle.std.proofs.lemmas.Fmt.{decimal_is_IsNumeral_wide, length-decimal-le}
use Rattle.std.proofs.lemmas.List.{append_cancel_left}
use Rattle.std.specs.Fmt.{decimal, digit_glyph, digits, digits_onto}
use Rattle.std.specs.Str.Parse.{digits_value}
use native.Mathlib.Numerals.{unary_clauses}
use Rattle.qs_book_machine.specs.Clauses.{note_text}

-- so many digits of a number that has more
power : (k : ℕ) → 10 ^ suc k ≡ 10 ^ k * 10
power k = simp unary_clauses refl

some : (k : ℕ) → 1 ≤ 10 ^ k
some zero = grind arith
some (suc k) = more (10 ^ k) (10 ^ suc k) (power k) (some k)
  where
    more : (a b : ℕ) → b ≡ a * 10 → 1 ≤ a → 1 ≤ b
    more a b e h = grind (arith, e, h)

rest : (k n : ℕ) → 10 ^ suc k ≤ n → 10 ^ k ≤ n / 10
rest k n h = (le-div_iff_mul-le ten).1 (subst (λ (m : ℕ). m ≤ n) (power k) h)
  where
    ten : zero < 10
    ten = grind arith

full : (k n : ℕ) (acc : List ℕ) → 10 ^ k ≤ n → length (digits_onto k 10 false n acc) ≡ k + length acc
full zero n acc h = is_zero_plus (length acc)
full (suc k) n acc h = by (n / 10 == 0) refl (full k (n / 10) (digit_glyph false (n % 10) ∷ acc) (rest k n h))
  where
    no : (a b : ℕ) → 1 ≤ a → a ≤ b → (b == 0) ≡ true → ⊥
    no a b p q e = grind (arith, nat_tests, p, q, e)

    one : (m : ℕ) → k + suc m ≡ suc k + m
    one m = grind arith

    by : (b : Bool) → (n / 10 == 0) ≡ b → length (digits_onto k 10 false (n / 10) (digit_glyph false (n % 10) ∷ acc)) ≡ k + length (digit_glyph false (n % 10) ∷ acc) → length (if b then digit_glyph false (n % 10) ∷ acc else digits_onto k 10 false (n / 10) (digit_glyph false (n % 10) ∷ acc)) ≡ suc k + length acc
    by true e more = absurd (no (10 ^ k) (n / 10) (some k) (rest k n h) e)
    by false e more = more ∙ one (length acc)

long : (n : ℕ) → 10 ^ 64 ≤ n → length (decimal n) ≡ 64
unfolding digits
long n h = full 64 n [] h

pub same_count : (a b : ℕ) → b < 2 ^ 64 → decimal a ≡ decimal b → a ≡ b
same_count a b small same = by (nat_lt a (10 ^ 64)) refl
  where
    less : nat_lt a (10 ^ 64) ≡ true → a < 10 ^ 64
    less e = grind (arith, nat_tests, e)

    most : nat_lt a (10 ^ 64) ≡ false → 10 ^ 64 ≤ a
    most e = grind (arith, nat_tests, e)

    wide : b < 10 ^ 64
    wide = grind (arith, small)

    short : length (decimal b) ≤ 20
    short = length-decimal-le 20 b (grind arith) (grind (arith, small)) small

    never : (n : ℕ) → n ≡ 64 → n ≤ 20 → ⊥
    never n e l = grind (arith, e, l)

    by : (t : Bool) → nat_lt a (10 ^ 64) ≡ t → a ≡ b
    by true e = sym (decimal_is_IsNumeral_wide a (less e)).1 ∙ (ap (digits_value 10) same ∙ (decimal_is_IsNumeral_wide b wide).1)
    by false e = absurd (never (length (decimal b)) (sym (ap (λ (ds : List ℕ). length ds) same) ∙ long a (most e)) short)

pub same_text : (tid : Tid) (here a b : ℕ) → b < 2 ^ 64 → note_text tid here a ≡ note_text tid here b → a ≡ b
same_text tid here a b small same = same_count a b small
    (append_cancel_left (codes ":") (decimal a) (decimal b)
    (append_cancel_left (decimal here) (codes ":" ++ decimal a) (codes ":" ++ decimal b)
    (append_cancel_left (codes ":files@") (decimal here ++ (codes ":" ++ decimal a)) (decimal here ++ (codes ":" ++ decimal b))
    (append_cancel_left (decimal tid.seq) _ _
    (append_cancel_left (codes ".") _ _
    (append_cancel_left (decimal tid.inc) _ _
    (append_cancel_left (codes ".") _ _
    (append_cancel_left (decimal tid.home.0) _ _ same))))))))
