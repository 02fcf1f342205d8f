-- What a hole writes that asks for eight hexadecimal digits.
use Rattle.std.proofs.Common.{◌≡◌, ℕ, zero, suc, ◌+◌, ◌-◌, ◌/◌, ◌%◌, ◌^◌, ◌<◌, ◌≤◌, Bool, true, false, cond, eqb, eqb-true, eq-eqb, List, [], ◌∷◌, ◌++◌, length, replicate, refl, sym, ap, ◌∙◌, subst, append_assoc, append-nil, pow-suc, arith, Result, IfOk}
use Rattle.std.specs.Fmt.{digit_glyph, digits_onto, digits, padded_integral, char_count, format_spec}
use Rattle.std.proofs.lemmas.List.{replicate_more}
use Rattle.std.proofs.lemmas.Result.{IfOk-weaker}
use Rattle.qs_gen.specs.Lines.{hex_digits}

-- the digits of zero
zeros : (count : ℕ) → hex_digits count 0 ≡ replicate count 48
unfolding hex_digits
zeros zero = refl
zeros (suc count) =
    let next : count + 1 ≡ suc count = omega arith in
    ap (λ (xs : List ℕ). xs ++ 48 ∷ []) (zeros count) ∙ replicate_more count 48 ∙ ap (λ (n : ℕ). replicate n 48) next

-- the front of the number has no digits left
last_digit : (k n : ℕ) (acc : List ℕ) → n / 16 ≡ 0
    → replicate (suc k + length acc - suc (length acc)) 48 ++ digit_glyph false (n % 16) ∷ acc ≡ hex_digits (suc k) n ++ acc
unfolding hex_digits
last_digit k n acc front =
    let left : suc k + length acc - suc (length acc) ≡ k = omega arith in
    let digit : List ℕ = digit_glyph false (n % 16) ∷ [] in
    ap (λ (m : ℕ). replicate m 48 ++ (digit ++ acc)) left
    ∙ sym (append_assoc (replicate k 48) digit acc)
    ∙ ap (λ (xs : List ℕ). (xs ++ digit) ++ acc) (sym (zeros k))
    ∙ ap (λ (m : ℕ). (hex_digits k m ++ digit) ++ acc) (sym front)

-- the front of the number goes before its last digit
front_digits : (k n : ℕ) (acc spelled : List ℕ)
    → replicate (suc k + suc (length acc) - length spelled) 48 ++ spelled ≡ hex_digits (suc k) (n / 16) ++ digit_glyph false (n % 16) ∷ acc
    → replicate (suc (suc k) + length acc - length spelled) 48 ++ spelled ≡ hex_digits (suc (suc k)) n ++ acc
unfolding hex_digits
front_digits k n acc spelled front =
    let same : suc (suc k) + length acc ≡ suc k + suc (length acc) = omega arith in
    ap (λ (m : ℕ). replicate (m - length spelled) 48 ++ spelled) same ∙ front
    ∙ sym (append_assoc (hex_digits (suc k) (n / 16)) (digit_glyph false (n % 16) ∷ []) acc)

-- one digit more
spelled_on : (j n : ℕ) (acc : List ℕ) (t : Bool) → eqb (n / 16) 0 ≡ t → digits_onto (suc j) 16 false n acc
    ≡ cond t (digit_glyph false (n % 16) ∷ acc) (digits_onto j 16 false (n / 16) (digit_glyph false (n % 16) ∷ acc))
spelled_on j n acc t e =
    ap (λ (b : Bool). cond b (digit_glyph false (n % 16) ∷ acc) (digits_onto j 16 false (n / 16) (digit_glyph false (n % 16) ∷ acc))) e

-- zeros before it make of the text k + 1 digits of the number, with what stands behind them
abbrev IsPadded : ℕ → ℕ → List ℕ → List ℕ → Type 0
IsPadded k n acc spelled = replicate (suc k + length acc - length spelled) 48 ++ spelled ≡ hex_digits (suc k) n ++ acc

padded : (k j n : ℕ) (acc : List ℕ) → n < 16 ^ suc k → suc k ≤ j → IsPadded k n acc (digits_onto j 16 false n acc)
padded k zero n acc small enough = absurd (omega arith)
padded zero (suc j) n acc small enough =
    let power = pow-suc 16 0 in
    let front : n / 16 ≡ 0 = omega arith in
    subst (IsPadded zero n acc) (sym (spelled_on j n acc true (eq-eqb (n / 16) 0 front))) (last_digit zero n acc front)
padded (suc k) (suc j) n acc small enough = by (padded k j (n / 16) (digit_glyph false (n % 16) ∷ acc)) (eqb (n / 16) 0) refl
  where
    by : (n / 16 < 16 ^ suc k → suc k ≤ j → IsPadded k (n / 16) (digit_glyph false (n % 16) ∷ acc) (digits_onto j 16 false (n / 16) (digit_glyph false (n % 16) ∷ acc)))
        → (t : Bool) → eqb (n / 16) 0 ≡ t → IsPadded (suc k) n acc (digits_onto (suc j) 16 false n acc)
    by front true e = subst (IsPadded (suc k) n acc) (sym (spelled_on j n acc true e)) (last_digit (suc k) n acc (eqb-true (n / 16) 0 e))
    by front false e =
        let power = pow-suc 16 (suc k) in
        subst (IsPadded (suc k) n acc) (sym (spelled_on j n acc false e)) (front_digits k n acc _ (front (omega arith) (omega arith)))

-- (the bound stands as a variable, so that the digits are not spelled out one by one)
same_digits : (j n : ℕ) → j ≡ 64 → digits 16 false n ≡ digits_onto j 16 false n []
unfolding digits
same_digits j n is = ap (λ (k : ℕ). digits_onto k 16 false n []) (sym is)

-- what the options of the hole make of a numeral
written : (numeral : List ℕ) → padded_integral (format_spec 32 0 4 8 (2 ^ 64 - 1)) false [] numeral ≡ replicate (8 + 0 - length numeral) 48 ++ numeral
unfolding padded_integral char_count
written numeral =
    let left : 8 - length numeral - 0 - 0 ≡ 8 + 0 - length numeral = omega arith in
    rw (append-nil numeral, left) refl

padded_eight : (j n : ℕ) → n < 2 ^ 32 → j ≡ 64 → replicate (8 + 0 - length (digits 16 false n)) 48 ++ digits 16 false n ≡ hex_digits 8 n
padded_eight j n small is =
    subst (λ (xs : List ℕ). replicate (8 + 0 - length xs) 48 ++ xs ≡ hex_digits 8 n) (sym (same_digits j n is))
    (padded 7 j n [] (omega arith) (omega arith) ∙ append-nil (hex_digits 8 n))

eight_digits : (n : ℕ) → n < 2 ^ 32 → padded_integral (format_spec 32 0 4 8 (2 ^ 64 - 1)) false [] (digits 16 false n) ≡ hex_digits 8 n
eight_digits n small = written (digits 16 false n) ∙ padded_eight 64 n small refl

-- what a hole with these options writes
pub written_eight : {X E : Type 0} (r : Result X E) (text : X → List ℕ) (n : ℕ) → n < 2 ^ 32
    → IfOk r (λ x. text x ≡ padded_integral (format_spec 32 0 4 8 (2 ^ 64 - 1)) false [] (digits 16 false n)) → IfOk r (λ x. text x ≡ hex_digits 8 n)
written_eight r text n small shown = IfOk-weaker r _ _ (λ x e. e ∙ eight_digits n small) shown
