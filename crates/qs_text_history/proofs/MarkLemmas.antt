-- Facts about what stands before and behind a mark in a word, and about words.
use Rattle.std.proofs.Common.{◌≡◌, ◌<◌, ◌⊎◌, inl, inr, ℕ, ◌+◌, ◌^◌, ◌==◌, ◌&&◌, suc, Bool, true, false, not, cond, List, [], ◌∷◌, ◌++◌, length, take, drop, refl, ◌∙◌, ap, arith, length-append}
use Rattle.std.specs.Prelude.{decimal, nat_lt}
use Rattle.std.specs.List.{list_all, position_or_len}
use Rattle.std.specs.Char.{is_ascii_digit}
use Rattle.std.proofs.lemmas.Bool.{lt-ltb}
use Rattle.std.proofs.lemmas.Bool.Decides.{nat_tests}
use Rattle.std.proofs.lemmas.List.Folds.{list_all-append}
use Rattle.std.proofs.lemmas.Fmt.{digits_decimal, decimal_nonempty}
use Rattle.qs_book_script.proofs.WordLemmas.{own}
use Rattle.qs_text_history.specs.Words.{is_letter, is_word}
use Rattle.qs_text_history.specs.Inner.Words.{before, after}

pub both : (a b : Bool) → (a && b) ≡ true → (a ≡ true) × (b ≡ true)
both true b e = (refl, e)
both false b e = cc

-- ---- marks

-- the mark is none of the bytes
abbrev pub free : ℕ → List ℕ → Bool
free mark bytes = list_all (λ byte. not (byte == mark)) bytes

take_one : (n byte : ℕ) (bytes : List ℕ) → take (1 + n) (byte ∷ bytes) ≡ byte ∷ take n bytes
take_one n byte bytes = let e : 1 + n ≡ suc n = omega arith in rw e refl

drop_one : (n byte : ℕ) (bytes : List ℕ) → drop (1 + n + 1) (byte ∷ bytes) ≡ drop (n + 1) bytes
drop_one n byte bytes = let e : 1 + n + 1 ≡ suc (n + 1) = omega arith in rw e refl

same_mark : (mark : ℕ) → (mark == mark) ≡ true
same_mark mark = grind (arith, nat_tests)

mark_is : (byte mark : ℕ) → (byte == mark) ≡ true → byte ≡ mark
mark_is byte mark e = grind (arith, nat_tests)

pub before_mark : (mark : ℕ) (front back : List ℕ) → free mark front ≡ true → before mark (front ++ mark ∷ back) ≡ front
before_mark mark [] back e = rw (same_mark mark) refl
before_mark mark (byte ∷ front) back e =
    let b = both (not (byte == mark)) (free mark front) e in
    rw (b.0) (take_one (position_or_len (λ b. b == mark) (front ++ mark ∷ back)) byte (front ++ mark ∷ back) ∙ ap (λ xs. byte ∷ xs) (before_mark mark front back b.1))

pub after_mark : (mark : ℕ) (front back : List ℕ) → free mark front ≡ true → after mark (front ++ mark ∷ back) ≡ back
after_mark mark [] back e = rw (same_mark mark) refl
after_mark mark (byte ∷ front) back e =
    let b = both (not (byte == mark)) (free mark front) e in
    rw (b.0) (drop_one (position_or_len (λ b. b == mark) (front ++ mark ∷ back)) byte (front ++ mark ∷ back) ∙ after_mark mark front back b.1)

cut_step : (mark byte : ℕ) (word : List ℕ) (b : Bool) → (byte == mark) ≡ b → (0 < length (after mark word) → word ≡ before mark word ++ mark ∷ after mark word)
    → 0 < length (drop (cond (not b) (1 + position_or_len (λ x. x == mark) word) 0 + 1) (byte ∷ word))
    → byte ∷ word ≡ take (cond (not b) (1 + position_or_len (λ x. x == mark) word) 0) (byte ∷ word) ++ mark ∷ drop (cond (not b) (1 + position_or_len (λ x. x == mark) word) 0 + 1) (byte ∷ word)
cut_step mark byte word true e rest h = ap (λ x. x ∷ word) (mark_is byte mark e)
cut_step mark byte word false e rest h =
    let n = position_or_len (λ x. x == mark) word in
    let back = drop_one n byte word in
    rw (take_one n byte word, back) (ap (λ xs. byte ∷ xs) (rest (rw back at h)))

-- where something stands behind the mark, the word is what stands before it, the mark, and that
pub cut_at : (mark : ℕ) (word : List ℕ) → 0 < length (after mark word) → word ≡ before mark word ++ mark ∷ after mark word
cut_at mark [] h = absurd (omega arith)
cut_at mark (byte ∷ word) h = cut_step mark byte word (byte == mark) refl (cut_at mark word) h

-- ---- digits and words

pub all_weaker : (p q : ℕ → Bool) → ((byte : ℕ) → p byte ≡ true → q byte ≡ true) → (bytes : List ℕ) → list_all p bytes ≡ true → list_all q bytes ≡ true
all_weaker p q less [] e = refl
all_weaker p q less (byte ∷ bytes) e =
    let b = both (p byte) (list_all p bytes) e in
    rw (less byte b.0, all_weaker p q less bytes b.1) refl

digit_unmarked : (mark byte : ℕ) → (mark < 48) ⊎ (57 < mark) → is_ascii_digit byte ≡ true → not (byte == mark) ≡ true
digit_unmarked mark byte (inl low) e = grind (arith, nat_tests)
digit_unmarked mark byte (inr high) e = grind (arith, nat_tests)

digit_letter : (byte : ℕ) → is_ascii_digit byte ≡ true → is_letter byte ≡ true
digit_letter byte e = grind (arith, nat_tests)

pub decimal_free : (mark n : ℕ) → (mark < 48) ⊎ (57 < mark) → n < 2 ^ 64 → free mark (decimal n) ≡ true
decimal_free mark n apart small = all_weaker is_ascii_digit (λ byte. not (byte == mark)) (λ byte e. digit_unmarked mark byte apart e) (decimal n) (digits_decimal own n small)

pub decimal_letters : (n : ℕ) → n < 2 ^ 64 → list_all is_letter (decimal n) ≡ true
decimal_letters n small = all_weaker is_ascii_digit is_letter digit_letter (decimal n) (digits_decimal own n small)

pub word_from : (word : List ℕ) → 0 < length word → list_all is_letter word ≡ true → is_word word ≡ true
word_from word some letters = rw (letters, lt-ltb 0 (length word) some) refl

pub word_letters : (word : List ℕ) → is_word word ≡ true → list_all is_letter word ≡ true
word_letters word e = (both (nat_lt 0 (length word)) (list_all is_letter word) e).1

pub decimal_word : (n : ℕ) → n < 2 ^ 64 → is_word (decimal n) ≡ true
decimal_word n small = word_from (decimal n) (decimal_nonempty n small) (decimal_letters n small)

-- two words with a mark between them are one
pub marked_word : (mark : ℕ) (front back : List ℕ) → is_letter mark ≡ true → list_all is_letter front ≡ true → list_all is_letter back ≡ true
    → is_word (front ++ mark ∷ back) ≡ true
marked_word mark front back m f b =
    word_from (front ++ mark ∷ back) (omega (arith, length-append front (mark ∷ back))) (rw (list_all-append is_letter front (mark ∷ back), f, m, b) refl)
