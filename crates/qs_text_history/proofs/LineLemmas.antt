-- A line is its words with blanks between them.
use Rattle.std.proofs.Common.{◌≡◌, ℕ, ◌==◌, Bool, true, false, List, [], ◌∷◌, ◌++◌, All, refl, sym, ◌∙◌, ap, subst, arith}
use Rattle.std.specs.List.{list_all, slice_split, join_with_byte}
use Rattle.std.proofs.lemmas.Bool.Decides.{nat_tests}
use Rattle.std.proofs.lemmas.List.{append-nil}
use Rattle.std.proofs.lemmas.List.Elements.{All-cons}
use Rattle.std.proofs.lemmas.List.Splits.{slice_split_none, slice_split_at, join_with_byte-slice_split}
use Rattle.qs_text_script.specs.Answers.{list_text}
use Rattle.qs_text_history.specs.Words.{is_word, is_letter}
use Rattle.qs_text_history.specs.Inner.Words.{words_of, words_if}
use Rattle.qs_text_history.proofs.MarkLemmas.{both, word_letters}

letter_unblank : (byte : ℕ) → is_letter byte ≡ true → (byte == 32) ≡ false
letter_unblank byte e = grind (arith, nat_tests)

unblank : (word : List ℕ) → list_all is_letter word ≡ true → All (λ byte. (byte == 32) ≡ false) word
unblank [] e = λ k d h. absurd (omega arith)
unblank (byte ∷ word) e = let b = both (is_letter byte) (list_all is_letter word) e in All-cons (λ byte. (byte == 32) ≡ false) byte word (letter_unblank byte b.0) (unblank word b.1)

cut_words : (first : List ℕ) (rest : List (List ℕ)) → list_all is_word (first ∷ rest) ≡ true → slice_split (λ byte. byte == 32) (first ++ list_text rest) ≡ first ∷ rest
cut_words first [] good =
    let g = both (is_word first) true good in
    rw (append-nil first) (slice_split_none (λ byte. byte == 32) first (unblank first (word_letters first g.0)))
cut_words first (word ∷ rest) good =
    let g = both (is_word first) (list_all is_word (word ∷ rest)) good in
    slice_split_at (λ byte. byte == 32) first 32 (word ++ list_text rest) (unblank first (word_letters first g.0)) refl
    ∙ ap (λ words. first ∷ words) (cut_words word rest g.1)

-- the words of a line that was made of words
pub words_read : (first : List ℕ) (rest : List (List ℕ)) → list_all is_word (first ∷ rest) ≡ true → words_of (first ++ list_text rest) ≡ first ∷ rest
unfolding words_of
words_read first rest good = rw (cut_words first rest good, good) refl

joined : (first : List ℕ) (rest : List (List ℕ)) → join_with_byte 32 (first ∷ rest) ≡ first ++ list_text rest
joined first [] = sym (append-nil first)
joined first (word ∷ rest) = ap (λ text. first ++ 32 ∷ text) (joined word rest)

kept_words : (words : List (List ℕ)) (good : Bool) (first : List ℕ) (rest : List (List ℕ)) → list_all is_word words ≡ good → words_if words good ≡ first ∷ rest
    → (words ≡ first ∷ rest) × (list_all is_word (first ∷ rest) ≡ true)
kept_words words true first rest e is = (is, subst (λ ws. list_all is_word ws ≡ true) is e)
kept_words words false first rest e is = cc

-- a line with words is made of them
pub words_back : (line first : List ℕ) (rest : List (List ℕ)) → words_of line ≡ first ∷ rest → (line ≡ first ++ list_text rest) × (list_all is_word (first ∷ rest) ≡ true)
unfolding words_of
words_back line first rest e =
    let parts = slice_split (λ byte. byte == 32) line in
    let k = kept_words parts (list_all is_word parts) first rest refl e in
    (sym (join_with_byte-slice_split 32 line) ∙ (ap (join_with_byte 32) k.0 ∙ joined first rest), k.1)
