-- Facts about the lines of a text and the words of a line.
use Rattle.std.proofs.Common.{◌≡◌, ◌<◌, ◌≤◌, ℕ, ◌+◌, ◌==◌, Bool, true, false, cond, List, [], ◌∷◌, length, take, drop, Some, None, refl, arith, subst, not, ◌∙◌, ap}
use Rattle.std.specs.List.{slice_split, onto_first, position, position_or_len, before_first, after_first}
use Rattle.std.proofs.lemmas.List.Splits.{slice_split_first}
use Rattle.std.proofs.lemmas.Bool.Decides.{nat_tests}
use borrow.Author.Tests.{ltb-true, ltb-false}
use Rattle.qs_book_script.specs.Lines.{lines_of, without_empty_end}

abbrev is_feed : ℕ → Bool
is_feed byte = byte == 10

-- a list that is cut has a part at least
onto_cons : (byte : ℕ) (parts : List (List ℕ)) → (first : List ℕ) × (more : List (List ℕ)) × (onto_first byte parts ≡ first ∷ more)
onto_cons byte [] = (byte ∷ [], [], refl)
onto_cons byte (part ∷ parts) = (byte ∷ part, parts, refl)

cut_cons : (text : List ℕ) → (first : List ℕ) × (more : List (List ℕ)) × (slice_split is_feed text ≡ first ∷ more)
cut_cons [] = ([], [], refl)
cut_cons (byte ∷ bytes) =
    elim (is_feed byte) as (λ t. (first : List ℕ) × (more : List (List ℕ)) × (cond t ([] ∷ slice_split is_feed bytes) (onto_first byte (slice_split is_feed bytes)) ≡ first ∷ more)) [
      | true ↦ ([], slice_split is_feed bytes, refl)
      | false ↦ onto_cons byte (slice_split is_feed bytes)
    ]

more_lines : (line text : List ℕ) → without_empty_end (line ∷ slice_split is_feed text) ≡ line ∷ without_empty_end (slice_split is_feed text)
more_lines line text = let c = cut_cons text in rw (c.2) refl

found : (b : Bool) (n at : ℕ) → cond b (Some n) None ≡ Some at → (b ≡ true) × (n ≡ at)
found true n at e = (refl, cc)
found false n at e = cc

lost : (b : Bool) (n : ℕ) → cond b (Some n) None ≡ None → b ≡ false
lost true n e = cc
lost false n e = refl

pub line_at : (text : List ℕ) (at : ℕ) → position is_feed text ≡ Some at → lines_of text ≡ take at text ∷ lines_of (drop (at + 1) text)
line_at text at e =
    let f = found _ _ at e in
    let inside : position_or_len is_feed text < length text = ltb-true _ _ f.0 in
    let cut : slice_split is_feed text ≡ before_first is_feed text ∷ slice_split is_feed (after_first is_feed text) = slice_split_first is_feed text 0 inside in
    let all : lines_of text ≡ before_first is_feed text ∷ lines_of (after_first is_feed text) =
    ap without_empty_end cut ∙ more_lines (before_first is_feed text) (after_first is_feed text) in
    subst (λ n. lines_of text ≡ take n text ∷ lines_of (drop (n + 1) text)) f.1 all

uncut_more : (byte : ℕ) (bytes : List ℕ) (t : Bool) → (length bytes ≤ position_or_len is_feed bytes → slice_split is_feed bytes ≡ bytes ∷ [])
    → length (byte ∷ bytes) ≤ cond (not t) (1 + position_or_len is_feed bytes) 0
    → cond t ([] ∷ slice_split is_feed bytes) (onto_first byte (slice_split is_feed bytes)) ≡ (byte ∷ bytes) ∷ []
uncut_more byte bytes true rest h = absurd (omega arith)
uncut_more byte bytes false rest h = let cut : slice_split is_feed bytes ≡ bytes ∷ [] = rest (omega arith) in rw cut refl

uncut : (text : List ℕ) → length text ≤ position_or_len is_feed text → slice_split is_feed text ≡ text ∷ []
uncut [] h = refl
uncut (byte ∷ bytes) h = uncut_more byte bytes (is_feed byte) (uncut bytes) h

alone : (text : List ℕ) → 0 < length text → without_empty_end (text ∷ []) ≡ text ∷ []
alone text h = grind (arith, nat_tests)

pub last_line : (text : List ℕ) → 0 < length text → position is_feed text ≡ None → lines_of text ≡ text ∷ lines_of []
last_line text some e =
    ap without_empty_end (uncut text (ltb-false _ _ (lost _ _ e))) ∙ alone text some
