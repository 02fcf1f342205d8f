-- The lines of a history that was read are few enough to be numbered.
use Rattle.std.proofs.Common.{◌≡◌, ◌≤◌, ◌+◌, ◌==◌, ℕ, suc, Bool, true, false, cond, List, [], ◌∷◌, ◌++◌, length, ◌∙◌, ap, arith, length-append}
use Rattle.std.specs.List.{slice_split, onto_first}
use Rattle.qs_book_journal.specs.declared.entry.Entry.{Entry}
use Rattle.qs_book_machine.specs.declared.opened.Opened.{Opened}
use Rattle.qs_book_script.specs.Lines.{lines_of, without_empty_end}
use Rattle.qs_text_history.specs.Journal.{opening_lines, AreLines, IsJournal}

-- ---- how many lines a text has

onto_few : (x : ℕ) (parts : List (List ℕ)) (n : ℕ) → length parts ≤ n + 1 → length (onto_first x parts) ≤ n + 2
onto_few x [] n few = omega arith
onto_few x (part ∷ parts) n few = omega (arith, few)

split_few : (p : ℕ → Bool) (text : List ℕ) → length (slice_split p text) ≤ length text + 1
split_few p [] = omega arith
split_few p (x ∷ xs) = by (p x) (split_few p xs)
  where
    by : (b : Bool) → length (slice_split p xs) ≤ length xs + 1 → length (cond b ([] ∷ slice_split p xs) (onto_first x (slice_split p xs))) ≤ length (x ∷ xs) + 1
    by true few = omega (arith, few)
    by false few = let h = onto_few x (slice_split p xs) (length xs) few in omega (arith, h)

end_few : (lines : List (List ℕ)) → length (without_empty_end lines) ≤ length lines
end_few [] = omega arith
end_few (line ∷ []) = by (length line == 0)
  where
    by : (b : Bool) → length (cond b [] (line ∷ [])) ≤ 1
    by true = omega arith
    by false = omega arith
end_few (line ∷ next ∷ more) = let h = end_few (next ∷ more) in omega (arith, h)

lines_few : (text : List ℕ) → length (lines_of text) ≤ length text + 1
lines_few text =
    let parts = slice_split (λ byte. byte == 10) text in
    let a = end_few parts in
    let b = split_few (λ byte. byte == 10) text in
    omega (arith, a, b)

lines_counted : (before entries : List Entry) (lines : List (List ℕ)) → AreLines before entries lines → length lines ≡ length entries
lines_counted before [] lines are = ap length are
lines_counted before (entry ∷ entries) [] are = absurd are
lines_counted before (entry ∷ entries) (line ∷ lines) are = ap suc (lines_counted (before ++ entry ∷ []) entries lines are.1)

-- every line of a history has a number of 32 bits
pub numbers_fit : (text : List ℕ) (opened : List Opened) (entries : List Entry) (first : ℕ) → IsJournal (lines_of text) opened entries → length text ≤ 67108864 → first ≡ length (opening_lines opened) + 1
    → first + length entries ≤ 4294967295
numbers_fit text opened entries first j within is =
    let counted : length j.rest ≡ length entries = lines_counted [] entries j.rest j.entry_lines in
    let all : length (lines_of text) ≡ length (opening_lines opened) + length j.rest = ap length j.whole ∙ length-append (opening_lines opened) j.rest in
    let few = lines_few text in
    omega (arith, counted, all, few, within, is)
