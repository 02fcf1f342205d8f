-- What is left open of the commands from a place on.
use Rattle.std.proofs.Common.{◌≡◌, ◌<◌, ◌≤◌, ℕ, ◌+◌, ◌-◌, Bool, true, false, ◌||◌, List, ◌∷◌, length, drop, get_or, Option, refl, sym, ◌∙◌, ap, subst, arith}
use Rattle.std.specs.List.{list_any}
use Rattle.std.proofs.lemmas.List.{drop_more}
use Rattle.qs_book_journal.specs.declared.script_line.ScriptLine.{ScriptLine}
use Rattle.qs_text_script.specs.Script.{ends, first_left_open, left_open}

or_swap : (a b : Bool) → (a || b) ≡ (b || a)
or_swap true true = refl
or_swap true false = refl
or_swap false true = refl
or_swap false false = refl

-- the commands from the place before on
pub cut_before : (lines : List ScriptLine) (at : ℕ) (line : ScriptLine) → 0 < at → at ≤ length lines → line ≡ get_or lines (at - 1) line → drop (at - 1) lines ≡ line ∷ drop at lines
cut_before lines at line some inside is =
    let n : at - 1 + 1 ≡ at = omega arith in
    let within : at - 1 < length lines = omega arith in
    subst (λ k. drop (at - 1) lines ≡ line ∷ drop k lines) n (drop_more lines (at - 1) line within ∙ ap (λ (x : ScriptLine). x ∷ drop (at - 1 + 1) lines) (sym is))

pub found_before : (lines rest : List ScriptLine) (line : ScriptLine) (ended : Bool) (later : List ScriptLine) (found : Option ℕ) → lines ≡ line ∷ rest → later ≡ rest
    → ended ≡ list_any (ends line.label) rest → found ≡ left_open rest → first_left_open line ended later found ≡ left_open lines
found_before lines rest line ended later found is same was before = rw (is, same, was, before) refl

pub ended_before : (lines rest : List ScriptLine) (line : ScriptLine) (label : List ℕ) (old new : Bool) → lines ≡ line ∷ rest → old ≡ list_any (ends label) rest
    → new ≡ (old || ends label line) → new ≡ list_any (ends label) lines
ended_before lines rest line label old new is was now = now ∙ (or_swap old (ends label line) ∙ rw (is, ← was) refl)
