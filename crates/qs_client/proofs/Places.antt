-- Where a client stands: the line that it sends is the next of its lines, and behind the last one none is out.
use Rattle.std.proofs.Common.{◌≡◌, ℕ, ◌+◌, ◌≤◌, true, false, refl, ap, ◌∙◌, arith, List, [], ◌∷◌, ◌++◌, length, take, Option, Some, None}
use Rattle.std.specs.Prelude.{Bool, ◌&&◌, slice_get, if◌then◌else◌}
use Rattle.std.specs.Option.{option_map}
use Rattle.std.proofs.lemmas.List.{take_more}
use Rattle.std.proofs.lemmas.Option.{slice_get_within, slice_get_past, get_or_from_slice_get}
use Rattle.qs_book_journal.specs.declared.script_line.ScriptLine.{ScriptLine}
use Rattle.qs_client.specs.declared.progress.Progress.{Progress}
use Rattle.qs_client.specs.Progress.{number_of, to_send, sent, is_number, awaits, sent_lines}

take_next : {A : Type 0} → (xs : List A) (k : ℕ) (x : A) → slice_get xs k ≡ Some x → take (k + 1) xs ≡ take k xs ++ x ∷ []
take_next {A} xs k x is = take_more xs k x (slice_get_within xs k x is) ∙ ap (λ (y : A). take k xs ++ y ∷ []) (get_or_from_slice_get xs k x x is)

next_from : (lines : List ScriptLine) (place : ℕ) (is_out : Bool) (line : ScriptLine) → (if is_out then None else slice_get lines place) ≡ Some line
    → take (place + 1) lines ≡ take (if is_out then place + 1 else place) lines ++ line ∷ []
next_from lines place true line is = grind (arith, is)
next_from lines place false line is = take_next lines place line is

pub sends_next : (line : ScriptLine) (progress : Progress) → to_send progress ≡ Some line → sent_lines (sent progress) ≡ sent_lines progress ++ line ∷ []
sends_next line progress is = next_from progress.lines progress.place progress.is_out line is

none_from : (number : ℕ) (lines : List ScriptLine) (place : ℕ) (is_out : Bool) → length lines ≤ place → (is_out && is_number number (option_map number_of (slice_get lines place))) ≡ false
none_from number lines place true far = ap (λ (line : Option ScriptLine). is_number number (option_map number_of line)) (slice_get_past lines place far)
none_from number lines place false far = refl

pub none_behind : (number : ℕ) (progress : Progress) → length progress.lines ≤ progress.place → awaits number progress ≡ false
none_behind number progress far = none_from number progress.lines progress.place progress.is_out far
