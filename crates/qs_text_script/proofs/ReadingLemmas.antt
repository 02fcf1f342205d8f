-- Facts about the commands that were read, and about the script that a text is.
use Rattle.std.proofs.Common.{◌≡◌, ◌<◌, ◌≤◌, ℕ, ◌+◌, Bool, true, false, ◌||◌, List, [], ◌∷◌, ◌++◌, length, Some, None, Result, Ok, Err, refl, sym, ◌∙◌, ap, subst}
use Rattle.std.specs.Prelude.{IsErrOf}
use Rattle.std.specs.List.{list_any}
use Rattle.std.proofs.lemmas.Bool.{lt-ltb, le-ltb}
use Rattle.std.proofs.lemmas.List.Folds.{list_any-append}
use Rattle.qs_book_journal.specs.declared.script_line.ScriptLine.{ScriptLine}
use Rattle.qs_text_script.specs.Indexes.{IsIndexed}
use Rattle.qs_book_script.specs.Lines.{lines_of}
use Rattle.qs_text_script.specs.Rules.{begins_line, owns_line, takes_line, fault_of, with_line, empty_script}
use Rattle.qs_text_script.specs.Script.{left_open, after_fault, read_from, unless_open, closed_script, line_past_limit, script_of}
use Rattle.qs_book_script.specs.Statements.{line_states}
use Rattle.qs_text_script.specs.Users.{has_client, is_begun_by, users_after, users_of}
use Rattle.qs_text_script.specs.declared.gathering.Gathered.{Gathered}
use Rattle.qs_text_script.specs.declared.label_index.Users.{Users}
use Rattle.qs_text_script.proofs.UserLemmas.{begun_by_line, owned_by_line, taken_by_line}
use Rattle.qs_text_script.specs.declared.reading.ScriptFailed.{ScriptFailed}
use Rattle.qs_text_script.specs.declared.reading.ScriptFailed.TheVariants.{Fault}
use Rattle.qs_book_script.specs.declared.script.Script.{Script}
use Rattle.qs_book_script.specs.declared.statement.Statement.{Statement}
use Rattle.qs_book_script.specs.declared.status.ScriptFault.{ScriptFault}
use Rattle.qs_book_script.specs.declared.status.ScriptFault.TheVariants.{TooLarge, Open}

-- ---- one more command

or_nothing : (old now : Bool) → (old || now) ≡ (old || (now || false))
or_nothing true true = refl
or_nothing true false = refl
or_nothing false true = refl
or_nothing false false = refl

pub any_more : (test : ScriptLine → Bool) (before : List ScriptLine) (line : ScriptLine) (old new : Bool) → old ≡ list_any test before → new ≡ (old || test line) → new ≡ list_any test (before ++ line ∷ [])
any_more test before line old new was is = is ∙ (or_nothing old (test line) ∙ rw (list_any-append test before (line ∷ []), ← was) refl)

pub indexed_more : (old new : Gathered) (line : ScriptLine) → IsIndexed old → new.script.lines ≡ old.script.lines ++ line ∷ []
    → ((label : List ℕ) → users_of label new.labels.users.entries ≡ users_after label line (users_of label old.labels.users.entries))
    → IsIndexed new
indexed_more old new line i lines users = record {
  begun = λ label. any_more (begins_line label) old.script.lines line _ _ (i.begun label) (ap is_begun_by (users label) ∙ begun_by_line label line (users_of label old.labels.users.entries)) ∙ ap (list_any (begins_line label)) (sym lines);
  owned = λ client label. any_more (owns_line client label) old.script.lines line _ _ (i.owned client label) (ap (λ (u : Users). has_client client u.owners) (users label) ∙ owned_by_line client label line (users_of label old.labels.users.entries)) ∙ ap (list_any (owns_line client label)) (sym lines);
  taken = λ client label. any_more (takes_line client label) old.script.lines line _ _ (i.taken client label) (ap (λ (u : Users). has_client client u.takers) (users label) ∙ taken_by_line client label line (users_of label old.labels.users.entries)) ∙ ap (list_any (takes_line client label)) (sym lines);
}

-- ---- one more line

pub left_more : (nodes : ℕ) (script : Script) (text line rest : List ℕ) (statement : Statement) → lines_of text ≡ line ∷ lines_of rest → statement ≡ line_states line
    → fault_of nodes script statement ≡ None → read_from nodes script (lines_of text) ≡ read_from nodes (with_line script statement) (lines_of rest)
left_more nodes script text line rest statement first is none =
    ap (read_from nodes script) first
    ∙ subst (λ s. after_fault script (fault_of nodes script s) (read_from nodes (with_line script s) (lines_of rest)) ≡ read_from nodes (with_line script statement) (lines_of rest)) is
    (ap (λ f. after_fault script f (read_from nodes (with_line script statement) (lines_of rest))) none)

pub fault_here : (nodes : ℕ) (script : Script) (text line rest : List ℕ) (statement : Statement) (fault : ScriptFault) → lines_of text ≡ line ∷ lines_of rest → statement ≡ line_states line
    → fault_of nodes script statement ≡ Some fault → read_from nodes script (lines_of text) ≡ Err (Fault (script.count + 1) fault)
fault_here nodes script text line rest statement fault first is some =
    ap (read_from nodes script) first
    ∙ subst (λ s. after_fault script (fault_of nodes script s) (read_from nodes (with_line script s) (lines_of rest)) ≡ Err (Fault (script.count + 1) fault)) is
    (ap (λ f. after_fault script f (read_from nodes (with_line script statement) (lines_of rest))) some)

-- ---- the whole

pub too_large : (nodes : ℕ) (text : List ℕ) (n line : ℕ) (fault : ScriptFault) → 1048576 < length text → n ≡ line_past_limit text
    → IsErrOf {T = Script} (Err (Fault n TooLarge)) (Fault line fault) → script_of nodes text ≡ Err (Fault line fault)
too_large nodes text n line fault long is e = rw (lt-ltb _ _ long, ← is) e

pub of_lines : (nodes : ℕ) (text : List ℕ) (read : Result Script ScriptFailed) → length text ≤ 1048576 → read_from nodes empty_script (lines_of text) ≡ read
    → script_of nodes text ≡ closed_script read
of_lines nodes text read short e = rw (le-ltb _ _ short, e) refl

pub bad_line : (nodes : ℕ) (text : List ℕ) (failed : ScriptFailed) → length text ≤ 1048576 → read_from nodes empty_script (lines_of text) ≡ Err failed
    → script_of nodes text ≡ Err failed
bad_line nodes text failed short e = of_lines nodes text (Err failed) short e

pub open_command : (nodes : ℕ) (text : List ℕ) (script : Script) (n line : ℕ) (fault : ScriptFault) → length text ≤ 1048576 → read_from nodes empty_script (lines_of text) ≡ Ok script
    → left_open script.lines ≡ Some n → IsErrOf {T = Script} (Err (Fault n Open)) (Fault line fault) → script_of nodes text ≡ Err (Fault line fault)
open_command nodes text script n line fault short read found e = of_lines nodes text (Ok script) short read ∙ ap (unless_open script) found ∙ e
