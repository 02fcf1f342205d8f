-- What holds of the script so far, and goes on at each line that has no fault, holds of a script that is read.
use Rattle.std.proofs.Common.{◌≡◌, ap, refl, subst, not, nat_lt, ℕ, Bool, true, false, List, [], ◌∷◌, length, Option, Some, None, Result, Ok, Err, if◌then◌else◌}
use Rattle.qs_text_script.specs.Rules.{empty_script, fault_of, fits, is_again, is_known, with_line}
use Rattle.qs_text_script.specs.Script.{after_fault, closed_script, left_open, line_past_limit, read_from, script_of, unless_open}
use Rattle.qs_text_script.specs.declared.reading.ScriptFailed.{ScriptFailed}
use Rattle.qs_text_script.specs.declared.reading.ScriptFailed.TheVariants.{Fault}
use Rattle.qs_book_script.specs.Lines.{lines_of}
use Rattle.qs_book_script.specs.Statements.{line_states}
use Rattle.qs_book_script.specs.declared.script.Script.{Script}
use Rattle.qs_book_script.specs.declared.statement.Statement.{Statement}
use Rattle.qs_book_script.specs.declared.statement.Statement.TheVariants as states
use Rattle.qs_book_script.specs.declared.status.ScriptFault.{ScriptFault}
use Rattle.qs_book_script.specs.declared.status.ScriptFault.TheVariants as faults

-- ---- a line without a fault

pub record IsRight (nodes : ℕ) (script : Script) (s : Statement) : Type 0 where
  pub known : is_known nodes script s ≡ true
  pub once : is_again script s ≡ false
  pub fit : fits script s ≡ true

unbroken : (known again fit : Bool) → (if not known then Some faults.Unknown else if again then Some faults.Twice else if not fit then Some faults.Limit else None) ≡ None
    → (known ≡ true) × ((again ≡ false) × (fit ≡ true))
unbroken false again fit is = absurd (cc is)
unbroken true true fit is = absurd (cc is)
unbroken true false false is = absurd (cc is)
unbroken true false true is = (refl, (refl, refl))

module _ (nodes : ℕ) (script : Script) where
  by_rules : (s : Statement) → (if not (is_known nodes script s) then Some faults.Unknown else if is_again script s then Some faults.Twice else if not (fits script s) then Some faults.Limit else None) ≡ None
      → IsRight nodes script s
  by_rules s is = let rules = unbroken (is_known nodes script s) (is_again script s) (fits script s) is in record { known = rules.0; once = rules.1.0; fit = rules.1.1 }

  right : (s : Statement) → fault_of nodes script s ≡ None → IsRight nodes script s
  right states.Nothing is = by_rules states.Nothing is
  right (states.Seated seat) is = by_rules (states.Seated seat) is
  right (states.Limited quota) is = by_rules (states.Limited quota) is
  right (states.Audited node) is = by_rules (states.Audited node) is
  right (states.Fault planned) is = by_rules (states.Fault planned) is
  right (states.Order client label command) is = by_rules (states.Order client label command) is
  right (states.Lend client label to) is = by_rules (states.Lend client label to) is
  right (states.Unreadable fault) is = absurd (cc is)

-- ---- all lines

abbrev or_else : Script → Result Script ScriptFailed → Script
or_else script (Ok other) = other
or_else script (Err failed) = script

abbrev read : Script → Result Script ScriptFailed
read script = Ok script

its_value : (script other : Script) → read script ≡ Ok other → script ≡ other
its_value script other is = ap (or_else script) is

module _ (nodes : ℕ) (Holds : Script → Type 0) (goes : (script : Script) (line : List ℕ) → IsRight nodes script (line_states line) → Holds script → Holds (with_line script (line_states line))) where
  all_lines : (lines : List (List ℕ)) (script result : Script) → Holds script → read_from nodes script lines ≡ Ok result → Holds result
  all_lines [] script result holds is = subst Holds (its_value script result is) holds
  all_lines (line ∷ lines) script result holds is = by (fault_of nodes script (line_states line)) refl is (all_lines lines (with_line script (line_states line)) result)
    where
      by : (fault : Option ScriptFault) → fault_of nodes script (line_states line) ≡ fault → after_fault script fault (read_from nodes (with_line script (line_states line)) lines) ≡ Ok result
          → (Holds (with_line script (line_states line)) → read_from nodes (with_line script (line_states line)) lines ≡ Ok result → Holds result) → Holds result
      by None none is rest = rest (goes script line (right nodes script (line_states line) none) holds) is
      by (Some fault) some is rest = absurd (cc is)

read_whole : (nodes : ℕ) (text : List ℕ) (script : Script) → script_of nodes text ≡ Ok script → read_from nodes empty_script (lines_of text) ≡ Ok script
read_whole nodes text script is = by (nat_lt 1048576 (length text)) is
  where
    unopened : (other : Script) (open_line : Option ℕ) → unless_open other open_line ≡ Ok script → read other ≡ Ok script
    unopened other None is = is
    unopened other (Some line) is = absurd (cc is)

    closed : (result : Result Script ScriptFailed) → closed_script result ≡ Ok script → result ≡ Ok script
    closed (Err failed) is = absurd (cc is)
    closed (Ok other) is = unopened other (left_open other.lines) is

    by : (b : Bool) → (if b then Err (Fault (line_past_limit text) faults.TooLarge) else closed_script (read_from nodes empty_script (lines_of text))) ≡ Ok script → read_from nodes empty_script (lines_of text) ≡ Ok script
    by true is = absurd (cc is)
    by false is = closed (read_from nodes empty_script (lines_of text)) is

pub read_all : (nodes : ℕ) (Holds : Script → Type 0) → ((script : Script) (line : List ℕ) → IsRight nodes script (line_states line) → Holds script → Holds (with_line script (line_states line)))
    → (text : List ℕ) (script : Script) → Holds empty_script → script_of nodes text ≡ Ok script → Holds script
read_all nodes Holds goes text script first is = all_lines nodes Holds goes (lines_of text) empty_script script first (read_whole nodes text script is)
