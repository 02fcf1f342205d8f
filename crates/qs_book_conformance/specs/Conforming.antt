-- Which histories conform to a script: lawful ones that keep to it.
use Rattle.std.specs.Prelude.{◌≡◌, ℕ, ◌+◌, List, [], ◌∷◌, Option, Some, None, ⊤}
use Rattle.qs_book_journal.specs.declared.entry.Entry.{Entry}
use Rattle.qs_book_machine.specs.Book.{BookValue}
use Rattle.qs_book_machine.specs.Lawful.{IsLawful, broken}
use Rattle.qs_book_script.specs.declared.script.Script.{Script}
use Rattle.qs_book_conformance.specs.Begun.{at_start}
use Rattle.qs_book_conformance.specs.Course.{CourseValue}
use Rattle.qs_book_conformance.specs.Effects.{course_after}
use Rattle.qs_book_conformance.specs.Rules.{broken_rule}
use Rattle.qs_book_conformance.specs.declared.fault.Fault.{Fault}
use Rattle.qs_book_conformance.specs.declared.fault.Fault.TheVariants as faults
use Rattle.qs_book_conformance.specs.declared.fault.Misfit.{Misfit}
use Rattle.qs_book_conformance.specs.declared.fault.Rule.{Rule}

-- each entry breaks no rule, from this course on
abbrev pub IsKeptTo : CourseValue → List Entry → Type 0
IsKeptTo course [] = ⊤
IsKeptTo course (entry ∷ entries) = (broken_rule course entry ≡ None) × IsKeptTo (course_after course entry) entries

-- a history of the reference machine that keeps to the script
pub record Conforms (script : Script) (book : BookValue) (history : List Entry) : Type 0 where
  pub lawful : IsLawful book history
  pub kept : IsKeptTo (at_start script book) history

-- ---- the same as a function

abbrev pub rule_fault : Option Rule → Option Fault
rule_fault None = None
rule_fault (Some rule) = Some (faults.Broken rule)

-- the clause that it breaks is told before the rule
abbrev pub fault_from : Option ℕ → Option Rule → Option Fault
fault_from (Some clause) rule = Some (faults.Unlawful clause)
fault_from None rule = rule_fault rule

abbrev pub fault_of : CourseValue → Entry → Option Fault
fault_of course entry = fault_from (broken course.book entry) (broken_rule course entry)

-- the first entry that does not conform, of entries of which the first has this place
abbrev pub first_misfit_from : ℕ → CourseValue → List Entry → Option Misfit
first_misfit_from place course [] = None
first_misfit_from place course (entry ∷ entries) = elim (fault_of course entry) [
  | Some fault ↦ Some (record { place = place; fault = fault })
  | None ↦ first_misfit_from (place + 1) (course_after course entry) entries
]

abbrev pub first_misfit : Script → BookValue → List Entry → Option Misfit
first_misfit script book history = first_misfit_from 0 (at_start script book) history
