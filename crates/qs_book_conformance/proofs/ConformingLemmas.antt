-- A history has no misfit exactly where it is lawful and breaks no rule.
use Rattle.std.proofs.Common.{◌≡◌, ℕ, ◌+◌, List, [], ◌∷◌, Option, Some, None, refl, sym, subst}
use Rattle.std.specs.Prelude.{◌↔◌}
use Rattle.qs_book_journal.specs.declared.entry.Entry.{Entry}
use Rattle.qs_book_machine.specs.Book.{BookValue}
use Rattle.qs_book_machine.specs.Lawful.{broken, IsLawful}
use Rattle.qs_book_script.specs.declared.script.Script.{Script}
use Rattle.qs_book_conformance.specs.Begun.{at_start}
use Rattle.qs_book_conformance.specs.Conforming.{IsKeptTo, Conforms, fault_from, fault_of, first_misfit_from, first_misfit}
use Rattle.qs_book_conformance.specs.Course.{CourseValue}
use Rattle.qs_book_conformance.specs.Effects.{course_after}
use Rattle.qs_book_conformance.specs.Rules.{broken_rule}
use Rattle.qs_book_conformance.specs.declared.fault.Fault.{Fault}
use Rattle.qs_book_conformance.specs.declared.fault.Misfit.{Misfit}
use Rattle.qs_book_conformance.specs.declared.fault.Rule.{Rule}

-- an entry has no fault exactly where it is a lawful step and breaks no rule
no_fault : (clause : Option ℕ) (rule : Option Rule) → fault_from clause rule ≡ None → (clause ≡ None) × (rule ≡ None)
no_fault None None h = (refl, refl)
no_fault None (Some rule) h = absurd (cc h)
no_fault (Some number) rule h = absurd (cc h)

faultless : (clause : Option ℕ) (rule : Option Rule) → clause ≡ None → rule ≡ None → fault_from clause rule ≡ None
faultless None None lawful kept = refl
faultless None (Some rule) lawful kept = absurd (cc kept)
faultless (Some number) rule lawful kept = absurd (cc lawful)

abbrev misfit_at : ℕ → Option Fault → Option Misfit → Option Misfit
misfit_at place first rest = elim first [ Some fault ↦ Some (record { place = place; fault = fault }) | None ↦ rest ]

none_fits : (place : ℕ) (course : CourseValue) (entries : List Entry)
    → first_misfit_from place course entries ≡ None → IsLawful course.book entries × IsKeptTo course entries
none_fits place course [] h = (tt, tt)
none_fits place course (entry ∷ entries) h =
    by (fault_of course entry) refl (none_fits (place + 1) (course_after course entry) entries) h
  where
    by : (first : Option Fault) → fault_of course entry ≡ first
        → (first_misfit_from (place + 1) (course_after course entry) entries ≡ None
        → IsLawful (course_after course entry).book entries × IsKeptTo (course_after course entry) entries)
        → misfit_at place first (first_misfit_from (place + 1) (course_after course entry) entries) ≡ None
        → IsLawful course.book (entry ∷ entries) × IsKeptTo course (entry ∷ entries)
    by None is more g =
        let both = no_fault (broken course.book entry) (broken_rule course entry) is in
        let rest = more g in
        ((both.0, rest.0), (both.1, rest.1))
    by (Some fault) is more g = absurd (cc g)

fits_none : (place : ℕ) (course : CourseValue) (entries : List Entry)
    → IsLawful course.book entries → IsKeptTo course entries → first_misfit_from place course entries ≡ None
fits_none place course [] l k = refl
fits_none place course (entry ∷ entries) l k =
    subst (λ (first : Option Fault). misfit_at place first (first_misfit_from (place + 1) (course_after course entry) entries) ≡ None)
    (sym (faultless (broken course.book entry) (broken_rule course entry) l.0 k.0))
    (fits_none (place + 1) (course_after course entry) entries l.1 k.1)

pub misfit_iff : (script : Script) (book : BookValue) (history : List Entry) → (first_misfit script book history ≡ None) ↔ Conforms script book history
misfit_iff script book history = (to, λ c. fits_none 0 (at_start script book) history c.lawful c.kept)
  where
    to : first_misfit script book history ≡ None → Conforms script book history
    to h = let both = none_fits 0 (at_start script book) history h in record { lawful = both.0; kept = both.1 }
