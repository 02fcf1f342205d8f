-- The machine within the course of a run is the machine after the run's entries, and an entry with a fault is the first misfit of
-- whatever goes on with it.
use Rattle.std.proofs.Common.{◌≡◌, ℕ, ◌+◌, List, [], ◌∷◌, fold, Option, Some, None, refl, subst, sym}
use Rattle.qs_book_conformance.specs.Conforming.{fault_of, first_misfit_from}
use Rattle.qs_book_conformance.specs.declared.fault.Fault.{Fault}
use Rattle.qs_book_conformance.specs.declared.fault.Misfit.{Misfit}
use Rattle.qs_top.specs.Verdicts.{TellsMisfit, line_of, clause_of}
use Rattle.qs_book_conformance.specs.Course.{CourseValue}
use Rattle.qs_book_conformance.specs.Effects.{course_after}
use Rattle.qs_book_journal.specs.declared.entry.Entry.{Entry}
use Rattle.qs_book_machine.specs.Lawful.{book_after}

pub book_of_course : (course : CourseValue) (entries : List Entry) → (fold course_after course entries).book ≡ book_after course.book entries
book_of_course course [] = refl
book_of_course course (entry ∷ entries) = book_of_course (course_after course entry) entries

-- the first misfit, by what is wrong with the first entry
abbrev after_fault : ℕ → CourseValue → Entry → List Entry → Option Fault → Option Misfit
after_fault place old entry more given = elim given [
  | Some fault ↦ Some (record { place = place; fault = fault })
  | None ↦ first_misfit_from (place + 1) (course_after old entry) more
]

pub told_of : (place : ℕ) (old : CourseValue) (entry : Entry) (fault : Fault) → fault_of old entry ≡ Some fault
    → (more : List Entry) → TellsMisfit (first_misfit_from place old (entry ∷ more)) (line_of place) (clause_of fault)
told_of place old entry fault is more = subst (λ given. TellsMisfit (after_fault place old entry more given) (line_of place) (clause_of fault)) (sym is) (refl, refl)
