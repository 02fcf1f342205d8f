-- Where no line of the script stops a node at an entry any more, an entry makes nothing of such lines.
use Rattle.std.proofs.Common.{◌≡◌, ◌∙◌, ℕ, List, [], ◌∷◌, Option, refl, length, arith}
use Rattle.std.specs.Prelude.{Bool, true, false, Some, None, is_some, if◌then◌else◌}
use Rattle.std.specs.Map.{lookup}
use Rattle.std.specs.BTreeMap.{is_at}
use Rattle.qs_base.specs.declared.identifiers.Tid.{Tid}
use Rattle.qs_book_machine.specs.Book.{find_transaction}
use Rattle.qs_book_conformance.specs.Course.{CourseValue, mark_cmp}
use Rattle.qs_book_conformance.specs.Effects.{has_mark, mark_at, past_before, past_after, past_label, label_of, past, without_mark}
use Rattle.qs_book_conformance.specs.declared.values.Deed.{Deed}
use Rattle.qs_book_conformance.specs.declared.values.Mark.{Mark}

no_mark : {X : Type 0} (test : Mark → Bool) (marks : List (Mark × X)) → length marks ≡ 0 → is_some (lookup test marks) ≡ false
no_mark test [] none = refl
no_mark test (m ∷ ms) none = grind arith

before_unmarked : (here : ℕ) (deed : Deed) (label : List ℕ) (course : CourseValue) → length course.marks ≡ 0 → past_before here deed label course ≡ course
before_unmarked here deed label course none =
    rw (no_mark (is_at (mark_cmp (mark_at here false deed label))) course.marks none) refl

after_unmarked : (here : ℕ) (deed : Deed) (label : List ℕ) (course : CourseValue) → length course.marks ≡ 0 → past_after here deed label course ≡ course
after_unmarked here deed label course none =
    rw (no_mark (is_at (mark_cmp (mark_at here true deed label))) course.marks none) refl

label_unmarked : (here : ℕ) (deed : Deed) (label : Option (List ℕ)) (course : CourseValue) → length course.marks ≡ 0 → past_label here deed label course ≡ course
label_unmarked here deed None course none = refl
label_unmarked here deed (Some label) course none =
    rw (before_unmarked here deed label course none) (after_unmarked here deed label course none)

pub past_unmarked : (here : ℕ) (deed : Deed) (tid : Tid) (course : CourseValue) → length course.marks ≡ 0 → past here deed tid course ≡ course
past_unmarked here deed tid course none = label_unmarked here deed (label_of (find_transaction course.book tid)) course none
