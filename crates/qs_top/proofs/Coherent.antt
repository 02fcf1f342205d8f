-- Where the log of a disk had room, it has where a run did not begin; and what the judge refuses of a lawful journal is for a rule of the script.
use Rattle.std.proofs.Common.{◌≡◌, inl, inr, ℕ, ◌+◌, List, [], ◌∷◌, Option, Some, None, subst, sym}
use Rattle.qs_cell.proofs.Rooms.{raised_roomy}
use Rattle.qs_book_conformance.specs.Begun.{at_start}
use Rattle.qs_book_conformance.specs.Conforming.{fault_from, first_misfit_from}
use Rattle.qs_book_conformance.specs.Course.{CourseValue}
use Rattle.qs_book_conformance.specs.Effects.{course_after}
use Rattle.qs_book_conformance.specs.Rules.{broken_rule}
use Rattle.qs_book_conformance.specs.declared.fault.Fault.{Fault}
use Rattle.qs_book_conformance.specs.declared.fault.Misfit.{Misfit}
use Rattle.qs_book_conformance.specs.declared.fault.Rule.{Rule}
use Rattle.qs_disk.specs.Disk.{DiskState, IsImage}
use Rattle.qs_disk.specs.Moments.{Keeps}
use Rattle.qs_node_host.specs.Roomy.{HasRoomyLog}
use Rattle.qs_log_start.specs.Incarnation.{IsTouched}
use Rattle.qs_book_journal.specs.declared.entry.Entry.{Entry}
use Rattle.qs_book_machine.specs.Book.{BookValue}
use Rattle.qs_book_machine.specs.Lawful.{IsLawful, broken}
use Rattle.qs_world_one.specs.Rooms.{IsRoomyDisk}
use Rattle.qs_book_script.specs.declared.script.Script.{Script}
use Rattle.qs_top.specs.Verdicts.{IsRefusedAt, TellsMisfit, rule_of_script}

-- where the log had room it has
pub touched_roomy : (size : ℕ) (old new : DiskState) → IsImage old.now old.content → Keeps (IsTouched old) old new → IsRoomyDisk size old → IsRoomyDisk size new
touched_roomy size old new image keeps roomy = λ c left. by c (keeps.here c left)
  where
    by : (c : List ℕ) → IsTouched old c → HasRoomyLog 128 size c
    by c (inl was) = roomy c was
    by c (inr (inl same)) = subst (HasRoomyLog 128 size) (sym same) (roomy old.content image)
    by c (inr (inr raised)) = raised_roomy 128 size old.content c (roomy old.content image) raised

-- ---- what is refused of a lawful journal

-- the first misfit, by what is wrong with the first entry
abbrev after_fault : ℕ → CourseValue → Entry → List Entry → Option Fault → Option Misfit
after_fault place old entry more given = elim given [
  | Some fault ↦ Some (record { place = place; fault = fault })
  | None ↦ first_misfit_from (place + 1) (course_after old entry) more
]

by_fault : (place : ℕ) (course : CourseValue) (entry : Entry) (entries : List Entry) (line clause : ℕ) (found : Option ℕ) (rule : Option Rule) → found ≡ None
    → (TellsMisfit (first_misfit_from (place + 1) (course_after course entry) entries) line clause → clause ≡ rule_of_script)
    → TellsMisfit (after_fault place course entry entries (fault_from found rule)) line clause → clause ≡ rule_of_script
by_fault place course entry entries line clause (Some other) rule none next tells = absurd (cc (none))
by_fault place course entry entries line clause None (Some rule) none next tells = tells.1
by_fault place course entry entries line clause None None none next tells = next tells

misfit_by_script : (place : ℕ) (course : CourseValue) (entries : List Entry) (line clause : ℕ) → IsLawful course.book entries → TellsMisfit (first_misfit_from place course entries) line clause → clause ≡ rule_of_script
misfit_by_script place course [] line clause lawful tells = absurd tells
misfit_by_script place course (entry ∷ entries) line clause lawful tells =
    by_fault place course entry entries line clause (broken course.book entry) (broken_rule course entry) lawful.0
    (misfit_by_script (place + 1) (course_after course entry) entries line clause lawful.1) tells

pub refused_by_script : (script : Script) (book : BookValue) (journal : List Entry) (line clause : ℕ) → IsLawful book journal → IsRefusedAt script book journal line clause → clause ≡ rule_of_script
refused_by_script script book journal line clause lawful refused = misfit_by_script 0 (at_start script book) journal line clause lawful refused
