-- Where a script names no node for notes, none is owed: so its runs keep all the rules of files.
use Rattle.std.proofs.Common.{◌≡◌, ◌∙◌, ℕ, ◌==◌, Bool, true, false, List, [], ◌∷◌, Option, Some, None, refl, ap}
use Rattle.std.specs.Prelude.{◌&&◌, ◌||◌, if◌then◌else◌, slice_get}
use Rattle.qs_base.specs.declared.identifiers.NodeNo.{NodeNo}
use Rattle.qs_base.specs.declared.identifiers.Tid.{Tid}
use Rattle.qs_book_journal.specs.declared.entry.Act.{Act}
use Rattle.qs_book_journal.specs.declared.entry.Act.TheVariants as acts
use Rattle.qs_book_journal.specs.declared.entry.Entry.{Entry}
use Rattle.qs_book_journal.specs.declared.entry.Found.{Found}
use Rattle.qs_book_machine.specs.Book.{find_transaction}
use Rattle.qs_book_machine.specs.Nodes.{NodeValue}
use Rattle.qs_book_machine.specs.Restart.{is_new_vote}
use Rattle.qs_book_machine.specs.Transaction.{TransactionValue}
use Rattle.qs_ops.specs.Servers.{files_no}
use Rattle.qs_book_conformance.specs.Begun.{at_start}
use Rattle.qs_book_conformance.specs.Course.{CourseValue}
use Rattle.qs_book_conformance.specs.Effects.{course_after}
use Rattle.qs_book_conformance.specs.Files.{broken_found, broken_found_vote, broken_owed_note, first_broken, is_noted, needs_no_note}
use Rattle.qs_book_conformance.specs.declared.fault.Rule.{Rule}
use Rattle.qs_book_conformance.specs.declared.fault.Rule.TheVariants as rules
use Rattle.qs_world.specs.Histories.{book_of}
use Rattle.qs_world_course.specs.Kinds.{Keeps}
use Rattle.qs_world_filed.specs.Parts.{broken_finding, found_noted}
use Rattle.qs_world_filed.specs.Runs.{RunsWithoutAudit}
use Rattle.qs_world_filed.proofs.Kept.{runs_as_set, runs_fit, runs_noted}
use Rattle.qs_world_filed.proofs.Leaves.{entry_leaves}
use Rattle.qs_world_filed.proofs.PartsAll.{filed_are_these}

module _ (course : CourseValue) (none : course.audit ≡ None) where
  owed_none : (node : NodeValue) (here : ℕ) (tid : Tid) (tx : TransactionValue) → broken_owed_note course node here tid tx ≡ None
  owed_none node here tid tx = ap (λ (audit : Option NodeNo). if needs_no_note audit tx || is_noted node here tid tx then None else Some rules.NoteWasServed) none

  one_of : (b : Bool) (o : Option Rule) → o ≡ None → (if b then o else None) ≡ None
  one_of true o is = is
  one_of false o is = refl

  found_vote_none : (node : NodeValue) (here : ℕ) (found : Found) (tx : Option TransactionValue) → broken_found_vote course node here found tx ≡ None
  found_vote_none node here found None = refl
  found_vote_none node here found (Some tx) = one_of ((found.server.0 == files_no) && is_new_vote here node (Some tx) found) (broken_owed_note course node here found.tid tx) (owed_none node here found.tid tx)

  found_none : (node : NodeValue) (here : ℕ) (pend : List Found) → broken_found course node here pend ≡ None
  found_none node here [] = refl
  found_none node here (found ∷ more) = ap (λ (o : Option Rule). first_broken o (broken_found course node here more)) (found_vote_none node here found (find_transaction course.book found.tid)) ∙ found_none node here more

  restart_none : (here : ℕ) (pend : List Found) (node : Option NodeValue) → ◌≡◌ {A = Option Rule} (elim node [ None ↦ None | Some state ↦ broken_found course state here pend ]) None
  restart_none here pend None = refl
  restart_none here pend (Some state) = found_none state here pend

  act_none : (here : ℕ) (act : Act) → broken_finding course here act ≡ None
  act_none here (acts.Restart inc pend done) = restart_none here pend (slice_get course.book.nodes here)
  act_none here act = refl

entries_none : (course : CourseValue) (entries : List Entry) → course.audit ≡ None → Keeps found_noted course entries
entries_none course [] none = tt
entries_none course (entry ∷ entries) none = (act_none course none entry.node.0 entry.act, entries_none (course_after course entry) entries ((entry_leaves course entry).audit ∙ none))

pub runs_without_audit : RunsWithoutAudit
runs_without_audit o script moves new none opens is run = filed_are_these (at_start script (book_of o)) new.journal (runs_as_set o script moves new opens is run) (runs_fit o script moves new opens is run) (runs_noted o script moves new opens is run) (entries_none (at_start script (book_of o)) new.journal none)
