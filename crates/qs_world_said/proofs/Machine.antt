-- What is known of the machine at a stage of a step, where it holds what the node has.
use Rattle.std.proofs.Common.{◌≡◌, ◌∙◌, ℕ, Bool, true, false, List, [], ◌∷◌, Option, Some, None, refl, sym, ap, subst}
use Rattle.std.specs.Prelude.{slice_get, unwrap_or}
use Rattle.qs_base.specs.declared.identifiers.Outcome.{Outcome}
use Rattle.qs_base.specs.declared.identifiers.Outcome.TheVariants as outcomes
use Rattle.qs_base.specs.declared.identifiers.Tid.{Tid}
use Rattle.qs_book_journal.specs.declared.entry.Entry.{Entry}
use Rattle.qs_book_machine.specs.Book.{BookValue, find_transaction, inc_at}
use Rattle.qs_book_machine.specs.Lawful.{book_after}
use Rattle.qs_book_machine.specs.Nodes as machine
use Rattle.qs_book_machine.specs.Transaction.{TransactionValue, is_abort, is_outcome, learnt_abort}
use Rattle.qs_book_machine.specs.declared.transaction.Cell.{Cell}
use Rattle.qs_book_machine.specs.declared.transaction.Cell.TheVariants as cells
use Rattle.qs_book_conformance.specs.Course.{CourseValue}
use Rattle.qs_book_conformance.specs.Effects.{course_after}
use Rattle.qs_node_step.specs.State.{Work}
use Rattle.qs_tm.specs.Manager as tm
use Rattle.qs_tm.specs.Outcomes as outcome_rules
use Rattle.qs_tm.specs.Participant.{new_participant}
use Rattle.qs_tm.specs.declared.participant.Participant.{Participant}
use Rattle.qs_world_lawful.specs.Entering.{HoldsWork, book_at, entries_so_far}
use Rattle.qs_world_lawful.specs.Face.{face_of}
use Rattle.qs_world_lawful.specs.Holds.{HoldsAt, HoldsTid}
use Rattle.qs_world_course.specs.Kinds.{course_on}
use Rattle.qs_world_said.specs.Amid.{course_amid}
use Rattle.qs_world_said.specs.Knows.{KnowsAbort, MachineIsKnown, RoomIsKnown}

-- the course has the machine after its entries
pub book_on : (course : CourseValue) (entries : List Entry) → (course_on course entries).book ≡ book_after course.book entries
book_on course [] = refl
book_on course (entry ∷ entries) = book_on (course_after course entry) entries

-- ---- what the node knows

learnt_here : (o : Option Participant) → (unwrap_or o (new_participant false)).outcome ≡ Some outcomes.Abort → (elim o as (λ o. Bool) [ None ↦ false | Some part ↦ outcome_rules.is_abort part.outcome ]) ≡ true
learnt_here None is = absurd (cc is)
learnt_here (Some part) is = ap outcome_rules.is_abort is

known_abort : (o : Option Outcome) → outcome_rules.is_abort o ≡ true → o ≡ Some outcomes.Abort
known_abort None is = absurd (cc is)
known_abort (Some outcomes.Commit) is = absurd (cc is)
known_abort (Some outcomes.Abort) is = refl

told_here : (o : Option Participant) → (elim o as (λ o. Bool) [ None ↦ false | Some part ↦ outcome_rules.is_abort part.outcome ]) ≡ true → (unwrap_or o (new_participant false)).outcome ≡ Some outcomes.Abort
told_here None is = absurd (cc is)
told_here (Some part) is = known_abort part.outcome is

abort_cell : (cell : Cell) → is_outcome outcomes.Abort cell ≡ true → is_abort cell ≡ true
abort_cell cells.Open is = absurd (cc is)
abort_cell cells.Commit is = absurd (cc is)
abort_cell cells.Abort is = refl

module _ (stamp : ℕ) (before : CourseValue) (work : Work) (h : HoldsWork stamp before.book work) where
  abbrev course : CourseValue
  course = course_amid stamp before work

  abbrev book : BookValue
  book = book_at stamp before.book work

  same : course.book ≡ book
  same = book_on before (entries_so_far stamp work)

  inc_is : inc_at book work.node.setting.node ≡ work.node.setting.inc
  inc_is = ap (λ (o : Option machine.NodeValue). elim o as (λ o. ℕ) [ None ↦ 0 | Some state ↦ state.inc ]) h.holds.there ∙ h.holds.same.inc

  aborts : (tid : Tid) (tx : TransactionValue) → find_transaction course.book tid ≡ Some tx → KnowsAbort course work.node tid tx
  aborts tid tx found = record {
    learnt = λ is. learnt_here (tm.part_of tid work.node.manager) (its.silent (sym (ap (λ (n : ℕ). learnt_abort tx work.node.setting.node n) now) ∙ is));
    so = λ is. abort_cell tx.cell (its.outcome outcomes.Abort (told_here (tm.part_of tid work.node.manager) is));
  }
    where
      now : inc_at course.book work.node.setting.node ≡ work.node.setting.inc
      now = ap (λ (b : BookValue). inc_at b work.node.setting.node) same ∙ inc_is

      its : HoldsTid work.node.setting.node work.node.setting.inc tid tx (face_of work.node tid)
      its = subst (λ (o : Option TransactionValue). HoldsAt work.node.setting.node work.node.setting.inc tid o (face_of work.node tid)) (ap (λ (b : BookValue). find_transaction b tid) (sym same) ∙ found) (h.holds.at tid)

pub machine_is_known : MachineIsKnown
machine_is_known stamp before work h = record {
  apart = h.holds.clients.apart;
  inc = ap (λ (b : BookValue). inc_at b work.node.setting.node) (same stamp before work h) ∙ inc_is stamp before work h;
  aborts = aborts stamp before work h;
}

pub room_is_known : RoomIsKnown
room_is_known stamp before work h keep = record {
  state = h.holds.state;
  there = ap (λ (b : BookValue). slice_get b.nodes work.node.setting.node.0) (same stamp before work h) ∙ h.holds.there;
  keep = h.holds.same.keep ∙ sym keep;
}
