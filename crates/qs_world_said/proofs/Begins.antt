-- A begin is answered as it begins, or refused.
use Rattle.std.proofs.Common.{◌≡◌, ◌∙◌, ℕ, ◌==◌, Bool, true, false, [], ◌∷◌, Option, Some, None, append_assoc, refl, sym, ap, subst}
use Rattle.std.specs.Prelude.{◌<◌, nat_lt, slice_get, if◌then◌else◌}
use Rattle.std.proofs.lemmas.Bool.{ltb-true}
use Rattle.qs_base.specs.declared.identifiers.ClientNo.{ClientNo}
use Rattle.qs_base.specs.declared.identifiers.Tid.{Tid}
use Rattle.qs_engage.specs.Engage.{last_number}
use Rattle.qs_ops.specs.declared.answer.Answer.TheVariants as answers
use Rattle.qs_book_journal.specs.declared.entry.Act.TheVariants as acts
use Rattle.qs_book_journal.specs.declared.script_line.Command.TheVariants as commands
use Rattle.qs_book_journal.specs.declared.script_line.ScriptLine.{ScriptLine}
use Rattle.qs_book_laws.proofs.Maps.{changed_at_here}
use Rattle.qs_book_machine.specs.Nodes.{keep_of}
use Rattle.qs_book_conformance.specs.Answers.{is_refused}
use Rattle.qs_book_conformance.specs.Commands.{is_take}
use Rattle.qs_book_conformance.specs.Course.{ClientValue, CourseValue}
use Rattle.qs_book_conformance.specs.Effects.{course_after}
use Rattle.qs_book_conformance.specs.declared.values.CommandMade.TheVariants as makes
use Rattle.qs_node_kept.specs.declared.kept.KeptLabel.{KeptLabel}
use Rattle.qs_node_step.specs.State.{Work}
use Rattle.qs_node_step.specs.Step.{is_owner}
use Rattle.qs_tm.specs.Manager as tm
use Rattle.qs_tm.specs.declared.manager.BeginFault.{BeginFault}
use Rattle.qs_tm.specs.declared.manager.BeginFault.TheVariants as faults
use Rattle.qs_world.specs.Posting.{entry_of}
use Rattle.qs_world_course.specs.Answered.{answered_at, begun_as}
use Rattle.qs_world_course.specs.Clients.{Commands, ForClients}
use Rattle.qs_world_course.specs.Due.{IsDue, IsFirst, Said}
use Rattle.qs_world_course.specs.Going.{LeavesClient}
use Rattle.qs_world_course.proofs.Closes.{begins_are_answered, refusals_are_answered}
use Rattle.qs_world_course.proofs.DueLaws.{begin_is_due, due_is_kept, refusal_is_due}
use Rattle.qs_world_course.proofs.MadeLaws.{begin_is_kept}
use Rattle.qs_world_walk.specs.Deed as d
use Rattle.qs_world_walk.specs.Deed.{closed, did, fresh_command}
use Rattle.qs_world_walk.specs.May.{InHand}
use Rattle.qs_world_said.specs.Amid.{ClientAmid, IsFor, IsSaidSo, clients_of, course_amid}
use Rattle.qs_world_said.specs.Deeds.{BeginsKeep, RefusesKeep}
use Rattle.qs_world_said.specs.Knows.{IsNewLabel, KnowsAtStage, KnowsRoom}
use Rattle.qs_world_said.proofs.Answers as answering
use Rattle.qs_world_said.proofs.Frames.{amid_stays, answered_amid, goes, leaves_itself, same_replies}
use Rattle.qs_world_said.proofs.InHand.{Handed, unmade}
use Rattle.qs_world_said.proofs.Lookups.{changed_far}
use Rattle.qs_world_said.proofs.Comes.{labels_amid, with_one}

-- ---- a begin

module _ (stamp : ℕ) (before : CourseValue) (work : Work) (line : ScriptLine) (knows : KnowsAtStage (course_amid stamp before work) work.node) (at : InHand line.client (fresh_command line) work) (begins : line.command ≡ commands.Begin)
    (new : IsNewLabel (course_amid stamp before work) work.node line.label) (came : Option ClientNo) (mine : IsFor line.client came) (h : IsSaidSo stamp before came work) where
  abbrev client : ClientNo
  client = line.client

  abbrev was : CourseValue
  was = course_amid stamp before work

  abbrev had : ForClients
  had = clients_of work

  abbrev hand : Handed was had came client (fresh_command line)
  hand = answering.hand stamp before work client (fresh_command line) knows at came mine h

  abbrev its : Said
  its = answering.s stamp before work client (fresh_command line) knows at came mine h

  abbrev rest_in_hand : Commands
  rest_in_hand = answering.later stamp before work client (fresh_command line) knows at came mine h

  unrefused : is_refused hand.state line.label ≡ false
  unrefused = new.unrefused client hand.state hand.there

  nothing : hand.state.made ≡ makes.Nothing
  nothing = unmade had came client hand.state (fresh_command line) hand.amid at refl (λ is. absurd (cc (sym begins ∙ is))) (λ is. absurd (cc (sym begins ∙ is))) (λ over. absurd (cc (sym over.labelled ∙ new.unmet)))

  other_owner : (other : ClientNo) → (client.0 == other.0) ≡ false → is_owner other (Some client) ≡ false
  other_owner other far = far

  -- the others, with one more label, and as the command is answered
  leaves : (one : KeptLabel) (other : ClientNo) → (client.0 == other.0) ≡ false → LeavesClient other (with_one one had) (answered_at rest_in_hand (with_one one had).kept (with_one one had))
  leaves one other far = record { here = refl; inc = refl; in_hand = answering.in_hand_still stamp before work client (fresh_command line) knows at came mine h other far; labels = λ label. refl; outcomes = λ tid decided is. (decided, is); loans = λ tid. refl; last = λ tid. refl }

  untaken : is_take line.command ≡ false
  untaken = ap is_take begins

  -- ---- begun

  abbrev tid : Tid
  tid = tm.next_tid work.node.manager

  abbrev begun : KeptLabel
  begun = begun_as line.label (Some tid) client

  abbrev entered : CourseValue
  entered = course_after was (entry_of had.here.0 stamp (acts.Begin tid line.label client))

  abbrev making : ClientValue → ClientValue
  making state = record state { made = makes.Begun }

  there_begun : slice_get entered.clients client.0 ≡ Some (making hand.state)
  there_begun = changed_at_here making was.clients client.0 hand.state hand.there

  abbrev as_begun : Said
  as_begun = record { course = entered; here = had.here.0; client = client; state = making hand.state; line = line }

  first_begun : IsFirst as_begun
  first_begun = record { there = there_begun; seat = hand.sits; first = hand.first }

  others_begun : (other : ClientNo) → (client.0 == other.0) ≡ false → ClientAmid entered (with_one begun had) None other
  others_begun other far = labels_amid entered had None other begun (other_owner other far)
      (λ state there t of. new.unrefused other state (sym (changed_far making was.clients client.0 other.0 far) ∙ there))
      (amid_stays other had had (leaves_itself other had) None was entered (changed_far making was.clients client.0 other.0 far) (same_replies was entered refl) (answering.others stamp before work client (fresh_command line) knows at came mine h other far))

  pub begins_on : IsSaidSo stamp before None (did (d.Begins line) work)
  begins_on = goes stamp before work (did (d.Begins line) work) (acts.Begin tid line.label client ∷ acts.Answer client line.line answers.Done ∷ []) refl
      (append_assoc work.out.entries (acts.Begin tid line.label client ∷ []) (acts.Answer client line.line answers.Done ∷ [])) came None h (
        begin_is_kept its (record { first = answering.first stamp before work client (fresh_command line) knows at came mine h; is = begins; nothing = nothing }),
        (due_is_kept as_begun answers.Done first_begun (begin_is_due as_begun unrefused begins refl), tt),
      )
      (answered_amid stamp entered (with_one begun had) client (making hand.state) line hand.rest answers.Done rest_in_hand (with_one begun had).kept there_begun hand.left (answering.gone stamp before work client (fresh_command line) knows at came mine h)
      (begins_are_answered (record had { in_hand = hand.so.beside }) rest_in_hand client line hand.rest hand.state entered.book tid (answering.closed_so stamp before work client (fresh_command line) knows at came mine h) begins unrefused)
      (leaves begun) others_begun)

  -- ---- refused

  module _ (need room : ℕ) (full : tm.begin_fault work.room work.node.manager ≡ Some (faults.LogFull need room)) (keeps : KnowsRoom was work.node) where
    abbrev need_in : Option BeginFault → ℕ
    need_in (Some (faults.LogFull n r)) = n
    need_in (Some (faults.Last value)) = 0
    need_in (Some faults.NoMemory) = 0
    need_in None = 0

    abbrev room_in : Option BeginFault → ℕ
    room_in (Some (faults.LogFull n r)) = r
    room_in (Some (faults.Last value)) = 0
    room_in (Some faults.NoMemory) = 0
    room_in None = 0

    lacks : (a b : Bool) → nat_lt work.room work.node.manager.keep ≡ a
        → (if a then Some (faults.LogFull work.node.manager.keep work.room) else if b then Some (faults.Last last_number) else None) ≡ Some (faults.LogFull need room) → (work.node.manager.keep ≡ need) × ((work.room ≡ room) × (work.room < work.node.manager.keep))
    lacks true b less is = (ap need_in is, (ap room_in is, ltb-true work.room work.node.manager.keep less))
    lacks false true less is = absurd (cc is)
    lacks false false less is = absurd (cc is)

    how : (work.node.manager.keep ≡ need) × ((work.room ≡ room) × (work.room < work.node.manager.keep))
    how = lacks (nat_lt work.room work.node.manager.keep) (work.node.manager.begun == last_number) refl full

    keep_is : keep_of keeps.state.format ≡ need
    keep_is = keeps.keep ∙ how.0

    less : room < keep_of keeps.state.format
    less = subst (λ (r : ℕ). r < keep_of keeps.state.format) how.1.0 (subst (λ (k : ℕ). work.room < k) (sym keeps.keep) how.1.1)

    due : IsDue its (answers.LogFull need room)
    due = subst (λ (n : ℕ). IsDue its (answers.LogFull n room)) keep_is (refusal_is_due its keeps.state room unrefused begins nothing keeps.there less)

    abbrev unbegun : KeptLabel
    unbegun = begun_as line.label None client

    pub refuses_on : IsSaidSo stamp before None (did (d.Refuses line need room) work)
    refuses_on = goes stamp before work (did (d.Refuses line need room) work) (acts.Answer client line.line (answers.LogFull need room) ∷ []) refl refl came None h
        (due_is_kept its (answers.LogFull need room) (answering.first stamp before work client (fresh_command line) knows at came mine h) due, tt)
        (answered_amid stamp was (with_one unbegun had) client hand.state line hand.rest (answers.LogFull need room) rest_in_hand (with_one unbegun had).kept hand.there hand.left (answering.gone stamp before work client (fresh_command line) knows at came mine h)
        (refusals_are_answered (record had { in_hand = hand.so.beside }) rest_in_hand client line hand.rest hand.state was.book need room (answering.closed_so stamp before work client (fresh_command line) knows at came mine h) begins new.unmet)
        (leaves unbegun) (λ other far. labels_amid was had None other unbegun (other_owner other far) (λ state there t of. absurd (cc of)) (answering.others stamp before work client (fresh_command line) knows at came mine h other far)))

pub begins_keep : BeginsKeep
begins_keep stamp before work line knows at begins new came mine h = begins_on stamp before work line knows at begins new came mine h

pub refuses_keep : RefusesKeep
refuses_keep stamp before work line need room knows at begins full new keeps came mine h = refuses_on stamp before work line knows at begins new came mine h need room full keeps
