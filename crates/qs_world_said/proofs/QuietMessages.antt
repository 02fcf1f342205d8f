-- And by what comes from other nodes, and by restarts, of which no client sees anything.
use Rattle.std.proofs.Common.{◌≡◌, ℕ, Bool, true, false, List, Option, Some, None, refl, fold}
use Rattle.std.specs.Prelude.{not, ◌&&◌, if◌then◌else◌}
use Rattle.std.specs.List.{list_any}
use Rattle.qs_base.specs.declared.identifiers.NodeNo.{NodeNo}
use Rattle.qs_base.specs.declared.identifiers.Outcome.{Outcome}
use Rattle.qs_base.specs.declared.identifiers.Outcome.TheVariants as outcomes
use Rattle.qs_base.specs.declared.identifiers.Tid.{Tid}
use Rattle.qs_engage.specs.Engage.{is_node}
use Rattle.qs_engage.specs.Nodes.{listed, same_node}
use Rattle.qs_engage.specs.declared.engage.Engaged.{Engaged}
use Rattle.qs_engage.specs.declared.engage.Engaged.TheVariants as engagements
use Rattle.qs_ipc.specs.Ipc as ipc
use Rattle.qs_ops.specs.declared.answer.Cause.{Cause}
use Rattle.qs_ops.specs.declared.answer.Cause.TheVariants as causes
use Rattle.qs_book_journal.specs.declared.entry.Act.TheVariants as acts
use Rattle.qs_node_step.specs.Answering.{answer_known, answer_unknown, inquiry_came, was_committed}
use Rattle.qs_node_step.specs.Asking.{ask_came, asked_by, become_asked, block, closer_came, count, pass_unknown, refusal_came}
use Rattle.qs_node_step.specs.Bringing.{log, log_if, send, send_each}
use Rattle.qs_node_step.specs.Deciding.{give_notices}
use Rattle.qs_node_step.specs.Restarts.{begin_incarnation, find_gone, inquire, is_orphaned_by, known_tids, name_again, notice_decided, notice_part, notice_tid, peer_restarted, resume_home, resume_part, resume_tid, tell_again}
use Rattle.qs_node_step.specs.Serving.{cover_from, engage, met}
use Rattle.qs_node_step.specs.State.{Work, here, part_of, with_manager, with_node, with_queues}
use Rattle.qs_node_step.specs.Telling.{end_told, forget, is_other_node, keep_abort_told, learn, learn_unknown, names_at, record_learnt, take_names, take_outcome, tell_came, told_came, told_known, told_unknown}
use Rattle.qs_packet.specs.declared.message.Message.{Message}
use Rattle.qs_packet.specs.declared.message.Message.TheVariants as messages
use Rattle.qs_record.specs.declared.record.Record.{Record}
use Rattle.qs_record.specs.declared.record.Record.TheVariants as records
use Rattle.qs_tm.specs.Manager as tm
use Rattle.qs_tm.specs.Outcomes.{is_abort, is_told_again, named_by}
use Rattle.qs_tm.specs.Participant.{is_owed_by, is_undecided}
use Rattle.qs_tm.specs.declared.participant.Participant.{Participant}
use Rattle.qs_world_course.specs.Reasons.{IsUnseen}
use Rattle.qs_world_walk.proofs.Shapes as shapes
use Rattle.qs_world_said.proofs.Quiet as quiet

module _ (P : Work → Type 0) (k : (work new : Work) → IsUnseen work new → P work → P new) where
  abbrev Keeps : Work → Work → Type 0
  Keeps work new = P work → P new

  left : (work new : Work) → new.node.setting ≡ work.node.setting → new.node.commands ≡ work.node.commands → new.node.kept ≡ work.node.kept → new.out.answers ≡ work.out.answers → new.out.entries ≡ work.out.entries → Keeps work new
  left work new = quiet.left P k work new

  sends : (to : NodeNo) (message : Message) (work : Work) → Keeps work (send to message work)
  sends to message work = quiet.sends P k to message work

  sends_each : (nodes : List NodeNo) (message : Message) (work : Work) → Keeps work (send_each nodes message work)
  sends_each nodes message work = quiet.sends_each P k nodes message work

  logs : (o : Option Record) (work : Work) → Keeps work (log_if o work)
  logs o work = quiet.logs P k o work

  notices : (tid : Tid) (outcome : Outcome) (work : Work) → Keeps work (give_notices tid outcome work)
  notices tid outcome work = quiet.notices P k tid outcome work

  -- ---- messages

  pub engages : (tid : Tid) (peer : NodeNo) (number : ℕ) (work : Work) → Keeps work (engage tid peer number work)
  engages tid peer number work h = covers (tm.engaged_at tid peer (met tid work).node.manager) (with_manager (tm.requested tid peer number) (met tid work))
      (left (met tid work) (with_manager (tm.requested tid peer number) (met tid work)) refl refl refl refl refl (meets h))
    where
      covers : (e : Engaged) (w : Work) → Keeps w (cover_from e tid peer number w)
      covers engagements.Superior w h = h
      covers engagements.Elsewhere w h = sends peer (messages.Covered tid number) w h

      meets : Keeps work (met tid work)
      meets = shapes.if_keeps P (same_node tid.home (here work)) work (with_manager (tm.meet tid) work) work (λ home h. h) (λ away. left work (with_manager (tm.meet tid) work) refl refl refl refl refl)

  pub asks : (peer : NodeNo) (tid : Tid) (work : Work) → Keeps work (ask_came peer tid work)
  asks peer tid work = shapes.open_keeps P tid (asked_by peer tid) work (λ part running. shapes.if_keeps P (is_node peer part.engage.superior && (not part.engage.home && not part.asked)) (become_asked tid part work) work work (λ is. quiet.asked_on P k tid part work) (λ is h. h))

  pub counts : (peer : NodeNo) (tid : Tid) (up_to : ℕ) (told : List NodeNo) (work : Work) → Keeps work (closer_came peer tid up_to told work)
  counts peer tid up_to told work = shapes.open_keeps P tid (λ part. count peer tid up_to told) work (λ part running. quiet.quiet P k work (count peer tid up_to told work) (acts.Counted tid peer up_to) tt refl refl refl refl refl)

  pub refuses : (tid : Tid) (cause : Cause) (work : Work) → Keeps work (refusal_came tid cause work)
  refuses tid cause work = shapes.elim_keeps P (part_of tid work) (pass_unknown tid cause work) (λ part. if is_undecided part then block tid cause work else work) work
      (λ none. shapes.if_keeps P (same_node tid.home (here work)) work (send tid.home (messages.VotedAbort tid cause) work) work (λ home h. h) (λ away. sends tid.home (messages.VotedAbort tid cause) work))
      (λ part known. shapes.if_keeps P (is_undecided part) (block tid cause work) work work (λ is. left work (block tid cause work) refl refl refl refl refl) (λ is h. h))

  takes_outcome : (tid : Tid) (outcome : Outcome) (work : Work) → Keeps work (take_outcome tid outcome work)
  takes_outcome tid outcome work = shapes.elim_keeps P (part_of tid work) (learn_unknown tid outcome work) (λ part. if is_undecided part then learn tid outcome part work else work) work (λ none. unknown outcome)
      (λ part known. shapes.if_keeps P (is_undecided part) (learn tid outcome part work) work work
      (λ is h. logs (record_learnt tid outcome part) (give_notices tid outcome took) (notices tid outcome took (left work took refl refl refl refl refl h))) (λ is h. h))
    where
      took : Work
      took = with_manager (tm.took_outcome tid outcome) work

      unknown : (o : Outcome) → Keeps work (learn_unknown tid o work)
      unknown outcomes.Commit h = h
      unknown outcomes.Abort h = left work (with_manager (tm.keep_abort tid) work) refl refl refl refl refl h

  pub tells : (peer : NodeNo) (tid : Tid) (outcome : Outcome) (work : Work) → Keeps work (tell_came peer tid outcome work)
  tells peer tid outcome work = shapes.if_keeps P (same_node tid.home (here work)) work (send peer (messages.Told tid (names_at tid outcome work)) (take_outcome tid outcome work)) work (λ home h. h)
      (λ away h. sends peer (messages.Told tid (names_at tid outcome work)) (take_outcome tid outcome work) (takes_outcome tid outcome work h))

  names : (tid : Tid) (further : List NodeNo) (work : Work) → Keeps work (take_names tid further work)
  names tid further work h = sends_each (listed (tm.new_names tid further work.node.manager)) (messages.Tell tid outcomes.Abort) (with_manager (tm.take_names tid further) work) (left work (with_manager (tm.take_names tid further) work) refl refl refl refl refl h)

  keeps_abort : (tid : Tid) (peer : NodeNo) (work : Work) → Keeps work (keep_abort_told tid peer work)
  keeps_abort tid peer work = left work (keep_abort_told tid peer work) refl refl refl refl refl

  pub are_told : (peer : NodeNo) (tid : Tid) (further : List NodeNo) (work : Work) → Keeps work (told_came peer tid further work)
  are_told peer tid further work = shapes.if_keeps P (same_node tid.home (here work)) (elim (part_of tid work) [ None ↦ told_unknown peer tid further work | Some part ↦ told_known peer tid further part.outcome work ]) work work
      (λ home. shapes.elim_keeps P (part_of tid work) (told_unknown peer tid further work) (λ part. told_known peer tid further part.outcome work) work
      (λ none. shapes.if_keeps P (list_any (is_other_node tid) further) (take_names tid further (keep_abort_told tid peer work)) work work (λ is h. names tid further (keep_abort_told tid peer work) (keeps_abort tid peer work h)) (λ is h. h))
      (λ part known. known_so part.outcome)) (λ away h. h)
    where
      noted_so : Work
      noted_so = with_manager (tm.acknowledged tid peer) work

      ended : (b : Bool) → Keeps noted_so (end_told b tid noted_so)
      ended false h = h
      ended true h = left noted_so (forget tid (log (records.End tid) noted_so)) refl refl refl refl refl h

      known_so : (o : Option Outcome) → Keeps work (told_known peer tid further o work)
      known_so None h = h
      known_so (Some outcomes.Commit) h = ended (tm.all_acknowledged tid peer work.node.manager) (left work noted_so refl refl refl refl refl h)
      known_so (Some outcomes.Abort) h = names tid further work h

  pub inquires : (peer : NodeNo) (tid : Tid) (work : Work) → Keeps work (inquiry_came peer tid work)
  inquires peer tid work = shapes.if_keeps P (same_node tid.home (here work)) (elim (part_of tid work) [ None ↦ answer_unknown peer tid work | Some part ↦ answer_known peer tid part.outcome work ]) work work
      (λ home. shapes.elim_keeps P (part_of tid work) (answer_unknown peer tid work) (λ part. answer_known peer tid part.outcome work) work
      (λ none. shapes.if_keeps P (was_committed tid work.node) (send peer (messages.Tell tid outcomes.Commit) work) (send peer (messages.Tell tid outcomes.Abort) (keep_abort_told tid peer work)) work
      (λ is. sends peer (messages.Tell tid outcomes.Commit) work) (λ is h. sends peer (messages.Tell tid outcomes.Abort) (keep_abort_told tid peer work) (keeps_abort tid peer work h)))
      (λ part known. known_so part.outcome)) (λ away h. h)
    where
      known_so : (o : Option Outcome) → Keeps work (answer_known peer tid o work)
      known_so None h = left work (with_manager (tm.add_told tid peer) work) refl refl refl refl refl h
      known_so (Some outcomes.Commit) h = sends peer (messages.Tell tid outcomes.Commit) work h
      known_so (Some outcomes.Abort) h = sends peer (messages.Tell tid outcomes.Abort) (with_manager (tm.add_tell tid peer) work) (left work (with_manager (tm.add_tell tid peer) work) refl refl refl refl refl h)

  -- ---- restarts

  noticed : (peer : NodeNo) (old new : ℕ) (work : Work) (tid : Tid) → Keeps work (notice_tid peer old new work tid)
  noticed peer old new work tid = shapes.elim_keeps P (part_of tid work) work (λ part. notice_part peer old new tid part marked) work (λ none h. h)
      (λ part known h. of part part.outcome (left work marked refl refl refl refl refl h))
    where
      marked : Work
      marked = with_manager (tm.restarted tid peer) work

      gone : (part : Participant) → Keeps marked (find_gone peer old tid part marked)
      gone part = shapes.if_keeps P (is_owed_by peer part) (block tid (causes.Gone peer old) marked) marked marked (λ is. left marked (block tid (causes.Gone peer old) marked) refl refl refl refl refl) (λ is h. h)

      of : (part : Participant) (o : Option Outcome) → Keeps marked (elim o [ None ↦ inquire peer new tid part (find_gone peer old tid part marked) | Some outcome ↦ notice_decided peer tid outcome part marked ])
      of part None = λ h. shapes.if_keeps P (not part.engage.home && is_orphaned_by peer new tid part) (send tid.home (messages.Inquire tid) (find_gone peer old tid part marked)) (find_gone peer old tid part marked) (find_gone peer old tid part marked)
          (λ is. sends tid.home (messages.Inquire tid) (find_gone peer old tid part marked)) (λ is g. g) (gone part h)
      of part (Some outcome) = shapes.if_keeps P part.engage.home (tell_again peer tid outcome part marked) (name_again peer tid part marked) marked
          (λ home. shapes.if_keeps P (is_told_again peer part) (send peer (messages.Tell tid outcome) marked) marked marked (λ is. sends peer (messages.Tell tid outcome) marked) (λ is h. h))
          (λ away. shapes.if_keeps P (is_abort part.outcome && same_node tid.home peer) (send peer (messages.Told tid (listed (named_by tid.home part))) marked) marked marked (λ is. sends peer (messages.Told tid (listed (named_by tid.home part))) marked) (λ is h. h))

  pub restarts : (peer : NodeNo) (old new : ℕ) (work : Work) → Keeps work (peer_restarted peer old new work)
  restarts peer old new work h = shapes.fold_keeps P (notice_tid peer old new) (λ w tid. noticed peer old new w tid) (tm.concerned peer work.node.manager) (with_queues (ipc.mark_queues peer) work)
      (left work (with_queues (ipc.mark_queues peer) work) refl refl refl refl refl h)

  resumes : (work : Work) (tid : Tid) → Keeps work (resume_tid work tid)
  resumes work tid = shapes.elim_keeps P (part_of tid work) work (λ part. resume_part tid part work) work (λ none h. h) (λ part known. of part part.outcome)
    where
      home : (part : Participant) (o : Outcome) → Keeps work (resume_home tid part o work)
      home part outcomes.Commit = sends_each (listed part.tell) (messages.Tell tid outcomes.Commit) work
      home part outcomes.Abort = λ h. logs (record_learnt tid outcomes.Abort part) (give_notices tid outcomes.Abort work) (notices tid outcomes.Abort work h)

      of : (part : Participant) (o : Option Outcome) → Keeps work (elim o [ None ↦ send tid.home (messages.Inquire tid) work | Some outcome ↦ resume_home tid part outcome work ])
      of part None = sends tid.home (messages.Inquire tid) work
      of part (Some outcome) = home part outcome

  pub begins : (work : Work) → Keeps work (begin_incarnation work)
  begins work = shapes.if_keeps P work.node.is_first (fold resume_tid started (known_tids work)) work work
      (λ is h. shapes.fold_keeps P resume_tid resumes (known_tids work) started (left work started refl refl refl refl refl h)) (λ is h. h)
    where
      started : Work
      started = with_node (λ node. record node { is_first = false }) work
