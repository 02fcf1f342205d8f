-- What a node waits for stands on as transactions are decided, as outcomes are told and taken in, and as nodes restart.
use Rattle.qs_world_runs.proofs.Words.{ℕ, Bool, true, false, List, fold, Option, Some, None, refl, if◌then◌else◌, list_any, not, ◌&&◌, NodeNo, Tid, uncovered, listed, same_node, Entry, Cause, Record, answer_known, answer_unknown, inquiry_at_home, inquiry_came, ask_came, asked_by, become_asked, block, closer_came, count, pass_unknown, refusal_came, enter, log_if, member_here, send, send_each, due_endings, end_member, end_members, give_notices, keep_outcome, learn_member, learn_members}
use Rattle.qs_world_runs.proofs.Words.{learners_at, notice_of, notify, begin_incarnation, find_gone, inquire, is_orphaned_by, known_tids, name_again, notice_decided, notice_part, notice_tid, peer_restarted, resume_home, resume_part, resume_tid, tell_again, Work, here, with_manager, with_node, with_queues, end_told, is_other_node, keep_abort_told, learn, learn_unknown, names_at, record_learnt, take_names, take_outcome, tell_came, told_at_home, told_came, told_known, told_unknown, is_told_again}
use Rattle.qs_world_runs.proofs.Words.{named_by, is_owed_by, is_undecided, Decision, Participant, entry_of, Amid, around}
use Rattle.qs_engage.specs.Engage.{is_node}
use Rattle.qs_base.specs.declared.identifiers.Outcome.{Outcome}
use Rattle.qs_base.specs.declared.identifiers.Outcome.TheVariants as outcomes
use Rattle.qs_ipc.specs.Ipc as ipc
use Rattle.qs_book_journal.specs.declared.entry.Act.TheVariants as acts
use Rattle.qs_ops.specs.declared.answer.Cause.TheVariants as causes
use Rattle.qs_ops.specs.declared.vote.Notice.TheVariants as notices
use Rattle.qs_packet.specs.declared.message.Message.TheVariants as messages
use Rattle.qs_record.specs.declared.record.Record.TheVariants as records
use Rattle.qs_node_step.specs.Answering.{was_committed}
use Rattle.qs_node_step.specs.Bringing.{log}
use Rattle.qs_node_step.specs.Deciding.{decide, decide_commit}
use Rattle.qs_node_step.specs.State.{part_of}
use Rattle.qs_tm.specs.Manager as tm
use Rattle.qs_tm.specs.Outcomes as outcome_rules
use Rattle.qs_tm.specs.Outcomes.{is_abort}
use Rattle.qs_tm.specs.Participant as participant
use Rattle.qs_world_runs.proofs.OwingEnters.{commanded_as, decided_amid, entered_amid, history_more}
use Rattle.qs_world_runs.proofs.OwingIssues.{waits_counted}
use Rattle.qs_world_runs.proofs.OwingLeaves.{acknowledged_left, ask_left, cause_left, names_left, refused_left, restarted_left, settled_left, tell_left, told_left, took_left}
use Rattle.qs_world_runs.proofs.OwingParts.{waits_aborted, waits_forgot, waits_left}
use Rattle.qs_world_runs.proofs.OwingRules as rules

module _ (before : List Entry) (stamp : ℕ) where
  abbrev Keeps : Work → Work → Type 0
  Keeps work new = rules.Keeps before stamp work new

  -- ---- notices and decisions

  pub ended_keeps : (tid : Tid) (work : Work) → Keeps work (end_members tid work)
  ended_keeps tid work = rules.fold_keeps before stamp (end_member tid) (λ w s h. entered_amid before stamp (acts.Ending tid (member_here w s)) (notify tid notices.Ending s w) (record { counts = λ t peer number. refl; answers = λ server. refl })
      (waits_left (around before stamp w) tid (outcome_rules.settled s) w.node.manager (settled_left s) h)) (due_endings tid work) work

  learnt_keeps : (tid : Tid) (outcome : Outcome) (work : Work) → Keeps work (learn_members tid outcome work)
  learnt_keeps tid outcome work = rules.fold_keeps before stamp (learn_member tid outcome) (λ w s h. entered_amid before stamp (acts.Learn tid (member_here w s) outcome) (notify tid (notice_of outcome) s w) (record { counts = λ t peer number. refl; answers = λ server. refl })
      (waits_left (around before stamp w) tid (outcome_rules.settled s) w.node.manager (settled_left s) h)) (learners_at tid work) work

  pub noticed_keeps : (tid : Tid) (outcome : Outcome) (work : Work) → Keeps work (give_notices tid outcome work)
  noticed_keeps tid outcomes.Commit work h = learnt_keeps tid outcomes.Commit work h
  noticed_keeps tid outcomes.Abort work h = learnt_keeps tid outcomes.Abort (end_members tid work) (ended_keeps tid work h)

  pub decided_keeps : (tid : Tid) (outcome : Outcome) (cause : Option Cause) (work : Work) → Keeps work (decide tid outcome cause work)
  decided_keeps tid outcome cause work h = sent (tm.decision tid outcome work.node.manager)
    where
      its : Work
      its = keep_outcome tid outcome cause (with_manager (tm.decide tid outcome) work)

      logged : (o : Option Record) → Amid before stamp (keep_outcome tid outcome cause (log_if o (with_manager (tm.decide tid outcome) work)))
      logged None = decided_amid before stamp tid outcome cause work h
      logged (Some rec) = rules.log_if_keeps before stamp (Some rec) its (decided_amid before stamp tid outcome cause work h)

      sent : (d : Decision) → Amid before stamp (send_each d.tell (messages.Tell tid outcome) (give_notices tid outcome (enter (acts.Decide tid outcome cause) (keep_outcome tid outcome cause (log_if d.rec (with_manager (tm.decide tid outcome) work))))))
      sent d = rules.send_each_keeps before stamp d.tell (messages.Tell tid outcome) (give_notices tid outcome (enter (acts.Decide tid outcome cause) (keep_outcome tid outcome cause (log_if d.rec (with_manager (tm.decide tid outcome) work)))))
          (noticed_keeps tid outcome (enter (acts.Decide tid outcome cause) (keep_outcome tid outcome cause (log_if d.rec (with_manager (tm.decide tid outcome) work))))
          (entered_amid before stamp (acts.Decide tid outcome cause) (keep_outcome tid outcome cause (log_if d.rec (with_manager (tm.decide tid outcome) work))) (record { counts = λ t peer number. refl; answers = λ server. refl }) (logged d.rec)))

  pub commit_keeps : (tid : Tid) (work : Work) → Keeps work (decide_commit tid work)
  commit_keeps tid work = rules.elim_keeps before stamp (tm.need_past tid work.room work.node.manager) (decide tid outcomes.Commit None work) (λ need. decide tid outcomes.Abort (Some (causes.Room need work.room)) work) work
      (decided_keeps tid outcomes.Commit None work) (λ need is. decided_keeps tid outcomes.Abort (Some (causes.Room need work.room)) work)

  -- ---- asking, counting, and causes

  pub become_asked_keeps : (tid : Tid) (part : Participant) (work : Work) → Keeps work (become_asked tid part work)
  become_asked_keeps tid part work h = rules.send_each_keeps before stamp (listed (uncovered part.engage)) (messages.AskVote tid) (with_manager (tm.ask tid) work) (rules.part_keeps before stamp tid participant.ask ask_left work h)

  pub ask_came_keeps : (peer : NodeNo) (tid : Tid) (work : Work) → Keeps work (ask_came peer tid work)
  ask_came_keeps peer tid work = rules.undecided_keeps before stamp tid (asked_by peer tid) work (λ part. rules.if_keeps before stamp (is_node peer part.engage.superior && (not part.engage.home && not part.asked)) (become_asked tid part work) work work
      (λ is. become_asked_keeps tid part work) (λ is h. h))

  pub closer_keeps : (peer : NodeNo) (tid : Tid) (up_to : ℕ) (told : List NodeNo) (work : Work) → Keeps work (closer_came peer tid up_to told work)
  closer_keeps peer tid up_to told work = rules.undecided_keeps before stamp tid (λ part. count peer tid up_to told) work (λ part. waits_counted (around before stamp work) (around before stamp (count peer tid up_to told work))
      (entry_of work.node.setting.node.0 stamp (acts.Counted tid peer up_to)) refl (history_more before work.node.setting.node.0 stamp work.out.entries (acts.Counted tid peer up_to)) peer tid up_to told refl
      (λ t request. commanded_as (around before stamp work) (around before stamp (count peer tid up_to told work)) t request (λ command there. there) (λ label begun found. found) (λ kept. kept)) work.node.manager)

  pub block_keeps : (tid : Tid) (cause : Cause) (work : Work) → Keeps work (block tid cause work)
  block_keeps tid cause work h = rules.part_keeps before stamp tid (participant.add_cause cause) (cause_left cause) (with_manager (tm.refused tid) work) (rules.part_keeps before stamp tid participant.refused refused_left work h)

  pub refusal_keeps : (tid : Tid) (cause : Cause) (work : Work) → Keeps work (refusal_came tid cause work)
  refusal_keeps tid cause work = rules.elim_keeps before stamp (part_of tid work) (pass_unknown tid cause work) (λ part. if is_undecided part then block tid cause work else work) work
      (rules.if_keeps before stamp (same_node tid.home (here work)) work (send tid.home (messages.VotedAbort tid cause) work) work (λ is h. h) (λ is. rules.send_keeps before stamp tid.home (messages.VotedAbort tid cause) work))
      (λ part known. rules.if_keeps before stamp (is_undecided part) (block tid cause work) work work (λ is. block_keeps tid cause work) (λ is h. h))

  -- ---- the outcome is told and taken in

  learn_keeps : (tid : Tid) (outcome : Outcome) (part : Participant) (work : Work) → Keeps work (learn tid outcome part work)
  learn_keeps tid outcome part work h =
      rules.log_if_keeps before stamp (record_learnt tid outcome part) (give_notices tid outcome (with_manager (tm.took_outcome tid outcome) work))
      (noticed_keeps tid outcome (with_manager (tm.took_outcome tid outcome) work) (rules.part_keeps before stamp tid (outcome_rules.took_outcome outcome) (took_left outcome) work h))

  take_outcome_keeps : (tid : Tid) (outcome : Outcome) (work : Work) → Keeps work (take_outcome tid outcome work)
  take_outcome_keeps tid outcome work = rules.elim_keeps before stamp (part_of tid work) (learn_unknown tid outcome work) (λ part. if is_undecided part then learn tid outcome part work else work) work (unknown outcome)
      (λ part known. rules.if_keeps before stamp (is_undecided part) (learn tid outcome part work) work work (λ is. learn_keeps tid outcome part work) (λ is h. h))
    where
      unknown : (o : Outcome) → Keeps work (learn_unknown tid o work)
      unknown outcomes.Commit h = h
      unknown outcomes.Abort h = waits_aborted (around before stamp work) tid work.node.manager h

  pub tell_keeps : (peer : NodeNo) (tid : Tid) (outcome : Outcome) (work : Work) → Keeps work (tell_came peer tid outcome work)
  tell_keeps peer tid outcome work = rules.if_keeps before stamp (same_node tid.home (here work)) work (send peer (messages.Told tid (names_at tid outcome work)) (take_outcome tid outcome work)) work (λ is h. h)
      (λ away h. rules.send_keeps before stamp peer (messages.Told tid (names_at tid outcome work)) (take_outcome tid outcome work) (take_outcome_keeps tid outcome work h))

  names_keeps : (tid : Tid) (further : List NodeNo) (work : Work) → Keeps work (take_names tid further work)
  names_keeps tid further work h = rules.send_each_keeps before stamp (listed (tm.new_names tid further work.node.manager)) (messages.Tell tid outcomes.Abort) (with_manager (tm.take_names tid further) work)
      (rules.part_keeps before stamp tid (outcome_rules.take_names tid.home further) (names_left tid.home further) work h)

  keep_abort_keeps : (tid : Tid) (peer : NodeNo) (work : Work) → Keeps work (keep_abort_told tid peer work)
  keep_abort_keeps tid peer work h = waits_left (around before stamp work) tid (outcome_rules.add_tell peer) (tm.keep_abort tid work.node.manager) (tell_left peer) (waits_aborted (around before stamp work) tid work.node.manager h)

  end_told_keeps : (b : Bool) (peer : NodeNo) (tid : Tid) (work : Work) → Keeps work (end_told b tid (with_manager (tm.acknowledged tid peer) work))
  end_told_keeps false peer tid work h = rules.part_keeps before stamp tid (outcome_rules.acknowledged peer) (acknowledged_left peer) work h
  end_told_keeps true peer tid work h = waits_forgot (around before stamp work) tid (log (records.End tid) (with_manager (tm.acknowledged tid peer) work)).node.manager
      (rules.log_if_keeps before stamp (Some (records.End tid)) (with_manager (tm.acknowledged tid peer) work) (rules.part_keeps before stamp tid (outcome_rules.acknowledged peer) (acknowledged_left peer) work h))

  pub told_keeps : (peer : NodeNo) (tid : Tid) (further : List NodeNo) (work : Work) → Keeps work (told_came peer tid further work)
  told_keeps peer tid further work = rules.if_keeps before stamp (same_node tid.home (here work)) (told_at_home peer tid further work) work work
      (λ is. rules.elim_keeps before stamp (part_of tid work) (told_unknown peer tid further work) (λ part. told_known peer tid further part.outcome work) work
      (rules.if_keeps before stamp (list_any (is_other_node tid) further) (take_names tid further (keep_abort_told tid peer work)) work work (λ others h. names_keeps tid further (keep_abort_told tid peer work) (keep_abort_keeps tid peer work h)) (λ others h. h))
      (λ part known. of part.outcome)) (λ is h. h)
    where
      of : (o : Option Outcome) → Keeps work (told_known peer tid further o work)
      of None = λ h. h
      of (Some outcomes.Commit) = end_told_keeps (tm.all_acknowledged tid peer work.node.manager) peer tid work
      of (Some outcomes.Abort) = names_keeps tid further work

  pub inquiry_keeps : (peer : NodeNo) (tid : Tid) (work : Work) → Keeps work (inquiry_came peer tid work)
  inquiry_keeps peer tid work = rules.if_keeps before stamp (same_node tid.home (here work)) (inquiry_at_home peer tid work) work work
      (λ is. rules.elim_keeps before stamp (part_of tid work) (answer_unknown peer tid work) (λ part. answer_known peer tid part.outcome work) work
      (rules.if_keeps before stamp (was_committed tid work.node) (send peer (messages.Tell tid outcomes.Commit) work) (send peer (messages.Tell tid outcomes.Abort) (keep_abort_told tid peer work)) work
      (λ was. rules.send_keeps before stamp peer (messages.Tell tid outcomes.Commit) work) (λ was h. rules.send_keeps before stamp peer (messages.Tell tid outcomes.Abort) (keep_abort_told tid peer work) (keep_abort_keeps tid peer work h)))
      (λ part known. of part.outcome)) (λ is h. h)
    where
      of : (o : Option Outcome) → Keeps work (answer_known peer tid o work)
      of None h = rules.part_keeps before stamp tid (participant.add_told peer) (told_left peer) work h
      of (Some outcomes.Commit) h = rules.send_keeps before stamp peer (messages.Tell tid outcomes.Commit) work h
      of (Some outcomes.Abort) h = rules.send_keeps before stamp peer (messages.Tell tid outcomes.Abort) (with_manager (tm.add_tell tid peer) work) (rules.part_keeps before stamp tid (outcome_rules.add_tell peer) (tell_left peer) work h)

  -- ---- restarts

  notice_keeps : (peer : NodeNo) (old new : ℕ) (work : Work) (tid : Tid) → Keeps work (notice_tid peer old new work tid)
  notice_keeps peer old new work tid = rules.elim_keeps before stamp (part_of tid work) work (λ part. notice_part peer old new tid part (with_manager (tm.restarted tid peer) work)) work (λ h. h)
      (λ part known h. of part part.outcome (rules.part_keeps before stamp tid (participant.restarted peer) (restarted_left peer) work h))
    where
      seen : Work
      seen = with_manager (tm.restarted tid peer) work

      gone : (part : Participant) (w : Work) → Keeps w (find_gone peer old tid part w)
      gone part w = rules.if_keeps before stamp (is_owed_by peer part) (block tid (causes.Gone peer old) w) w w (λ is. block_keeps tid (causes.Gone peer old) w) (λ is h. h)

      asks : (part : Participant) (w : Work) → Keeps w (inquire peer new tid part w)
      asks part w = rules.if_keeps before stamp (not part.engage.home && is_orphaned_by peer new tid part) (send tid.home (messages.Inquire tid) w) w w (λ is. rules.send_keeps before stamp tid.home (messages.Inquire tid) w) (λ is h. h)

      decided : (part : Participant) (outcome : Outcome) (w : Work) → Keeps w (notice_decided peer tid outcome part w)
      decided part outcome w = rules.if_keeps before stamp part.engage.home (tell_again peer tid outcome part w) (name_again peer tid part w) w
          (λ is. rules.if_keeps before stamp (is_told_again peer part) (send peer (messages.Tell tid outcome) w) w w (λ again. rules.send_keeps before stamp peer (messages.Tell tid outcome) w) (λ again h. h))
          (λ is. rules.if_keeps before stamp (is_abort part.outcome && same_node tid.home peer) (send peer (messages.Told tid (listed (named_by tid.home part))) w) w w (λ names. rules.send_keeps before stamp peer (messages.Told tid (listed (named_by tid.home part))) w) (λ names h. h))

      of : (part : Participant) (o : Option Outcome) → Keeps seen (elim o [ None ↦ inquire peer new tid part (find_gone peer old tid part seen) | Some outcome ↦ notice_decided peer tid outcome part seen ])
      of part None h = asks part (find_gone peer old tid part seen) (gone part seen h)
      of part (Some outcome) h = decided part outcome seen h

  pub peer_restarted_keeps : (peer : NodeNo) (old new : ℕ) (work : Work) → Keeps work (peer_restarted peer old new work)
  peer_restarted_keeps peer old new work h = rules.fold_keeps before stamp (notice_tid peer old new) (notice_keeps peer old new) (tm.concerned peer work.node.manager) (with_queues (ipc.mark_queues peer) work) h

  resume_keeps : (work : Work) (tid : Tid) → Keeps work (resume_tid work tid)
  resume_keeps work tid = rules.elim_keeps before stamp (part_of tid work) work (λ part. resume_part tid part work) work (λ h. h) (λ part known. of part part.outcome)
    where
      home : (part : Participant) (o : Outcome) → Keeps work (resume_home tid part o work)
      home part outcomes.Commit = rules.send_each_keeps before stamp (listed part.tell) (messages.Tell tid outcomes.Commit) work
      home part outcomes.Abort = λ h. rules.log_if_keeps before stamp (record_learnt tid outcomes.Abort part) (give_notices tid outcomes.Abort work) (noticed_keeps tid outcomes.Abort work h)

      of : (part : Participant) (o : Option Outcome) → Keeps work (elim o [ None ↦ send tid.home (messages.Inquire tid) work | Some outcome ↦ resume_home tid part outcome work ])
      of part None = rules.send_keeps before stamp tid.home (messages.Inquire tid) work
      of part (Some outcome) = home part outcome

  pub begin_incarnation_keeps : (work : Work) → Keeps work (begin_incarnation work)
  begin_incarnation_keeps work = rules.if_keeps before stamp work.node.is_first (fold resume_tid (with_node (λ node. record node { is_first = false }) work) (known_tids work)) work work
      (λ is h. rules.fold_keeps before stamp resume_tid resume_keeps (known_tids work) (with_node (λ node. record node { is_first = false }) work) h) (λ is h. h)
