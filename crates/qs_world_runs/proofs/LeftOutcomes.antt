-- No rule that decides, tells, asks, counts, refuses, inquires or begins an incarnation bears on the places of a transaction.
use Rattle.qs_world_runs.proofs.Words.{◌≡◌, ℕ, ◌&&◌, not, Bool, true, false, List, Option, Some, None, refl, fold, if◌then◌else◌, list_any, NodeNo, Tid, uncovered, listed, same_node, Cause, answer_known, answer_unknown, inquiry_at_home, inquiry_came, ask_came, asked_by, become_asked, block, closer_came, count, pass_unknown, refusal_came, enter, log_if, send, decide_as, due_endings, end_member, end_members, give_notices, keep_outcome, learn_member, learn_members, learners_at, begin_incarnation}
use Rattle.qs_world_runs.proofs.Words.{find_gone, inquire, is_orphaned_by, known_tids, name_again, notice_decided, notice_part, notice_tid, peer_restarted, resume_home, resume_part, resume_tid, tell_again, Work, here, with_manager, with_node, with_queues, end_told, forget, is_other_node, keep_abort_told, learn, learn_unknown, names_at, record_learnt, take_names, take_outcome, take_told, tell_came, told_at_home, told_came, told_known, told_unknown, is_owed_by, is_undecided, Decision}
use Rattle.qs_world_runs.proofs.Words.{Participant, LeavesPlaces}
use Rattle.qs_base.specs.declared.identifiers.Outcome.{Outcome}
use Rattle.qs_base.specs.declared.identifiers.Outcome.TheVariants as outcomes
use Rattle.qs_ipc.specs.Ipc as ipc
use Rattle.qs_book_journal.specs.declared.entry.Act.TheVariants as acts
use Rattle.qs_ops.specs.declared.answer.Cause.TheVariants as causes
use Rattle.qs_packet.specs.declared.message.Message.TheVariants as messages
use Rattle.qs_record.specs.declared.record.Record.TheVariants as records
use Rattle.qs_node_step.specs.Answering.{was_committed}
use Rattle.qs_node_step.specs.Bringing.{log}
use Rattle.qs_node_step.specs.Deciding.{decide, decide_commit}
use Rattle.qs_node_step.specs.State.{part_of}
use Rattle.qs_tm.specs.Manager as tm
use Rattle.qs_world_runs.proofs.PlacesLeft.{drop_leaves, elim_leaves, entry_leaves, fold_leaves, if_leaves, itself_leaves, log_if_leaves, mark_leaves, same_leaves, send_each_leaves, send_leaves, then_leaves, undecided_leaves}

module _ (t : Tid) where
  abbrev L : Work → Work → Type 0
  L work new = LeavesPlaces t work new

  still : (work new : Work) → new.out.entries ≡ work.out.entries → new.out.messages ≡ work.out.messages → new.node.queues ≡ work.node.queues → new.node.setting ≡ work.node.setting → L work new
  still work new p q r s = same_leaves t work new p q r s

  -- ---- decisions and notices

  pub ended_leaves : (tid : Tid) (work : Work) → L work (end_members tid work)
  ended_leaves tid work = fold_leaves t (end_member tid) (λ w s. entry_leaves t (acts.Ending tid _) w (end_member tid w s) refl refl refl refl refl) (due_endings tid work) work

  learnt_leaves : (tid : Tid) (outcome : Outcome) (work : Work) → L work (learn_members tid outcome work)
  learnt_leaves tid outcome work = fold_leaves t (learn_member tid outcome) (λ w s. entry_leaves t (acts.Learn tid _ outcome) w (learn_member tid outcome w s) refl refl refl refl refl) (learners_at tid work) work

  notices_leave : (tid : Tid) (outcome : Outcome) (work : Work) → L work (give_notices tid outcome work)
  notices_leave tid outcomes.Commit work = learnt_leaves tid outcomes.Commit work
  notices_leave tid outcomes.Abort work = then_leaves t work (end_members tid work) (learn_members tid outcomes.Abort (end_members tid work)) (ended_leaves tid work) (learnt_leaves tid outcomes.Abort (end_members tid work))

  decided_leaves : (tid : Tid) (outcome : Outcome) (cause : Option Cause) (made : Decision) (work : Work) → L work (decide_as tid outcome cause made work)
  decided_leaves tid outcome cause made work =
      then_leaves t work logged (decide_as tid outcome cause made work) (then_leaves t work managed logged (still work managed refl refl refl refl) (log_if_leaves t made.rec managed))
      (then_leaves t logged entered (decide_as tid outcome cause made work) (entry_leaves t (acts.Decide tid outcome cause) logged entered refl refl refl refl refl)
      (then_leaves t entered noticed (decide_as tid outcome cause made work) (notices_leave tid outcome entered) (send_each_leaves t made.tell (messages.Tell tid outcome) noticed (λ server number. refl))))
    where
      managed : Work
      managed = with_manager (tm.decide tid outcome) work

      logged : Work
      logged = log_if made.rec managed

      entered : Work
      entered = enter (acts.Decide tid outcome cause) (keep_outcome tid outcome cause logged)

      noticed : Work
      noticed = give_notices tid outcome entered

  pub decide_leaves : (tid : Tid) (outcome : Outcome) (cause : Option Cause) (work : Work) → L work (decide tid outcome cause work)
  decide_leaves tid outcome cause work = decided_leaves tid outcome cause (tm.decision tid outcome work.node.manager) work

  pub commit_leaves : (tid : Tid) (work : Work) → L work (decide_commit tid work)
  commit_leaves tid work = elim_leaves t (tm.need_past tid work.room work.node.manager) (decide tid outcomes.Commit None work) _ work (decide_leaves tid outcomes.Commit None work) (λ need. decide_leaves tid outcomes.Abort (Some (causes.Room need work.room)) work)

  -- ---- an outcome is told and taken in

  learn_leaves : (tid : Tid) (outcome : Outcome) (part : Participant) (work : Work) → L work (learn tid outcome part work)
  learn_leaves tid outcome part work = then_leaves t work managed (learn tid outcome part work) (still work managed refl refl refl refl)
      (then_leaves t managed noticed (learn tid outcome part work) (notices_leave tid outcome managed) (log_if_leaves t (record_learnt tid outcome part) noticed))
    where
      managed : Work
      managed = with_manager (tm.took_outcome tid outcome) work

      noticed : Work
      noticed = give_notices tid outcome managed

  unknown_leaves : (tid : Tid) (outcome : Outcome) (work : Work) → L work (learn_unknown tid outcome work)
  unknown_leaves tid outcomes.Commit work = itself_leaves t work
  unknown_leaves tid outcomes.Abort work = still work (with_manager (tm.keep_abort tid) work) refl refl refl refl

  outcome_leaves : (tid : Tid) (outcome : Outcome) (work : Work) → L work (take_outcome tid outcome work)
  outcome_leaves tid outcome work = elim_leaves t (part_of tid work) (learn_unknown tid outcome work) (λ part. if is_undecided part then learn tid outcome part work else work) work (unknown_leaves tid outcome work)
      (λ part. if_leaves t (is_undecided part) (learn tid outcome part work) work work (learn_leaves tid outcome part work) (itself_leaves t work))

  pub tell_leaves : (peer : NodeNo) (tid : Tid) (outcome : Outcome) (work : Work) → L work (tell_came peer tid outcome work)
  tell_leaves peer tid outcome work = if_leaves t (same_node tid.home (here work)) work (send peer (messages.Told tid (names_at tid outcome work)) (take_outcome tid outcome work)) work (itself_leaves t work)
      (then_leaves t work (take_outcome tid outcome work) (send peer (messages.Told tid (names_at tid outcome work)) (take_outcome tid outcome work)) (outcome_leaves tid outcome work) (send_leaves t peer (messages.Told tid (names_at tid outcome work)) (take_outcome tid outcome work) (λ server number. refl)))

  pub forget_leaves : (tid : Tid) (work : Work) → L work (forget tid work)
  forget_leaves tid work = then_leaves t work (with_manager (tm.forget tid) work) (forget tid work) (still work (with_manager (tm.forget tid) work) refl refl refl refl) (drop_leaves t tid (with_manager (tm.forget tid) work))

  end_leaves : (b : Bool) (tid : Tid) (work : Work) → L work (end_told b tid work)
  end_leaves false tid work = itself_leaves t work
  end_leaves true tid work = then_leaves t work (log (records.End tid) work) (forget tid (log (records.End tid) work)) (still work (log (records.End tid) work) refl refl refl refl) (forget_leaves tid (log (records.End tid) work))

  taken_leaves : (peer : NodeNo) (tid : Tid) (work : Work) → L work (take_told peer tid work)
  taken_leaves peer tid work = then_leaves t work (with_manager (tm.acknowledged tid peer) work) (take_told peer tid work) (still work (with_manager (tm.acknowledged tid peer) work) refl refl refl refl) (end_leaves (tm.all_acknowledged tid peer work.node.manager) tid (with_manager (tm.acknowledged tid peer) work))

  names_leave : (tid : Tid) (further : List NodeNo) (work : Work) → L work (take_names tid further work)
  names_leave tid further work = then_leaves t work (with_manager (tm.take_names tid further) work) (take_names tid further work) (still work (with_manager (tm.take_names tid further) work) refl refl refl refl)
      (send_each_leaves t (listed (tm.new_names tid further work.node.manager)) (messages.Tell tid outcomes.Abort) (with_manager (tm.take_names tid further) work) (λ server number. refl))

  keep_leaves : (tid : Tid) (peer : NodeNo) (work : Work) → L work (keep_abort_told tid peer work)
  keep_leaves tid peer work = still work (keep_abort_told tid peer work) refl refl refl refl

  told_unknown_leaves : (peer : NodeNo) (tid : Tid) (further : List NodeNo) (work : Work) → L work (told_unknown peer tid further work)
  told_unknown_leaves peer tid further work = if_leaves t (list_any (is_other_node tid) further) (take_names tid further (keep_abort_told tid peer work)) work work
      (then_leaves t work (keep_abort_told tid peer work) (take_names tid further (keep_abort_told tid peer work)) (keep_leaves tid peer work) (names_leave tid further (keep_abort_told tid peer work))) (itself_leaves t work)

  told_known_leaves : (peer : NodeNo) (tid : Tid) (further : List NodeNo) (o : Option Outcome) (work : Work) → L work (told_known peer tid further o work)
  told_known_leaves peer tid further None work = itself_leaves t work
  told_known_leaves peer tid further (Some outcomes.Commit) work = taken_leaves peer tid work
  told_known_leaves peer tid further (Some outcomes.Abort) work = names_leave tid further work

  pub told_leaves : (peer : NodeNo) (tid : Tid) (further : List NodeNo) (work : Work) → L work (told_came peer tid further work)
  told_leaves peer tid further work = if_leaves t (same_node tid.home (here work)) (told_at_home peer tid further work) work work
      (elim_leaves t (part_of tid work) (told_unknown peer tid further work) (λ part. told_known peer tid further part.outcome work) work (told_unknown_leaves peer tid further work) (λ part. told_known_leaves peer tid further part.outcome work)) (itself_leaves t work)

  -- ---- inquiries

  answer_unknown_leaves : (peer : NodeNo) (tid : Tid) (work : Work) → L work (answer_unknown peer tid work)
  answer_unknown_leaves peer tid work = if_leaves t (was_committed tid work.node) (send peer (messages.Tell tid outcomes.Commit) work) (send peer (messages.Tell tid outcomes.Abort) (keep_abort_told tid peer work)) work
      (send_leaves t peer (messages.Tell tid outcomes.Commit) work (λ server number. refl))
      (then_leaves t work (keep_abort_told tid peer work) (send peer (messages.Tell tid outcomes.Abort) (keep_abort_told tid peer work)) (keep_leaves tid peer work) (send_leaves t peer (messages.Tell tid outcomes.Abort) (keep_abort_told tid peer work) (λ server number. refl)))

  answer_known_leaves : (peer : NodeNo) (tid : Tid) (o : Option Outcome) (work : Work) → L work (answer_known peer tid o work)
  answer_known_leaves peer tid None work = still work (with_manager (tm.add_told tid peer) work) refl refl refl refl
  answer_known_leaves peer tid (Some outcomes.Commit) work = send_leaves t peer (messages.Tell tid outcomes.Commit) work (λ server number. refl)
  answer_known_leaves peer tid (Some outcomes.Abort) work = then_leaves t work (with_manager (tm.add_tell tid peer) work) (send peer (messages.Tell tid outcomes.Abort) (with_manager (tm.add_tell tid peer) work))
      (still work (with_manager (tm.add_tell tid peer) work) refl refl refl refl) (send_leaves t peer (messages.Tell tid outcomes.Abort) (with_manager (tm.add_tell tid peer) work) (λ server number. refl))

  pub inquiry_leaves : (peer : NodeNo) (tid : Tid) (work : Work) → L work (inquiry_came peer tid work)
  inquiry_leaves peer tid work = if_leaves t (same_node tid.home (here work)) (inquiry_at_home peer tid work) work work
      (elim_leaves t (part_of tid work) (answer_unknown peer tid work) (λ part. answer_known peer tid part.outcome work) work (answer_unknown_leaves peer tid work) (λ part. answer_known_leaves peer tid part.outcome work)) (itself_leaves t work)

  -- ---- asking, counting, refusals

  pub become_leaves : (tid : Tid) (part : Participant) (work : Work) → L work (become_asked tid part work)
  become_leaves tid part work = then_leaves t work (with_manager (tm.ask tid) work) (become_asked tid part work) (still work (with_manager (tm.ask tid) work) refl refl refl refl)
      (send_each_leaves t (listed (uncovered part.engage)) (messages.AskVote tid) (with_manager (tm.ask tid) work) (λ server number. refl))

  pub ask_came_leaves : (peer : NodeNo) (tid : Tid) (work : Work) → L work (ask_came peer tid work)
  ask_came_leaves peer tid work = undecided_leaves t tid (asked_by peer tid) work (λ part. if_leaves t _ (become_asked tid part work) work work (become_leaves tid part work) (itself_leaves t work))

  pub closer_leaves : (peer : NodeNo) (tid : Tid) (up_to : ℕ) (told : List NodeNo) (work : Work) → L work (closer_came peer tid up_to told work)
  closer_leaves peer tid up_to told work = undecided_leaves t tid (λ part. count peer tid up_to told) work (λ part. entry_leaves t (acts.Counted tid peer up_to) work (count peer tid up_to told work) refl refl refl refl refl)

  block_leaves : (tid : Tid) (cause : Cause) (work : Work) → L work (block tid cause work)
  block_leaves tid cause work = still work (block tid cause work) refl refl refl refl

  pub refusal_leaves : (tid : Tid) (cause : Cause) (work : Work) → L work (refusal_came tid cause work)
  refusal_leaves tid cause work = elim_leaves t (part_of tid work) (pass_unknown tid cause work) (λ part. if is_undecided part then block tid cause work else work) work
      (if_leaves t (same_node tid.home (here work)) work (send tid.home (messages.VotedAbort tid cause) work) work (itself_leaves t work) (send_leaves t tid.home (messages.VotedAbort tid cause) work (λ server number. refl)))
      (λ part. if_leaves t (is_undecided part) (block tid cause work) work work (block_leaves tid cause work) (itself_leaves t work))

  -- ---- another node restarted

  gone_leaves : (peer : NodeNo) (old : ℕ) (tid : Tid) (part : Participant) (work : Work) → L work (find_gone peer old tid part work)
  gone_leaves peer old tid part work = if_leaves t (is_owed_by peer part) (block tid (causes.Gone peer old) work) work work (block_leaves tid (causes.Gone peer old) work) (itself_leaves t work)

  inquire_leaves : (peer : NodeNo) (new : ℕ) (tid : Tid) (part : Participant) (work : Work) → L work (inquire peer new tid part work)
  inquire_leaves peer new tid part work = if_leaves t (not part.engage.home && is_orphaned_by peer new tid part) (send tid.home (messages.Inquire tid) work) work work (send_leaves t tid.home (messages.Inquire tid) work (λ server number. refl)) (itself_leaves t work)

  noticed_leaves : (peer : NodeNo) (tid : Tid) (outcome : Outcome) (part : Participant) (work : Work) → L work (notice_decided peer tid outcome part work)
  noticed_leaves peer tid outcome part work = if_leaves t part.engage.home (tell_again peer tid outcome part work) (name_again peer tid part work) work
      (if_leaves t _ (send peer (messages.Tell tid outcome) work) work work (send_leaves t peer (messages.Tell tid outcome) work (λ server number. refl)) (itself_leaves t work))
      (if_leaves t _ (send peer (messages.Told tid _) work) work work (send_leaves t peer (messages.Told tid _) work (λ server number. refl)) (itself_leaves t work))

  notice_leaves : (peer : NodeNo) (old new : ℕ) (work : Work) (tid : Tid) → L work (notice_tid peer old new work tid)
  notice_leaves peer old new work tid = elim_leaves t (part_of tid work) work (λ part. notice_part peer old new tid part restarted) work (itself_leaves t work)
      (λ part. then_leaves t work restarted (notice_part peer old new tid part restarted) (still work restarted refl refl refl refl)
      (elim_leaves t part.outcome (inquire peer new tid part (find_gone peer old tid part restarted)) (λ outcome. notice_decided peer tid outcome part restarted) restarted
      (then_leaves t restarted (find_gone peer old tid part restarted) (inquire peer new tid part (find_gone peer old tid part restarted)) (gone_leaves peer old tid part restarted) (inquire_leaves peer new tid part (find_gone peer old tid part restarted)))
      (λ outcome. noticed_leaves peer tid outcome part restarted)))
    where
      restarted : Work
      restarted = with_manager (tm.restarted tid peer) work

  pub restarted_leaves : (peer : NodeNo) (old new : ℕ) (work : Work) → L work (peer_restarted peer old new work)
  restarted_leaves peer old new work = then_leaves t work (with_queues (ipc.mark_queues peer) work) (peer_restarted peer old new work) (mark_leaves t peer work) (fold_leaves t (notice_tid peer old new) (λ w tid. notice_leaves peer old new w tid) (tm.concerned peer work.node.manager) (with_queues (ipc.mark_queues peer) work))

  -- ---- the first step of an incarnation

  resumed_leaves : (tid : Tid) (part : Participant) (outcome : Outcome) (work : Work) → L work (resume_home tid part outcome work)
  resumed_leaves tid part outcomes.Commit work = send_each_leaves t (listed part.tell) (messages.Tell tid outcomes.Commit) work (λ server number. refl)
  resumed_leaves tid part outcomes.Abort work = then_leaves t work (give_notices tid outcomes.Abort work) (resume_home tid part outcomes.Abort work) (notices_leave tid outcomes.Abort work) (log_if_leaves t (record_learnt tid outcomes.Abort part) (give_notices tid outcomes.Abort work))

  resume_leaves : (work : Work) (tid : Tid) → L work (resume_tid work tid)
  resume_leaves work tid = elim_leaves t (part_of tid work) work (λ part. resume_part tid part work) work (itself_leaves t work)
      (λ part. elim_leaves t part.outcome (send tid.home (messages.Inquire tid) work) (λ outcome. resume_home tid part outcome work) work (send_leaves t tid.home (messages.Inquire tid) work (λ server number. refl)) (λ outcome. resumed_leaves tid part outcome work))

  pub begin_leaves : (work : Work) → L work (begin_incarnation work)
  begin_leaves work = if_leaves t work.node.is_first (fold resume_tid begun (known_tids work)) work work (then_leaves t work begun (fold resume_tid begun (known_tids work)) (still work begun refl refl refl refl) (fold_leaves t resume_tid (λ w tid. resume_leaves w tid) (known_tids work) begun)) (itself_leaves t work)
    where
      begun : Work
      begun = with_node (λ node. record node { is_first = false }) work
