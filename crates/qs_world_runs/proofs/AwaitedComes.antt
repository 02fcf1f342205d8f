-- What waits for its reply waits on through whatever comes in a step, and so through the whole step, until its own reply comes or the outcome does: a client whose request waits
-- commands nothing else meanwhile.
use Rattle.qs_world_runs.proofs.Words.{◌≡◌, inl, ℕ, ◌==◌, ◌&&◌, not, true, false, List, [], fold, Option, Some, None, refl, if◌then◌else◌, insert_entry, is_at, find, list_any, lookup, is_none, is_some, same_member, Member, NodeNo, Tid, same_node, Cause, send, end_members, Work, change_server, here, with_manager, with_queues, forget, awaits_note, is_answered_by, is_by_files, is_forgotten, new_participant, Participant, Message, ask_came, become_asked, block, closer_came, count, pass_unknown}
use Rattle.qs_world_runs.proofs.Words.{refusal_came, where_undecided, enter, begin_incarnation, find_gone, inquire, name_again, notice_decided, notice_part, notice_tid, peer_restarted, resume_home, resume_part, resume_tid, tell_again, known_tids, abort_old, age_rule, message_came, tick, with_node}
use Rattle.qs_base.specs.declared.identifiers.Outcome.{Outcome}
use Rattle.qs_base.specs.declared.identifiers.Outcome.TheVariants as outcomes
use Rattle.qs_ipc.specs.Ipc as ipc
use Rattle.qs_packet.specs.declared.message.Message.TheVariants as messages
use Rattle.qs_node_step.specs.Deciding.{decide, decide_commit}
use Rattle.qs_node_step.specs.State.{part_of}
use Rattle.qs_tm.specs.Manager as tm
use Rattle.qs_tm.specs.Participant as participant
use Rattle.qs_book_journal.specs.declared.entry.Act.TheVariants as acts
use Rattle.qs_ops.specs.declared.answer.Cause.TheVariants as causes
use Rattle.qs_node_servers.specs.Servers.{timers_no}
use Rattle.qs_node_step.specs.Asking as asking
use Rattle.qs_world_runs.proofs.AwaitedKept.{elsewhere}
use Rattle.qs_world_runs.proofs.AwaitedTurns.{came_on}
use Rattle.qs_world_runs.proofs.AwaitedRequests.{reply_on}
use Rattle.qs_world_runs.proofs.AwaitedRules.{become_on, block_on, log_if_on, notices_on, send_each_on, On, Kept, change_on, decide_on, fold_on, if_on, itself_on, send_on, then_on, undecided_on, waits_on}
use Rattle.qs_world_runs.proofs.AwaitedTold.{inquiry_on, tell_on, told_on}

module _ (D : Type 0) (tid : Tid) (member : Member) (number : ℕ) where
  abbrev L : Work → Work → Type 0
  L work new = On D tid member number work new

  -- ---- another node restarted, and the first step of an incarnation

  restarted_kept : (peer : NodeNo) → Kept D tid member number (participant.restarted peer)
  restarted_kept peer = record { home = λ p. refl; superior = λ p is. is; outcome = λ p. refl; waiting = λ p request m k a. a }

  notice_on : (peer : NodeNo) (old new : ℕ) (work : Work) (t : Tid) → L work (notice_tid peer old new work t)
  notice_on peer old new work t = by (part_of t work)
    where
      restarted : Work
      restarted = with_manager (tm.restarted t peer) work

      gone : (part : Participant) → L restarted (find_gone peer old t part restarted)
      gone part = if_on D tid member number (participant.is_owed_by peer part) (block t (causes.Gone peer old) restarted) restarted restarted (λ so. block_on D tid member number t (causes.Gone peer old) restarted) (λ so. itself_on D tid member number restarted)

      inquires : (part : Participant) (w : Work) → L w (inquire peer new t part w)
      inquires part w = if_on D tid member number (not part.engage.home && Rattle.qs_node_step.specs.Restarts.is_orphaned_by peer new t part) (send t.home (messages.Inquire t) w) w w (λ so. send_on D tid member number t.home (messages.Inquire t) w) (λ so. itself_on D tid member number w)

      decided : (outcome : Outcome) (part : Participant) → L restarted (notice_decided peer t outcome part restarted)
      decided outcome part = if_on D tid member number part.engage.home (tell_again peer t outcome part restarted) (name_again peer t part restarted) restarted
          (λ so. if_on D tid member number (Rattle.qs_tm.specs.Outcomes.is_told_again peer part) (send peer (messages.Tell t outcome) restarted) restarted restarted (λ s. send_on D tid member number peer (messages.Tell t outcome) restarted) (λ s. itself_on D tid member number restarted))
          (λ so. if_on D tid member number _ (send peer (messages.Told t _) restarted) restarted restarted (λ s. send_on D tid member number peer (messages.Told t _) restarted) (λ s. itself_on D tid member number restarted))

      of : (part : Participant) (o : Option Outcome) → L restarted (elim o [ None ↦ inquire peer new t part (find_gone peer old t part restarted) | Some outcome ↦ notice_decided peer t outcome part restarted ])
      of part None = then_on D tid member number restarted (find_gone peer old t part restarted) (inquire peer new t part (find_gone peer old t part restarted)) (gone part) (inquires part (find_gone peer old t part restarted))
      of part (Some outcome) = decided outcome part

      by : (o : Option Participant) → L work (elim o [ None ↦ work | Some part ↦ notice_part peer old new t part restarted ])
      by None = itself_on D tid member number work
      by (Some part) = then_on D tid member number work restarted (notice_part peer old new t part restarted) (change_on D tid member number t (participant.restarted peer) work (λ e. restarted_kept peer)) (of part part.outcome)

  pub peer_on : (peer : NodeNo) (old new : ℕ) (work : Work) → L work (peer_restarted peer old new work)
  peer_on peer old new work = then_on D tid member number work (with_queues (ipc.mark_queues peer) work) (peer_restarted peer old new work) (λ w. inl w)
      (fold_on D tid member number (notice_tid peer old new) (notice_on peer old new) (tm.concerned peer work.node.manager) (with_queues (ipc.mark_queues peer) work))

  resume_on : (work : Work) (t : Tid) → L work (resume_tid work t)
  resume_on work t = by (part_of t work)
    where
      home : (part : Participant) (outcome : Outcome) → L work (resume_home t part outcome work)
      home part outcomes.Commit = send_each_on D tid member number (Rattle.qs_engage.specs.Nodes.listed part.tell) (messages.Tell t outcomes.Commit) work
      home part outcomes.Abort = then_on D tid member number work (Rattle.qs_node_step.specs.Deciding.give_notices t outcomes.Abort work) (resume_home t part outcomes.Abort work) (notices_on D tid member number t outcomes.Abort work)
          (log_if_on D tid member number (Rattle.qs_node_step.specs.Telling.record_learnt t outcomes.Abort part) (Rattle.qs_node_step.specs.Deciding.give_notices t outcomes.Abort work))

      of : (part : Participant) (o : Option Outcome) → L work (elim o [ None ↦ send t.home (messages.Inquire t) work | Some outcome ↦ resume_home t part outcome work ])
      of part None = send_on D tid member number t.home (messages.Inquire t) work
      of part (Some outcome) = home part outcome

      by : (o : Option Participant) → L work (elim o [ None ↦ work | Some part ↦ resume_part t part work ])
      by None = itself_on D tid member number work
      by (Some part) = of part part.outcome

  pub begins_on : (work : Work) → L work (begin_incarnation work)
  begins_on work = if_on D tid member number work.node.is_first (fold resume_tid begun (known_tids work)) work work (λ so. then_on D tid member number work begun (fold resume_tid begun (known_tids work)) (λ w. inl w) (fold_on D tid member number resume_tid resume_on (known_tids work) begun)) (λ so. itself_on D tid member number work)
    where
      begun : Work
      begun = with_node (λ node. record node { is_first = false }) work

  -- ---- messages but replies, and time

  refusal_on : (t : Tid) (cause : Cause) (work : Work) → L work (refusal_came t cause work)
  refusal_on t cause work = by (part_of t work)
    where
      by : (o : Option Participant) → L work (elim o [ None ↦ pass_unknown t cause work | Some part ↦ if participant.is_undecided part then block t cause work else work ])
      by None = if_on D tid member number (same_node t.home (here work)) work (send t.home (messages.VotedAbort t cause) work) work (λ so. itself_on D tid member number work) (λ so. send_on D tid member number t.home (messages.VotedAbort t cause) work)
      by (Some part) = if_on D tid member number (participant.is_undecided part) (block t cause work) work work (λ so. block_on D tid member number t cause work) (λ so. itself_on D tid member number work)

  closer_on : (peer : NodeNo) (t : Tid) (up_to : ℕ) (told : List NodeNo) (work : Work) → L work (closer_came peer t up_to told work)
  closer_on peer t up_to told work = undecided_on D tid member number t (λ part. count peer t up_to told) work (λ part known open_now. change_on D tid member number t (participant.counted t.home peer up_to told) work
      (λ e. record { home = λ p. refl; superior = λ p is. is; outcome = λ p. refl; waiting = λ p request m k a. a }))

  asked_on : (peer : NodeNo) (t : Tid) (work : Work) → L work (ask_came peer t work)
  asked_on peer t work = undecided_on D tid member number t (asking.asked_by peer t) work (λ part known open_now. if_on D tid member number _ (become_asked t part work) work work (λ so. become_on D tid member number t part work) (λ so. itself_on D tid member number work))

  -- what the message takes in: its reply, or its outcome
  abbrev pub TakesIn : Message → Type 0
  TakesIn (messages.Answered t m n reply) = t ≡ tid → (same_member member m && (number == n)) ≡ true → D
  TakesIn (messages.Tell t outcome) = t ≡ tid → D
  TakesIn message = Rattle.std.specs.Prelude.⊤

  pub message_on : (peer : NodeNo) (message : Message) (work : Work) → TakesIn message → L work (message_came peer message work)
  message_on peer messages.Hello work its = itself_on D tid member number work
  message_on peer (messages.Request t label m n issuer op) work its = came_on D tid member number peer t label m n op work
  message_on peer (messages.Answered t m n reply) work its = reply_on D tid member number t m n reply work its
  message_on peer (messages.AskVote t) work its = asked_on peer t work
  message_on peer (messages.Covered t up_to) work its = closer_on peer t up_to [] work
  message_on peer (messages.VotedYes t up_to told) work its = closer_on peer t up_to told work
  message_on peer (messages.VotedAbort t cause) work its = refusal_on t cause work
  message_on peer (messages.Tell t outcome) work its = tell_on D tid member number peer t outcome work its
  message_on peer (messages.Told t further) work its = told_on D tid member number peer t further work
  message_on peer (messages.Inquire t) work its = inquiry_on D tid member number peer t work

  pub tick_on : (work : Work) → L work (tick work)
  tick_on work = then_on D tid member number work ticks (tick work) (waits_on D tid member number work ticks (λ w. inl (elsewhere tid member number work.node.commands work.node.kept.now work.node.setting.inc work.node.manager (tm.tick work.node.manager) refl w)) (λ k. k)) (by ticks.node.setting.age)
    where
      ticks : Work
      ticks = with_manager tm.tick (change_server timers_no (λ value. record value { timers = Rattle.qs_ops.specs.Timers.ticked value.timers }) (enter acts.Tick work))

      by : (o : Option ℕ) → L ticks (age_rule o ticks)
      by None = itself_on D tid member number ticks
      by (Some age) = fold_on D tid member number (abort_old age) (λ w t. decide_on D tid member number t outcomes.Abort (Some (causes.Old age)) w) (tm.aged age ticks.node.manager) ticks
