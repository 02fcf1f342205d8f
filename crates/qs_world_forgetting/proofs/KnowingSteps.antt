-- A step is the same where the node knows of other Commits: it reads them where a transaction is asked about that it keeps nothing of, and nowhere else.
use Rattle.std.proofs.Common.{◌≡◌, ◌∙◌, ℕ, Bool, true, false, List, [], refl, ap, fold, Option, Some, None}
use Rattle.std.specs.Prelude.{not, ◌&&◌, if◌then◌else◌}
use Rattle.std.specs.Map.{lookup}
use Rattle.std.specs.BTreeMap.{is_at}
use Rattle.qs_base.specs.declared.identifiers.NodeNo.{NodeNo}
use Rattle.qs_base.specs.declared.identifiers.Outcome.{Outcome}
use Rattle.qs_base.specs.declared.identifiers.Tid.{Tid}
use Rattle.qs_base.specs.declared.identifiers.ClientNo.{ClientNo}
use Rattle.qs_base.specs.declared.identifiers.Outcome.TheVariants as outcomes
use Rattle.qs_ops.specs.Timers.{ticked}
use Rattle.qs_ops.specs.declared.answer.Answer.TheVariants as answers
use Rattle.qs_ops.specs.declared.answer.Cause.TheVariants as causes
use Rattle.qs_packet.specs.declared.message.Message.{Message}
use Rattle.qs_packet.specs.declared.message.Message.TheVariants as messages
use Rattle.qs_book_journal.specs.declared.script_line.Command.{Command}
use Rattle.qs_book_journal.specs.declared.entry.Act.TheVariants as acts
use Rattle.qs_engage.specs.Nodes.{same_node, listed}
use Rattle.qs_ipc.specs.Ipc as ipc
use Rattle.qs_tm.specs.Participant.{is_owed_by}
use Rattle.qs_tm.specs.Outcomes.{is_abort, named_by, is_told_again}
use Rattle.qs_tm.specs.Manager as tm
use Rattle.qs_tm.specs.declared.participant.Participant.{Participant}
use Rattle.qs_node_servers.specs.Servers.{timers_no}
use Rattle.qs_node_step.specs.State.{NodeValue, Work, here, part_of, with_manager, client_cmp, with_node, change_server, with_queues, work_on}
use Rattle.qs_node_step.specs.Bringing.{send, enter, answer, log_if}
use Rattle.qs_node_step.specs.Telling.{keep_abort_told, record_learnt}
use Rattle.qs_node_step.specs.Answering.{kept_outcome, was_committed, answer_unknown, answer_known, inquiry_at_home, inquiry_came}
use Rattle.qs_node_step.specs.Asking.{block}
use Rattle.qs_node_step.specs.Commands.{decided_answer}
use Rattle.qs_node_step.specs.Borrowing.{is_aborted}
use Rattle.qs_node_step.specs.Serving.{label_at}
use Rattle.qs_node_step.specs.Deciding.{give_notices}
use Rattle.qs_node_step.specs.Restarts.{find_gone, is_orphaned_by, inquire, tell_again, name_again, notice_decided, notice_part, notice_tid, peer_restarted, resume_home, resume_part, resume_tid, known_tids, begin_incarnation}
use Rattle.qs_node_step.specs.Settling.{settle}
use Rattle.qs_node_step.specs.Step.{is_owner, with_command, message_came, abort_old, age_rule, happen, owner_waits, borrower_waits, waits_at, wait_command, wait_on, waiting_clients, answer_waiting, step_work, accept, after_step, effects_of}
use Rattle.qs_node_step.specs.declared.state.Issued.{Issued}
use Rattle.qs_node_step.specs.declared.state.OpenCommand.{OpenCommand}
use Rattle.qs_node_step.specs.declared.event.Event.{Event}
use Rattle.qs_node_step.specs.declared.event.Event.TheVariants as events
use Rattle.qs_world_forgetting.specs.Knowing.{AsksAlike, EachStepIsSame, begun_on, work_knowing}
use Rattle.qs_world_forgetting.proofs.KnowingDeeds.{Commutes, unchanged, answer_goes, decide_goes, fold_goes, if_goes, log_if_goes, notices_go, opt_goes, same_goes, send_each_goes, send_goes, tell_goes, told_goes, when_goes}
use Rattle.qs_world_forgetting.proofs.KnowingRequests.{reply_goes, request_goes, serve_all_goes}
use Rattle.qs_world_forgetting.proofs.KnowingVotes.{ask_came_goes, closer_goes, refusal_goes, settle_goes}
use Rattle.qs_world_forgetting.proofs.KnowingClients.{borrower_goes, obey_goes}

module _ (c : List Tid) where
  -- ---- restarts

  inquire_goes : (peer : NodeNo) (new : ℕ) (tid : Tid) (part : Participant) → Commutes c (inquire peer new tid part)
  inquire_goes peer new tid part w = when_goes c (not part.engage.home && is_orphaned_by peer new tid part) (send tid.home (messages.Inquire tid)) (send_goes c tid.home (messages.Inquire tid)) w

  gone_goes : (peer : NodeNo) (old : ℕ) (tid : Tid) (part : Participant) → Commutes c (find_gone peer old tid part)
  gone_goes peer old tid part w = when_goes c (is_owed_by peer part) (block tid (causes.Gone peer old)) (λ u. refl) w

  notice_decided_goes : (peer : NodeNo) (tid : Tid) (outcome : Outcome) (part : Participant) → Commutes c (notice_decided peer tid outcome part)
  notice_decided_goes peer tid outcome part w = if_goes c part.engage.home (tell_again peer tid outcome part) (name_again peer tid part) (λ u. when_goes c (is_told_again peer part) (send peer (messages.Tell tid outcome)) (send_goes c peer (messages.Tell tid outcome)) u)
      (λ u. when_goes c (is_abort part.outcome && same_node tid.home peer) (send peer (messages.Told tid (listed (named_by tid.home part)))) (send_goes c peer (messages.Told tid (listed (named_by tid.home part)))) u) w

  notice_part_goes : (peer : NodeNo) (old new : ℕ) (tid : Tid) (part : Participant) → Commutes c (notice_part peer old new tid part)
  notice_part_goes peer old new tid part w = opt_goes c part.outcome (λ u. inquire peer new tid part (find_gone peer old tid part u)) (λ outcome u. notice_decided peer tid outcome part u)
      (λ u. ap (inquire peer new tid part) (gone_goes peer old tid part u) ∙ inquire_goes peer new tid part (find_gone peer old tid part u)) (λ outcome u. notice_decided_goes peer tid outcome part u) w

  notice_tid_goes : (peer : NodeNo) (old new : ℕ) (tid : Tid) → Commutes c (λ w. notice_tid peer old new w tid)
  notice_tid_goes peer old new tid w = opt_goes c (part_of tid w) unchanged (λ part u. notice_part peer old new tid part (with_manager (tm.restarted tid peer) u)) (same_goes c) (λ part u. notice_part_goes peer old new tid part (with_manager (tm.restarted tid peer) u)) w

  restarted_goes : (peer : NodeNo) (old new : ℕ) → Commutes c (peer_restarted peer old new)
  restarted_goes peer old new w = fold_goes c (notice_tid peer old new) (notice_tid_goes peer old new) (tm.concerned peer w.node.manager) (with_queues (ipc.mark_queues peer) w)

  resume_home_goes : (tid : Tid) (part : Participant) (outcome : Outcome) → Commutes c (resume_home tid part outcome)
  resume_home_goes tid part outcomes.Commit w = send_each_goes c (listed part.tell) (messages.Tell tid outcomes.Commit) w
  resume_home_goes tid part outcomes.Abort w = ap (log_if (record_learnt tid outcomes.Abort part)) (notices_go c tid outcomes.Abort w) ∙ log_if_goes c (record_learnt tid outcomes.Abort part) (give_notices tid outcomes.Abort w)

  resume_goes : (tid : Tid) → Commutes c (λ w. resume_tid w tid)
  resume_goes tid w = opt_goes c (part_of tid w) unchanged (λ part u. resume_part tid part u) (same_goes c)
      (λ part u. opt_goes c part.outcome (send tid.home (messages.Inquire tid)) (λ outcome v. resume_home tid part outcome v) (send_goes c tid.home (messages.Inquire tid)) (λ outcome v. resume_home_goes tid part outcome v) u) w

  begin_goes : Commutes c begin_incarnation
  begin_goes w = when_goes c w.node.is_first (λ u. fold resume_tid (with_node (λ node. record node { is_first = false }) u) (known_tids u)) (λ u. fold_goes c resume_tid resume_goes (known_tids u) (with_node (λ node. record node { is_first = false }) u)) w

  -- ---- what comes

  answer_unknown_goes : (peer : NodeNo) (tid : Tid) (w : Work) → was_committed tid (work_knowing c w).node ≡ was_committed tid w.node → answer_unknown peer tid (work_knowing c w) ≡ work_knowing c (answer_unknown peer tid w)
  answer_unknown_goes peer tid w alike = ap (λ (b : Bool). if b then send peer (messages.Tell tid outcomes.Commit) (work_knowing c w) else send peer (messages.Tell tid outcomes.Abort) (keep_abort_told tid peer (work_knowing c w))) alike
      ∙ if_goes c (was_committed tid w.node) (send peer (messages.Tell tid outcomes.Commit)) (λ u. send peer (messages.Tell tid outcomes.Abort) (keep_abort_told tid peer u)) (send_goes c peer (messages.Tell tid outcomes.Commit)) (λ u. send_goes c peer (messages.Tell tid outcomes.Abort) (keep_abort_told tid peer u)) w

  answer_known_goes : (peer : NodeNo) (tid : Tid) (o : Option Outcome) → Commutes c (answer_known peer tid o)
  answer_known_goes peer tid None w = refl
  answer_known_goes peer tid (Some outcomes.Commit) w = send_goes c peer (messages.Tell tid outcomes.Commit) w
  answer_known_goes peer tid (Some outcomes.Abort) w = send_goes c peer (messages.Tell tid outcomes.Abort) (with_manager (tm.add_tell tid peer) w)

  inquiry_goes : (peer : NodeNo) (tid : Tid) (w : Work) → (part_of tid w ≡ None → was_committed tid (work_knowing c w).node ≡ was_committed tid w.node) → inquiry_came peer tid (work_knowing c w) ≡ work_knowing c (inquiry_came peer tid w)
  inquiry_goes peer tid w alike = home (same_node tid.home (here w))
    where
      at : (o : Option Participant) → part_of tid w ≡ o → ◌≡◌ {A = Work} (elim o [ None ↦ answer_unknown peer tid (work_knowing c w) | Some part ↦ answer_known peer tid part.outcome (work_knowing c w) ]) (work_knowing c (elim o [ None ↦ answer_unknown peer tid w | Some part ↦ answer_known peer tid part.outcome w ]))
      at None none = answer_unknown_goes peer tid w (alike none)
      at (Some part) known = answer_known_goes peer tid part.outcome w

      home : (b : Bool) → ◌≡◌ {A = Work} (if b then inquiry_at_home peer tid (work_knowing c w) else work_knowing c w) (work_knowing c (if b then inquiry_at_home peer tid w else w))
      home true = at (part_of tid w) refl
      home false = refl

  message_goes : (peer : NodeNo) (message : Message) (w : Work) → AsksAlike c (events.Received peer message) w → message_came peer message (work_knowing c w) ≡ work_knowing c (message_came peer message w)
  message_goes peer messages.Hello w alike = refl
  message_goes peer (messages.Request tid label member number issuer op) w alike = request_goes c peer tid label member number op w
  message_goes peer (messages.Answered tid member number reply) w alike = reply_goes c tid member number reply w
  message_goes peer (messages.AskVote tid) w alike = ask_came_goes c peer tid w
  message_goes peer (messages.Covered tid up_to) w alike = closer_goes c peer tid up_to [] w
  message_goes peer (messages.VotedYes tid up_to told) w alike = closer_goes c peer tid up_to told w
  message_goes peer (messages.VotedAbort tid cause) w alike = refusal_goes c tid cause w
  message_goes peer (messages.Tell tid outcome) w alike = tell_goes c peer tid outcome w
  message_goes peer (messages.Told tid further) w alike = told_goes c peer tid further w
  message_goes peer (messages.Inquire tid) w alike = inquiry_goes peer tid w alike

  age_goes : (o : Option ℕ) → Commutes c (age_rule o)
  age_goes None w = refl
  age_goes (Some age) w = fold_goes c (abort_old age) (λ tid u. decide_goes c tid outcomes.Abort (Some (causes.Old age)) u) (tm.aged age w.node.manager) w

  happen_goes : (event : Event) (w : Work) → AsksAlike c event w → happen event (work_knowing c w) ≡ work_knowing c (happen event w)
  happen_goes (events.Command client line label command) w alike = obey_goes c (record { client = client; line = line; label = label; command = command }) command (with_command (record { client = client; line = line; label = label; command = command }) w)
  happen_goes (events.Received peer message) w alike = message_goes peer message w alike
  happen_goes events.ServeAll w alike = serve_all_goes c w
  happen_goes (events.PeerRestarted peer old new) w alike = restarted_goes peer old new w
  happen_goes events.Tick w alike = age_goes w.node.setting.age (with_manager tm.tick (change_server timers_no (λ value. record value { timers = ticked value.timers }) (enter acts.Tick w)))

  -- ---- commands that stay open

  owner_waits_goes : (client : ClientNo) (o : Option Tid) (command : Command) → Commutes c (owner_waits client o command)
  owner_waits_goes client None command w = refl
  owner_waits_goes client (Some tid) command w = opt_goes c (kept_outcome tid w.node) unchanged (λ decided u. answer client (decided_answer decided command) u) (same_goes c) (λ decided u. answer_goes c client (decided_answer decided command) u) w

  borrower_waits_goes : (client : ClientNo) (i : Option Issued) (o : Option Tid) (command : Command) → Commutes c (borrower_waits client i o command)
  borrower_waits_goes client (Some issued) o command w = when_goes c (is_aborted issued.tid w.node) (answer client answers.Ended) (answer_goes c client answers.Ended) w
  borrower_waits_goes client None None command w = refl
  borrower_waits_goes client None (Some tid) command w = borrower_goes c client tid command w

  wait_command_goes : (client : ClientNo) (command : OpenCommand) → Commutes c (wait_command client command)
  wait_command_goes client command w = opt_goes c (label_at command.line.label w.node) unchanged (λ begun u. waits_at client command begun u) (same_goes c)
      (λ begun u. if_goes c (is_owner client begun.owner) (owner_waits client begun.tid command.line.command) (borrower_waits client command.issued begun.tid command.line.command) (owner_waits_goes client begun.tid command.line.command)
      (borrower_waits_goes client command.issued begun.tid command.line.command) u) w

  wait_on_goes : (client : ClientNo) → Commutes c (λ w. wait_on w client)
  wait_on_goes client w = opt_goes c (lookup (is_at (client_cmp client)) w.node.commands) unchanged (λ command u. wait_command client command u) (same_goes c) (λ command u. wait_command_goes client command u) w

  waiting_goes : Commutes c answer_waiting
  waiting_goes w = fold_goes c wait_on wait_on_goes (waiting_clients w) w

  -- ---- the step

  pub step_goes : (node : NodeValue) (event : Event) (free : ℕ) → AsksAlike c event (begun_on node free) → step_work (record node { committed = c }) event free ≡ work_knowing c (step_work node event free)
  step_goes node event free alike =
      ap (λ (v : Work). answer_waiting (settle (happen event v))) (begin_goes (work_on node free))
      ∙ ap (λ (v : Work). answer_waiting (settle v)) (happen_goes event (begun_on node free) alike)
      ∙ ap answer_waiting (settle_goes c (happen event (begun_on node free)))
      ∙ waiting_goes (settle (happen event (begun_on node free)))

  pub effects_same : (node : NodeValue) (event : Event) (free : ℕ) → AsksAlike c event (begun_on node free) → effects_of (record node { committed = c }) event free ≡ effects_of node event free
  effects_same node event free alike = ap (λ (w : Work). w.out) (step_goes node event free alike)

  pub after_same : (node : NodeValue) (event : Event) (free : ℕ) → AsksAlike c event (begun_on node free) → after_step (record node { committed = c }) event free ≡ record (after_step node event free) { committed = c }
  after_same node event free alike = ap (λ (w : Work). accept w.node) (step_goes node event free alike)

pub each_step_is_same : EachStepIsSame
each_step_is_same c node event free alike = record { effects = effects_same c node event free alike; after = after_same c node event free alike }
