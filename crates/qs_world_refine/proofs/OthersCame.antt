-- What each message that comes makes of its transaction leaves every other one.
use Rattle.qs_world_refine.proofs.Words.{◌≡◌, ℕ, ◌&&◌, not, Bool, true, false, List, [], Option, Some, None, refl, sym, ◌∙◌, if◌then◌else◌, list_any, lookup, is_at, Member, NodeNo, ServerNo, Tid, uncovered, is_node, listed, same_node, Engaged, is_for, Delivery, answer_of, Cause, Op, Reply, Message, Record, is_undecided, is_by_files, Outstanding, Participant, inquiry_came, answer_unknown, answer_known, was_committed, ask_came, asked_by, become_asked, block, refusal_came, pass_unknown, send, answer}
use Rattle.qs_world_refine.proofs.Words.{log, tid_of, give_notices, reply_came, take_reply, answer_issuer, waits_as, client_of, request_came, learn_label, engage, cover_from, take_in, is_dropped, Work, here, part_of, with_manager, with_queues, client_cmp, message_came, tell_came, take_outcome, learn, learn_unknown, record_learnt, end_record, names_at, told_came, told_at_home, told_unknown, told_known, take_names, take_told, end_told, forget, drop_counts, keep_abort_told, is_other_node, IsForeign}
use Rattle.qs_world_refine.proofs.Words.{same_Some}
use Rattle.qs_base.specs.declared.identifiers.Outcome.{Outcome}
use Rattle.qs_base.specs.declared.identifiers.Outcome.TheVariants as outcomes
use Rattle.qs_engage.specs.declared.engage.Engaged.TheVariants as engagements
use Rattle.qs_ipc.specs.Ipc as ipc
use Rattle.qs_packet.specs.declared.message.Message.TheVariants as messages
use Rattle.qs_record.specs.declared.record.Record.TheVariants as records
use Rattle.qs_tm.specs.Manager as tm
use Rattle.qs_tm.specs.Outcomes as outcome_rules
use Rattle.qs_tm.specs.Participant as participant
use Rattle.qs_node_step.specs.Answering.{inquiry_at_home}
use Rattle.qs_node_step.specs.Requests.{enqueue, waiting_at}
use Rattle.qs_node_step.specs.Serving.{met}
use Rattle.qs_world_refine.proofs.CloserCame.{closer_leaves}
use Rattle.qs_world_refine.proofs.During.{Leaves, leaves_itself, leaves_on, send_leaves}
use Rattle.qs_world_refine.proofs.Frames.{out_leaves, part_leaves, part_apart, log_leaves, sends_leave}
use Rattle.qs_world_refine.proofs.Keeping.{answer_leaves}
use Rattle.qs_world_refine.proofs.LogFrames.{Apart}
use Rattle.qs_world_refine.proofs.Others.{manager_leaves, meet_apart, keep_abort_apart, forget_apart, forget_queues_leave, log_if_leaves, notices_leave}
use Rattle.qs_world_refine.proofs.Queues.{waits_other}
use Rattle.qs_world_refine.proofs.Requested.{label_leaves}

module _ (t tid : Tid) (apart : Apart t tid) where
  -- ---- a request

  pub enqueue_leaves : (server : ServerNo) (d : Delivery) (work : Work) → d.tid ≡ tid → Leaves t work (enqueue server d work)
  enqueue_leaves server d work its = by (is_for server d.op)
    where
      by : (b : Bool) → Leaves t work (if b then with_queues (ipc.enqueue server d) work else work)
      by true = out_leaves t work (with_queues (ipc.enqueue server d) work) (record { around = record { setting = refl; waits = λ s. waits_other t server.0 s d work.node.queues (rw its apart); loans = refl; past = refl }; part = refl }) refl refl
      by false = leaves_itself t work

  take_in_leaves : (b : Bool) (member : Member) (d : Delivery) (work : Work) → d.tid ≡ tid → Leaves t work (take_in b member d work)
  take_in_leaves true member d work its = leaves_itself t work
  take_in_leaves false member d work its = enqueue_leaves member.server d work its

  met_leaves : (work : Work) → Leaves t work (met tid work)
  met_leaves work = by (same_node tid.home (here work))
    where
      by : (b : Bool) → Leaves t work (if b then work else with_manager (tm.meet tid) work)
      by true = leaves_itself t work
      by false = manager_leaves t (tm.meet tid) work (meet_apart t tid work.node.manager apart)

  cover_leaves : (e : Engaged) (peer : NodeNo) (number : ℕ) (work : Work) → Leaves t work (cover_from e tid peer number work)
  cover_leaves engagements.Superior peer number work = leaves_itself t work
  cover_leaves engagements.Elsewhere peer number work = send_leaves t peer (messages.Covered tid number) work (rw apart refl)

  engage_leaves : (peer : NodeNo) (number : ℕ) (work : Work) → Leaves t work (engage tid peer number work)
  engage_leaves peer number work =
      leaves_on t work (met tid work) (engage tid peer number work) (met_leaves work)
      (leaves_on t (met tid work) (with_manager (tm.requested tid peer number) (met tid work)) (engage tid peer number work)
      (part_leaves t tid (participant.requested peer number) (met tid work) apart)
      (cover_leaves (tm.engaged_at tid peer (met tid work).node.manager) peer number (with_manager (tm.requested tid peer number) (met tid work))))

  pub request_leaves : (peer : NodeNo) (label : List ℕ) (member : Member) (number : ℕ) (op : Op) (work : Work) → Leaves t work (request_came peer tid label member number op work)
  request_leaves peer label member number op work =
      leaves_on t work (learn_label label tid work) (request_came peer tid label member number op work) (label_leaves t tid label work)
      (leaves_on t (learn_label label tid work) (engage tid peer number (learn_label label tid work)) (request_came peer tid label member number op work)
      (engage_leaves peer number (learn_label label tid work))
      (take_in_leaves (is_dropped (same_node tid.home (here work)) (part_of tid work)) member (record { tid = tid; from = peer; number = number; op = op; stale = false }) (engage tid peer number (learn_label label tid work)) refl))

  -- ---- a reply

  take_reply_leaves : (reply : Reply) (request : Outstanding) (work : Work) → Leaves t work (take_reply tid reply request work)
  take_reply_leaves reply request work = by (is_by_files request)
    where
      answered : (b : Bool) → Leaves t work (if b then answer (client_of request.issuer) (answer_of reply) work else work)
      answered true = answer_leaves t (client_of request.issuer) (answer_of reply) work
      answered false = leaves_itself t work

      by : (b : Bool) → Leaves t work (if b then with_manager (tm.note_served tid request.count) work else answer_issuer tid request.member request.number reply (client_of request.issuer) work)
      by true = part_leaves t tid (participant.note_served request.count) work apart
      by false = answered (waits_as tid request.member request.number (lookup (is_at (client_cmp (client_of request.issuer))) work.node.commands))

  pub reply_leaves : (member : Member) (number : ℕ) (reply : Reply) (work : Work) → Leaves t work (reply_came tid member number reply work)
  reply_leaves member number reply work = by (waiting_at tid member number work)
    where
      by : (o : Option Outstanding) → Leaves t work (elim o [ None ↦ work | Some request ↦ take_reply tid reply request (with_manager (tm.drop_waiting tid member number) work) ])
      by None = leaves_itself t work
      by (Some request) =
          leaves_on t work (with_manager (tm.drop_waiting tid member number) work) (take_reply tid reply request (with_manager (tm.drop_waiting tid member number) work))
          (part_leaves t tid (participant.drop_waiting member number) work apart) (take_reply_leaves reply request (with_manager (tm.drop_waiting tid member number) work))

  -- ---- an AskVote, and a refusal

  pub ask_leaves : (peer : NodeNo) (work : Work) → Leaves t work (ask_came peer tid work)
  ask_leaves peer work = by (part_of tid work)
    where
      asked : (b : Bool) (part : Participant) → Leaves t work (if b then become_asked tid part work else work)
      asked true part =
          leaves_on t work (with_manager (tm.ask tid) work) (become_asked tid part work) (part_leaves t tid participant.ask work apart)
          (sends_leave t (listed (uncovered part.engage)) (messages.AskVote tid) (with_manager (tm.ask tid) work) refl)
      asked false part = leaves_itself t work

      undecided : (b : Bool) (part : Participant) → Leaves t work (if b then asked_by peer tid part work else work)
      undecided true part = asked (is_node peer part.engage.superior && (not part.engage.home && not part.asked)) part
      undecided false part = leaves_itself t work

      by : (o : Option Participant) → Leaves t work (elim o [ None ↦ work | Some part ↦ if is_undecided part then asked_by peer tid part work else work ])
      by None = leaves_itself t work
      by (Some part) = undecided (is_undecided part) part

  pub refusal_leaves : (cause : Cause) (work : Work) → Leaves t work (refusal_came tid cause work)
  refusal_leaves cause work = by (part_of tid work)
    where
      passed : (b : Bool) → Leaves t work (if b then work else send tid.home (messages.VotedAbort tid cause) work)
      passed true = leaves_itself t work
      passed false = send_leaves t tid.home (messages.VotedAbort tid cause) work refl

      blocked : (b : Bool) → Leaves t work (if b then block tid cause work else work)
      blocked true = manager_leaves t (λ manager. tm.add_cause tid cause (tm.refused tid manager)) work (part_apart t tid (participant.add_cause cause) (tm.refused tid work.node.manager) apart ∙ part_apart t tid participant.refused work.node.manager apart)
      blocked false = leaves_itself t work

      by : (o : Option Participant) → Leaves t work (elim o [ None ↦ pass_unknown tid cause work | Some part ↦ if is_undecided part then block tid cause work else work ])
      by None = passed (same_node tid.home (here work))
      by (Some part) = blocked (is_undecided part)

  -- ---- a Tell

  learnt_apart : (outcome : Outcome) (part : Participant) (r : Record) → record_learnt tid outcome part ≡ Some r → Apart t (tid_of r)
  learnt_apart outcome part r is = by part.log.prepared outcome is
    where
      by : (b : Bool) (outcome : Outcome) → (if b then Some (end_record tid outcome) else None) ≡ Some r → Apart t (tid_of r)
      by true outcomes.Commit is = rw (sym (same_Some (records.Commit tid []) r is)) apart
      by true outcomes.Abort is = rw (sym (same_Some (records.Aborted tid) r is)) apart
      by false outcome is = absurd (cc is)

  learn_part_leaves : (outcome : Outcome) (part : Participant) (work : Work) → Leaves t work (learn tid outcome part work)
  learn_part_leaves outcome part work =
      let taken : Work = with_manager (tm.took_outcome tid outcome) work in
      leaves_on t work (give_notices tid outcome taken) (learn tid outcome part work)
      (leaves_on t work taken (give_notices tid outcome taken) (part_leaves t tid (outcome_rules.took_outcome outcome) work apart) (notices_leave t tid outcome taken apart))
      (log_if_leaves t (record_learnt tid outcome part) (give_notices tid outcome taken) (learnt_apart outcome part))

  learn_unknown_leaves : (outcome : Outcome) (work : Work) → Leaves t work (learn_unknown tid outcome work)
  learn_unknown_leaves outcomes.Commit work = leaves_itself t work
  learn_unknown_leaves outcomes.Abort work = manager_leaves t (tm.keep_abort tid) work (keep_abort_apart t tid work.node.manager apart)

  take_outcome_leaves : (outcome : Outcome) (work : Work) → Leaves t work (take_outcome tid outcome work)
  take_outcome_leaves outcome work = by (part_of tid work)
    where
      undecided : (b : Bool) (part : Participant) → Leaves t work (if b then learn tid outcome part work else work)
      undecided true part = learn_part_leaves outcome part work
      undecided false part = leaves_itself t work

      by : (o : Option Participant) → Leaves t work (elim o [ None ↦ learn_unknown tid outcome work | Some part ↦ if is_undecided part then learn tid outcome part work else work ])
      by None = learn_unknown_leaves outcome work
      by (Some part) = undecided (is_undecided part) part

  pub tell_leaves : (peer : NodeNo) (outcome : Outcome) (work : Work) → Leaves t work (tell_came peer tid outcome work)
  tell_leaves peer outcome work = by (same_node tid.home (here work))
    where
      by : (b : Bool) → Leaves t work (if b then work else send peer (messages.Told tid (names_at tid outcome work)) (take_outcome tid outcome work))
      by true = leaves_itself t work
      by false =
          leaves_on t work (take_outcome tid outcome work) (send peer (messages.Told tid (names_at tid outcome work)) (take_outcome tid outcome work)) (take_outcome_leaves outcome work)
          (send_leaves t peer (messages.Told tid (names_at tid outcome work)) (take_outcome tid outcome work) (rw apart refl))

  -- ---- a Told

  drop_leaves : (work : Work) → Leaves t work (with_queues (drop_counts tid) work)
  drop_leaves work = by (ipc.waits tid work.node.queues)
    where
      by : (b : Bool) → Leaves t work (with_queues (λ queues. if b then queues else ipc.forget tid queues) work)
      by true = out_leaves t work (with_queues (λ queues. queues) work) (record { around = record { setting = refl; waits = λ s. refl; loans = refl; past = refl }; part = refl }) refl refl
      by false = forget_queues_leave t tid work

  pub forget_leaves : (work : Work) → Leaves t work (forget tid work)
  forget_leaves work =
      leaves_on t work (with_manager (tm.forget tid) work) (forget tid work) (manager_leaves t (tm.forget tid) work (forget_apart t tid work.node.manager apart)) (drop_leaves (with_manager (tm.forget tid) work))

  end_told_leaves : (b : Bool) (work : Work) → Leaves t work (end_told b tid work)
  end_told_leaves false work = leaves_itself t work
  end_told_leaves true work = leaves_on t work (log (records.End tid) work) (forget tid (log (records.End tid) work)) (log_leaves t (records.End tid) work apart) (forget_leaves (log (records.End tid) work))

  take_told_leaves : (peer : NodeNo) (work : Work) → Leaves t work (take_told peer tid work)
  take_told_leaves peer work =
      leaves_on t work (with_manager (tm.acknowledged tid peer) work) (take_told peer tid work) (part_leaves t tid (outcome_rules.acknowledged peer) work apart)
      (end_told_leaves (tm.all_acknowledged tid peer work.node.manager) (with_manager (tm.acknowledged tid peer) work))

  take_names_leaves : (further : List NodeNo) (work : Work) → Leaves t work (take_names tid further work)
  take_names_leaves further work =
      leaves_on t work (with_manager (tm.take_names tid further) work) (take_names tid further work) (part_leaves t tid (outcome_rules.take_names tid.home further) work apart)
      (sends_leave t (listed (tm.new_names tid further work.node.manager)) (messages.Tell tid outcomes.Abort) (with_manager (tm.take_names tid further) work) (rw apart refl))

  keep_told_leaves : (peer : NodeNo) (work : Work) → Leaves t work (keep_abort_told tid peer work)
  keep_told_leaves peer work = manager_leaves t (λ manager. tm.add_tell tid peer (tm.keep_abort tid manager)) work
      (part_apart t tid (outcome_rules.add_tell peer) (tm.keep_abort tid work.node.manager) apart ∙ keep_abort_apart t tid work.node.manager apart)

  pub told_leaves : (peer : NodeNo) (further : List NodeNo) (work : Work) → Leaves t work (told_came peer tid further work)
  told_leaves peer further work = by (same_node tid.home (here work))
    where
      unknown : (b : Bool) → Leaves t work (if b then take_names tid further (keep_abort_told tid peer work) else work)
      unknown true = leaves_on t work (keep_abort_told tid peer work) (take_names tid further (keep_abort_told tid peer work)) (keep_told_leaves peer work) (take_names_leaves further (keep_abort_told tid peer work))
      unknown false = leaves_itself t work

      known : (o : Option Outcome) → Leaves t work (told_known peer tid further o work)
      known None = leaves_itself t work
      known (Some outcomes.Commit) = take_told_leaves peer work
      known (Some outcomes.Abort) = take_names_leaves further work

      at_home : (o : Option Participant) → Leaves t work (elim o [ None ↦ told_unknown peer tid further work | Some part ↦ told_known peer tid further part.outcome work ])
      at_home None = unknown (list_any (is_other_node tid) further)
      at_home (Some part) = known part.outcome

      by : (b : Bool) → Leaves t work (if b then told_at_home peer tid further work else work)
      by true = at_home (part_of tid work)
      by false = leaves_itself t work

  -- ---- an Inquire

  pub inquiry_leaves : (peer : NodeNo) (work : Work) → Leaves t work (inquiry_came peer tid work)
  inquiry_leaves peer work = by (same_node tid.home (here work))
    where
      unknown : (b : Bool) → Leaves t work (if b then send peer (messages.Tell tid outcomes.Commit) work else send peer (messages.Tell tid outcomes.Abort) (keep_abort_told tid peer work))
      unknown true = send_leaves t peer (messages.Tell tid outcomes.Commit) work (rw apart refl)
      unknown false =
          leaves_on t work (keep_abort_told tid peer work) (send peer (messages.Tell tid outcomes.Abort) (keep_abort_told tid peer work)) (keep_told_leaves peer work)
          (send_leaves t peer (messages.Tell tid outcomes.Abort) (keep_abort_told tid peer work) (rw apart refl))

      known : (o : Option Outcome) → Leaves t work (answer_known peer tid o work)
      known None = part_leaves t tid (participant.add_told peer) work apart
      known (Some outcomes.Commit) = send_leaves t peer (messages.Tell tid outcomes.Commit) work (rw apart refl)
      known (Some outcomes.Abort) =
          leaves_on t work (with_manager (tm.add_tell tid peer) work) (answer_known peer tid (Some outcomes.Abort) work) (part_leaves t tid (outcome_rules.add_tell peer) work apart)
          (send_leaves t peer (messages.Tell tid outcomes.Abort) (with_manager (tm.add_tell tid peer) work) (rw apart refl))

      at_home : (o : Option Participant) → Leaves t work (elim o [ None ↦ answer_unknown peer tid work | Some part ↦ answer_known peer tid part.outcome work ])
      at_home None = unknown (was_committed tid work.node)
      at_home (Some part) = known part.outcome

      by : (b : Bool) → Leaves t work (if b then inquiry_at_home peer tid work else work)
      by true = at_home (part_of tid work)
      by false = leaves_itself t work

-- ---- every message

pub message_leaves : (t : Tid) (peer : NodeNo) (message : Message) (work : Work) → IsForeign t message → Leaves t work (message_came peer message work)
message_leaves t peer messages.Hello work apart = leaves_itself t work
message_leaves t peer (messages.Request tid label member number issuer op) work apart = request_leaves t tid apart peer label member number op work
message_leaves t peer (messages.Answered tid member number reply) work apart = reply_leaves t tid apart member number reply work
message_leaves t peer (messages.AskVote tid) work apart = ask_leaves t tid apart peer work
message_leaves t peer (messages.Covered tid up_to) work apart = closer_leaves t tid peer up_to [] work apart
message_leaves t peer (messages.VotedYes tid up_to told) work apart = closer_leaves t tid peer up_to told work apart
message_leaves t peer (messages.VotedAbort tid cause) work apart = refusal_leaves t tid apart cause work
message_leaves t peer (messages.Tell tid outcome) work apart = tell_leaves t tid apart peer outcome work
message_leaves t peer (messages.Told tid further) work apart = told_leaves t tid apart peer further work
message_leaves t peer (messages.Inquire tid) work apart = inquiry_leaves t tid apart peer work
