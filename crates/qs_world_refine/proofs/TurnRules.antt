-- Requests, votes and their answers leave the records of a transaction in turn.
use Rattle.qs_world_refine.proofs.Words.{◌≡◌, ℕ, ◌+◌, ◌==◌, ◌||◌, Bool, true, false, List, Option, Some, None, is_none, is_some, refl, sym, ap, subst, if◌then◌else◌, lookup, is_at, ClientNo, Member, NodeNo, ServerNo, same_tid, Tid, last_number, uncovered, listed, same_node, Engaged, is_for, Delivery, after_serving, Cause, Op, Reply, is_client, client_of, class_here, is_told_class, is_by_files, is_undecided, new_participant, Outstanding, Participant, where_undecided, become_asked, asked_by}
use Rattle.qs_world_refine.proofs.Words.{ask_came, count, closer_came, block, pass_unknown, refusal_came, send, member_here, enter_issue, with_local, issue_here, ask_on, is_asked, label_of, issue_away, issue_as, next_number, issue, waits_as, take_reply, reply_came, label_at, put_label, learn_label, cover_from, engage, is_dropped, take_in, request_came, change_served, enter_serve, lent_to, make_loan, give_reply, serve, reply_here, serve_or_drop, serve_next, serve_all, Work, here, part_of}
use Rattle.qs_world_refine.proofs.Words.{with_manager, client_cmp}
use Rattle.qs_base.specs.declared.identifiers.Outcome.{Outcome}
use Rattle.qs_engage.specs.declared.engage.Engaged.TheVariants as engagements
use Rattle.qs_ipc.specs.Ipc as ipc
use Rattle.qs_packet.specs.declared.message.Message.TheVariants as messages
use Rattle.qs_tm.specs.Manager as tm
use Rattle.qs_tm.specs.Participant as participant
use Rattle.qs_node_step.specs.Requests.{enqueue, waiting_at}
use Rattle.qs_node_step.specs.Serving.{met, may_serve}
use Rattle.qs_world_refine.proofs.SoundKnown.{same_is}
use Rattle.qs_world_refine.proofs.TurnOn.{Case, fate_at, TurnsOn, fate_of, fate_found, on_itself, on_then, fold_on, if_on, rest_on, enter_on, send_on, sends_on, answer_on, queues_on, doings_on, server_on, part_on}
use Rattle.qs_world_refine.proofs.TurnRecords.{heard, put_on}

-- ---- requests that are issued, and their replies

enqueue_on : {k : Case} (server : ServerNo) (delivery : Delivery) (work : Work) → TurnsOn k work (enqueue server delivery work)
enqueue_on {k} server delivery work = if_on (is_for server delivery.op) (queues_on (ipc.enqueue server delivery) work) (on_itself work)

enter_issue_on : {k : Case} (tid : Tid) (request : Outstanding) (op : Op) (work : Work) → TurnsOn k work (enter_issue tid request op work)
enter_issue_on {k} tid request op work = on_then (enter_on _ work) (part_on tid (participant.issued request) (λ part. refl) _)

issue_here_on : {k : Case} (tid : Tid) (request : Outstanding) (op : Op) (work : Work) → TurnsOn k work (issue_here tid request op work)
issue_here_on {k} tid request op work =
    on_then (enter_issue_on tid request op work)
    (on_then (rest_on (enter_issue tid request op work) (with_local tid request.number (enter_issue tid request op work)) refl refl refl refl)
    (enqueue_on request.member.server (record { tid = tid; from = here work; number = request.number; op = op; stale = false }) (with_local tid request.number (enter_issue tid request op work))))

ask_on_on : {k : Case} (b : Bool) (tid : Tid) (to : NodeNo) (work : Work) → TurnsOn k work (ask_on b tid to work)
ask_on_on {k} false tid to work = on_itself work
ask_on_on {k} true tid to work = send_on to (messages.AskVote tid) work

issue_away_on : {k : Case} (tid : Tid) (request : Outstanding) (op : Op) (work : Work) → TurnsOn k work (issue_away tid request op work)
issue_away_on {k} tid request op work =
    on_then (enter_issue_on tid request op work)
    (on_then (part_on tid (participant.sent request.member.node) (λ part. refl) (enter_issue tid request op work))
    (on_then (send_on request.member.node (messages.Request tid (label_of tid work.node) request.member request.number request.issuer op) (with_manager (tm.sent tid request.member.node) (enter_issue tid request op work)))
    (ask_on_on (is_asked tid work) tid request.member.node (send request.member.node (messages.Request tid (label_of tid work.node) request.member request.number request.issuer op) (with_manager (tm.sent tid request.member.node) (enter_issue tid request op work))))))

pub issue_as_on : {k : Case} (tid : Tid) (request : Outstanding) (op : Op) (work : Work) → TurnsOn k work (issue_as tid request op work)
issue_as_on {k} tid request op work = if_on (same_node request.member.node (here work)) (issue_here_on tid request op work) (issue_away_on tid request op work)

pub issue_on : {k : Case} (tid : Tid) (issuer : ServerNo) (member : Member) (op : Op) (count : ℕ) (work : Work) → TurnsOn k work (issue tid issuer member op count work)
issue_on {k} tid issuer member op count work = by (next_number tid member.node work)
  where
    by : (o : Option ℕ) → TurnsOn k work (elim o [ None ↦ work | Some number ↦ issue_as tid (record { issuer = issuer; member = member; number = number; count = count }) op work ])
    by None = on_itself work
    by (Some number) = issue_as_on tid (record { issuer = issuer; member = member; number = number; count = count }) op work

take_reply_on : {k : Case} (tid : Tid) (reply : Reply) (request : Outstanding) (work : Work) → TurnsOn k work (take_reply tid reply request work)
take_reply_on {k} tid reply request work = if_on (is_by_files request) (part_on tid (participant.note_served request.count) (λ part. refl) work)
    (if_on (waits_as tid request.member request.number (lookup (is_at (client_cmp (client_of request.issuer))) work.node.commands)) (answer_on (client_of request.issuer) _ work) (on_itself work))

pub reply_came_on : {k : Case} (tid : Tid) (member : Member) (number : ℕ) (reply : Reply) (work : Work) → TurnsOn k work (reply_came tid member number reply work)
reply_came_on {k} tid member number reply work = by (waiting_at tid member number work)
  where
    by : (o : Option Outstanding) → TurnsOn k work (elim o [ None ↦ work | Some request ↦ take_reply tid reply request (with_manager (tm.drop_waiting tid member number) work) ])
    by None = on_itself work
    by (Some request) = on_then (part_on tid (participant.drop_waiting member number) (λ part. refl) work) (take_reply_on tid reply request (with_manager (tm.drop_waiting tid member number) work))

-- ---- requests that come

met_on : {k : Case} (tid : Tid) (work : Work) → TurnsOn k work (met tid work)
met_on {k} tid work = by (same_node tid.home (here work)) refl (tm.part_of tid work.node.manager) refl
  where
    new : Participant
    new = new_participant (tm.is_home tid work.node.manager)

    unknown : same_node tid.home (here work) ≡ false → tm.part_of tid work.node.manager ≡ None → TurnsOn k work (with_manager (tm.put_part tid new) work)
    unknown away none = put_on tid new work nothing (λ same is. heard (here work) _ work.out.records (nothing same) is
        (subst (λ (u : Tid). same_node u.home (here work) ≡ false) (sym (same_is k.tid tid same)) away))
      where
        nothing : same_tid k.tid tid ≡ true → fate_at k.tid work.node ≡ None
        nothing same = ap fate_found (subst (λ (u : Tid). tm.part_of u work.node.manager ≡ None) (sym (same_is k.tid tid same)) none)

    by : (b : Bool) → same_node tid.home (here work) ≡ b → (o : Option Participant) → tm.part_of tid work.node.manager ≡ o → TurnsOn k work (if b then work else record work { node = record work.node { manager = if is_some o then work.node.manager else tm.put_part tid new work.node.manager } })
    by true at o known = on_itself work
    by false away None none = unknown away none
    by false away (Some part) known = on_itself work

cover_on : {k : Case} (engaged : Engaged) (tid : Tid) (peer : NodeNo) (number : ℕ) (work : Work) → TurnsOn k work (cover_from engaged tid peer number work)
cover_on {k} engagements.Superior tid peer number work = on_itself work
cover_on {k} engagements.Elsewhere tid peer number work = send_on peer (messages.Covered tid number) work

engage_on : {k : Case} (tid : Tid) (peer : NodeNo) (number : ℕ) (work : Work) → TurnsOn k work (engage tid peer number work)
engage_on {k} tid peer number work =
    on_then (met_on tid work)
    (on_then (part_on tid (participant.requested peer number) (λ part. refl) (met tid work))
    (cover_on (tm.engaged_at tid peer (met tid work).node.manager) tid peer number (with_manager (tm.requested tid peer number) (met tid work))))

learn_label_on : {k : Case} (label : List ℕ) (tid : Tid) (work : Work) → TurnsOn k work (learn_label label tid work)
learn_label_on {k} label tid work = if_on (is_none (label_at label work.node)) (rest_on work (put_label (record { label = label; tid = Some tid; owner = None }) work) refl refl refl refl) (on_itself work)

take_in_on : {k : Case} (dropped : Bool) (member : Member) (delivery : Delivery) (work : Work) → TurnsOn k work (take_in dropped member delivery work)
take_in_on {k} true member delivery work = on_itself work
take_in_on {k} false member delivery work = enqueue_on member.server delivery work

pub request_came_on : {k : Case} (peer : NodeNo) (tid : Tid) (label : List ℕ) (member : Member) (number : ℕ) (op : Op) (work : Work) → TurnsOn k work (request_came peer tid label member number op work)
request_came_on {k} peer tid label member number op work =
    on_then (learn_label_on label tid work)
    (on_then (engage_on tid peer number (learn_label label tid work))
    (take_in_on (is_dropped (same_node tid.home (here work)) (part_of tid work)) member (record { tid = tid; from = peer; number = number; op = op; stale = false }) (engage tid peer number (learn_label label tid work))))

-- ---- requests that are served

change_served_on : {k : Case} (server : ServerNo) (tid : Tid) (op : Op) (reply : Reply) (work : Work) → TurnsOn k work (change_served server tid op reply work)
change_served_on {k} server tid op reply work = if_on (is_client server) (on_itself work) (server_on server (λ value. after_serving value tid op reply) work)

-- one more was served: what became of it stays
served_fate : (server : ServerNo) (part : Participant) → fate_of (participant.served server part) ≡ fate_of part
served_fate server part = by ((participant.member_of part server).served == last_number)
  where
    by : (b : Bool) → fate_of (if b then part
        else record (participant.with_member server (record (participant.member_of part server) { served = (participant.member_of part server).served + 1; fresh = true }) part) {
          involved = part.involved || is_told_class (class_here server);
        }) ≡ fate_of part
    by true = refl
    by false = refl

enter_serve_on : {k : Case} (server : ServerNo) (delivery : Delivery) (reply : Reply) (work : Work) → TurnsOn k work (enter_serve server delivery reply work)
enter_serve_on {k} server delivery reply work =
    on_then (change_served_on server delivery.tid delivery.op reply work)
    (on_then (doings_on delivery.tid (λ doings. record doings { served = true }) (change_served server delivery.tid delivery.op reply work))
    (on_then (part_on delivery.tid (participant.served server) (served_fate server) _) (enter_on _ _)))

make_loan_on : {k : Case} (tid : Tid) (client : Option ClientNo) (work : Work) → TurnsOn k work (make_loan tid client work)
make_loan_on {k} tid None work = on_itself work
make_loan_on {k} tid (Some client) work = rest_on work (make_loan tid (Some client) work) refl refl refl refl

give_reply_on : {k : Case} (member : Member) (delivery : Delivery) (reply : Reply) (work : Work) → TurnsOn k work (give_reply member delivery reply work)
give_reply_on {k} member delivery reply work = if_on (same_node delivery.from (here work)) (reply_came_on delivery.tid member delivery.number reply work)
    (if_on delivery.stale (on_itself work) (send_on delivery.from (messages.Answered delivery.tid member delivery.number reply) work))

serve_on : {k : Case} (server : ServerNo) (delivery : Delivery) (reply : Reply) (work : Work) → TurnsOn k work (serve server delivery reply work)
serve_on {k} server delivery reply work =
    on_then (enter_serve_on server delivery reply work)
    (on_then (make_loan_on delivery.tid (lent_to delivery.op) (enter_serve server delivery reply work))
    (give_reply_on (member_here work server) delivery reply (make_loan delivery.tid (lent_to delivery.op) (enter_serve server delivery reply work))))

serve_or_drop_on : {k : Case} (server : ServerNo) (delivery : Delivery) (work : Work) → TurnsOn k work (serve_or_drop server delivery work)
serve_or_drop_on {k} server delivery work = if_on (may_serve delivery.tid work) (by (reply_here server delivery.tid delivery.op work.node)) (on_itself work)
  where
    by : (o : Option Reply) → TurnsOn k work (elim o [ None ↦ work | Some reply ↦ serve server delivery reply work ])
    by None = on_itself work
    by (Some reply) = serve_on server delivery reply work

serve_next_on : {k : Case} (work : Work) (server : ServerNo) → TurnsOn k work (serve_next work server)
serve_next_on {k} work server = by (ipc.next server work.node.queues)
  where
    by : (o : Option Delivery) → TurnsOn k work (elim o [ None ↦ work | Some delivery ↦ serve_or_drop server delivery (Rattle.qs_node_step.specs.State.with_queues (ipc.after_next server) work) ])
    by None = on_itself work
    by (Some delivery) = on_then (queues_on (ipc.after_next server) work) (serve_or_drop_on server delivery _)

pub serve_all_on : {k : Case} (work : Work) → TurnsOn k work (serve_all work)
serve_all_on {k} work = fold_on serve_next serve_next_on (ipc.turns work.node.queues) work

-- ---- asking, counting and refusing

pub undecided_on : {k : Case} (tid : Tid) (rule : Participant → Work → Work) (work : Work) → ((part : Participant) → part_of tid work ≡ Some part → part.outcome ≡ None → TurnsOn k work (rule part work)) → TurnsOn k work (where_undecided tid rule work)
undecided_on {k} tid rule work each = by (part_of tid work) refl
  where
    at : (part : Participant) → part_of tid work ≡ Some part → (o : Option Outcome) → part.outcome ≡ o → TurnsOn k work (if is_none o then rule part work else work)
    at part known None open_now = each part known open_now
    at part known (Some outcome) is = on_itself work

    by : (o : Option Participant) → part_of tid work ≡ o → TurnsOn k work (elim o [ None ↦ work | Some part ↦ if is_undecided part then rule part work else work ])
    by None none = on_itself work
    by (Some part) known = at part known part.outcome refl

pub become_asked_on : {k : Case} (tid : Tid) (part : Participant) (work : Work) → TurnsOn k work (become_asked tid part work)
become_asked_on {k} tid part work = on_then (part_on tid participant.ask (λ part. refl) work) (sends_on (listed (uncovered part.engage)) (messages.AskVote tid) _)

pub ask_came_on : {k : Case} (peer : NodeNo) (tid : Tid) (work : Work) → TurnsOn k work (ask_came peer tid work)
ask_came_on {k} peer tid work = undecided_on tid (asked_by peer tid) work (λ part known open_now. if_on _ (become_asked_on tid part work) (on_itself work))

pub closer_came_on : {k : Case} (peer : NodeNo) (tid : Tid) (up_to : ℕ) (told : List NodeNo) (work : Work) → TurnsOn k work (closer_came peer tid up_to told work)
closer_came_on {k} peer tid up_to told work = undecided_on tid (λ part. count peer tid up_to told) work (λ part known open_now. on_then (part_on tid (participant.counted tid.home peer up_to told) (λ part. refl) work) (enter_on _ _))

pub block_on : {k : Case} (tid : Tid) (cause : Cause) (work : Work) → TurnsOn k work (block tid cause work)
block_on {k} tid cause work = on_then (part_on tid participant.refused (λ part. refl) work) (part_on tid (participant.add_cause cause) (λ part. refl) (with_manager (tm.refused tid) work))

pub refusal_came_on : {k : Case} (tid : Tid) (cause : Cause) (work : Work) → TurnsOn k work (refusal_came tid cause work)
refusal_came_on {k} tid cause work = by (part_of tid work)
  where
    by : (o : Option Participant) → TurnsOn k work (elim o [ None ↦ pass_unknown tid cause work | Some part ↦ if is_undecided part then block tid cause work else work ])
    by None = if_on (same_node tid.home (here work)) (on_itself work) (send_on tid.home (messages.VotedAbort tid cause) work)
    by (Some part) = if_on (is_undecided part) (block_on tid cause work) (on_itself work)
