-- A message that comes leaves each server of its kind.
use Rattle.qs_world_refine.proofs.Words.{ℕ, ◌&&◌, not, Bool, true, false, List, [], Option, Some, None, if◌then◌else◌, list_any, Member, NodeNo, Tid, uncovered, is_node, listed, same_node, Engaged, is_for, Delivery, Cause, Op, Message, is_undecided, Participant, is_none, inquiry_came, answer_unknown, answer_known, was_committed, ask_came, asked_by, become_asked, count, closer_came, block, refusal_came, pass_unknown, send, give_notices, label_at, put_label, learn_label, cover_from, engage}
use Rattle.qs_world_refine.proofs.Words.{is_dropped, take_in, request_came, Work, here, part_of, with_manager, with_queues, message_came, names_at, record_learnt, learn, learn_unknown, take_outcome, tell_came, end_told, take_names, keep_abort_told, is_other_node, told_unknown, told_known, told_at_home, told_came}
use Rattle.qs_base.specs.declared.identifiers.Outcome.{Outcome}
use Rattle.qs_base.specs.declared.identifiers.Outcome.TheVariants as outcomes
use Rattle.qs_engage.specs.declared.engage.Engaged.TheVariants as engagements
use Rattle.qs_ipc.specs.Ipc as ipc
use Rattle.qs_packet.specs.declared.message.Message.TheVariants as messages
use Rattle.qs_tm.specs.Manager as tm
use Rattle.qs_node_step.specs.Answering.{inquiry_at_home}
use Rattle.qs_node_step.specs.Serving.{met}
use Rattle.qs_world_refine.proofs.KindsKept.{KeepsKinds, send_kinds, sends_kinds, log_kinds, notices_kinds}
use Rattle.qs_world_refine.proofs.ServeFrames.{reply_kinds}

-- ---- a request

engage_kinds : (tid : Tid) (peer : NodeNo) (number : ℕ) (work : Work) → KeepsKinds work (engage tid peer number work)
engage_kinds tid peer number work has = cover (tm.engaged_at tid peer (met tid work).node.manager) (with_manager (tm.requested tid peer number) (met tid work)) (meets (same_node tid.home (here work)) has)
  where
    cover : (e : Engaged) (some : Work) → KeepsKinds some (cover_from e tid peer number some)
    cover engagements.Superior some has = has
    cover engagements.Elsewhere some has = send_kinds peer (messages.Covered tid number) some has

    meets : (b : Bool) → KeepsKinds work (if b then work else with_manager (tm.meet tid) work)
    meets true has = has
    meets false has = has

request_kinds : (peer : NodeNo) (tid : Tid) (label : List ℕ) (member : Member) (number : ℕ) (op : Op) (work : Work) → KeepsKinds work (request_came peer tid label member number op work)
request_kinds peer tid label member number op work has =
    taken (is_dropped (same_node tid.home (here work)) (part_of tid work)) (is_for member.server op) (engage tid peer number (learn_label label tid work)) (engage_kinds tid peer number (learn_label label tid work) (labels (is_none (label_at label work.node)) has))
  where
    d : Delivery
    d = record { tid = tid; from = peer; number = number; op = op; stale = false }

    labels : (b : Bool) → KeepsKinds work (if b then put_label (record { label = label; tid = Some tid; owner = None }) work else work)
    labels true has = has
    labels false has = has

    taken : (a b : Bool) (some : Work) → KeepsKinds some (take_in a member (record { tid = tid; from = peer; number = number; op = op; stale = false }) some)
    taken true b some has = has
    taken false b some has = put (is_for member.server op) has
      where
        put : (c : Bool) → KeepsKinds some (if c then with_queues (ipc.enqueue member.server (record { tid = tid; from = peer; number = number; op = op; stale = false })) some else some)
        put true has = has
        put false has = has

-- ---- asking, counting and refusals

undecided_kinds : (tid : Tid) (rule : Participant → Work → Work) (work : Work) → ((part : Participant) → KeepsKinds work (rule part work)) → KeepsKinds work (Rattle.qs_node_step.specs.Asking.where_undecided tid rule work)
undecided_kinds tid rule work each = by (part_of tid work)
  where
    picked : (part : Participant) (b : Bool) → KeepsKinds work (if b then rule part work else work)
    picked part true has = each part has
    picked part false has = has

    by : (o : Option Participant) → KeepsKinds work (elim o [ None ↦ work | Some part ↦ if is_undecided part then rule part work else work ])
    by None has = has
    by (Some part) has = picked part (is_undecided part) has

ask_kinds : (peer : NodeNo) (tid : Tid) (work : Work) → KeepsKinds work (ask_came peer tid work)
ask_kinds peer tid work has = undecided_kinds tid (asked_by peer tid) work (λ part. by part (is_node peer part.engage.superior && (not part.engage.home && not part.asked))) has
  where
    by : (part : Participant) (b : Bool) → KeepsKinds work (if b then become_asked tid part work else work)
    by part true has = sends_kinds (listed (uncovered part.engage)) (messages.AskVote tid) (with_manager (tm.ask tid) work) has
    by part false has = has

closer_kinds : (peer : NodeNo) (tid : Tid) (up_to : ℕ) (told : List NodeNo) (work : Work) → KeepsKinds work (closer_came peer tid up_to told work)
closer_kinds peer tid up_to told work has = undecided_kinds tid (λ part. count peer tid up_to told) work (λ part has. has) has

refusal_kinds : (tid : Tid) (cause : Cause) (work : Work) → KeepsKinds work (refusal_came tid cause work)
refusal_kinds tid cause work = by (part_of tid work)
  where
    passed : (b : Bool) → KeepsKinds work (if b then work else send tid.home (messages.VotedAbort tid cause) work)
    passed true has = has
    passed false has = send_kinds tid.home (messages.VotedAbort tid cause) work has

    blocked : (b : Bool) → KeepsKinds work (if b then block tid cause work else work)
    blocked true has = has
    blocked false has = has

    by : (o : Option Participant) → KeepsKinds work (elim o [ None ↦ pass_unknown tid cause work | Some part ↦ if is_undecided part then block tid cause work else work ])
    by None has = passed (same_node tid.home (here work)) has
    by (Some part) has = blocked (is_undecided part) has

-- ---- outcomes

tell_kinds : (peer : NodeNo) (tid : Tid) (outcome : Outcome) (work : Work) → KeepsKinds work (tell_came peer tid outcome work)
tell_kinds peer tid outcome work = by (same_node tid.home (here work))
  where
    learns : (part : Participant) (b : Bool) → KeepsKinds work (if b then learn tid outcome part work else work)
    learns part true has =
        let taken : Work = with_manager (tm.took_outcome tid outcome) work in
        log_kinds (record_learnt tid outcome part) (give_notices tid outcome taken) (notices_kinds tid outcome taken has)
    learns part false has = has

    unknown : (o : Outcome) → KeepsKinds work (learn_unknown tid o work)
    unknown outcomes.Commit has = has
    unknown outcomes.Abort has = has

    takes : (o : Option Participant) → KeepsKinds work (elim o [ None ↦ learn_unknown tid outcome work | Some part ↦ if is_undecided part then learn tid outcome part work else work ])
    takes None has = unknown outcome has
    takes (Some part) has = learns part (is_undecided part) has

    by : (b : Bool) → KeepsKinds work (if b then work else send peer (messages.Told tid (names_at tid outcome work)) (take_outcome tid outcome work))
    by true has = has
    by false has = send_kinds peer (messages.Told tid (names_at tid outcome work)) (take_outcome tid outcome work) (takes (part_of tid work) has)

told_kinds : (peer : NodeNo) (tid : Tid) (further : List NodeNo) (work : Work) → KeepsKinds work (told_came peer tid further work)
told_kinds peer tid further work = by (same_node tid.home (here work))
  where
    names : (some : Work) → KeepsKinds some (take_names tid further some)
    names some has = sends_kinds (listed (tm.new_names tid further some.node.manager)) (messages.Tell tid outcomes.Abort) (with_manager (tm.take_names tid further) some) has

    ended : (b : Bool) (some : Work) → KeepsKinds some (end_told b tid some)
    ended true some has = has
    ended false some has = has

    unknown : (b : Bool) → KeepsKinds work (if b then take_names tid further (keep_abort_told tid peer work) else work)
    unknown true has = names (keep_abort_told tid peer work) has
    unknown false has = has

    known : (o : Option Outcome) → KeepsKinds work (told_known peer tid further o work)
    known None has = has
    known (Some outcomes.Commit) has = ended (tm.all_acknowledged tid peer work.node.manager) (with_manager (tm.acknowledged tid peer) work) has
    known (Some outcomes.Abort) has = names work has

    at_home : (o : Option Participant) → KeepsKinds work (elim o [ None ↦ told_unknown peer tid further work | Some part ↦ told_known peer tid further part.outcome work ])
    at_home None has = unknown (list_any (is_other_node tid) further) has
    at_home (Some part) has = known part.outcome has

    by : (b : Bool) → KeepsKinds work (if b then told_at_home peer tid further work else work)
    by true has = at_home (part_of tid work) has
    by false has = has

inquiry_kinds : (peer : NodeNo) (tid : Tid) (work : Work) → KeepsKinds work (inquiry_came peer tid work)
inquiry_kinds peer tid work = by (same_node tid.home (here work))
  where
    unknown : (b : Bool) → KeepsKinds work (if b then send peer (messages.Tell tid outcomes.Commit) work else send peer (messages.Tell tid outcomes.Abort) (keep_abort_told tid peer work))
    unknown true has = send_kinds peer (messages.Tell tid outcomes.Commit) work has
    unknown false has = send_kinds peer (messages.Tell tid outcomes.Abort) (keep_abort_told tid peer work) has

    known : (o : Option Outcome) → KeepsKinds work (answer_known peer tid o work)
    known None has = has
    known (Some outcomes.Commit) has = send_kinds peer (messages.Tell tid outcomes.Commit) work has
    known (Some outcomes.Abort) has = send_kinds peer (messages.Tell tid outcomes.Abort) (with_manager (tm.add_tell tid peer) work) has

    at_home : (o : Option Participant) → KeepsKinds work (elim o [ None ↦ answer_unknown peer tid work | Some part ↦ answer_known peer tid part.outcome work ])
    at_home None has = unknown (was_committed tid work.node) has
    at_home (Some part) has = known part.outcome has

    by : (b : Bool) → KeepsKinds work (if b then inquiry_at_home peer tid work else work)
    by true has = at_home (part_of tid work) has
    by false has = has

-- ---- every message

pub message_kinds : (peer : NodeNo) (message : Message) (work : Work) → KeepsKinds work (message_came peer message work)
message_kinds peer messages.Hello work has = has
message_kinds peer (messages.Request tid label member number issuer op) work has = request_kinds peer tid label member number op work has
message_kinds peer (messages.Answered tid member number reply) work has = reply_kinds tid member number reply work has
message_kinds peer (messages.AskVote tid) work has = ask_kinds peer tid work has
message_kinds peer (messages.Covered tid up_to) work has = closer_kinds peer tid up_to [] work has
message_kinds peer (messages.VotedYes tid up_to told) work has = closer_kinds peer tid up_to told work has
message_kinds peer (messages.VotedAbort tid cause) work has = refusal_kinds tid cause work has
message_kinds peer (messages.Tell tid outcome) work has = tell_kinds peer tid outcome work has
message_kinds peer (messages.Told tid further) work has = told_kinds peer tid further work has
message_kinds peer (messages.Inquire tid) work has = inquiry_kinds peer tid work has
