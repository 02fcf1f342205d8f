-- Engagement on request, and how what waits is served.
use Rattle.std.specs.Prelude.{ℕ, Bool, true, false, not, List, [], ◌∷◌, ◌++◌, fold, Option, Some, None, is_some, is_none, if◌then◌else◌}
use Rattle.std.specs.List.{find}
use Rattle.qs_base.specs.declared.identifiers.ClientNo.{ClientNo}
use Rattle.qs_base.specs.declared.identifiers.Member.{Member}
use Rattle.qs_base.specs.declared.identifiers.NodeNo.{NodeNo}
use Rattle.qs_base.specs.declared.identifiers.ServerNo.{ServerNo}
use Rattle.qs_base.specs.declared.identifiers.Tid.{Tid}
use Rattle.qs_engage.specs.Nodes.{same_node}
use Rattle.qs_engage.specs.declared.engage.Engaged.{Engaged}
use Rattle.qs_engage.specs.declared.engage.Engaged.TheVariants as engagements
use Rattle.qs_ipc.specs.Ipc as ipc
use Rattle.qs_ipc.specs.Queue.{is_for}
use Rattle.qs_ipc.specs.declared.delivery.Delivery.{Delivery}
use Rattle.qs_ops.specs.Server.{reply_of, after_serving}
use Rattle.qs_ops.specs.declared.operation.Op.{Op}
use Rattle.qs_ops.specs.declared.operation.Op.TheVariants.{Lend}
use Rattle.qs_ops.specs.declared.reply.Reply.{Reply}
use Rattle.qs_ops.specs.declared.reply.Reply.TheVariants as replies
use Rattle.qs_book_journal.specs.declared.entry.Act.TheVariants as acts
use Rattle.qs_packet.specs.declared.message.Message.TheVariants as messages
use Rattle.qs_tm.specs.Manager as tm
use Rattle.qs_tm.specs.Outcomes.{is_abort}
use Rattle.qs_tm.specs.Participant.{is_undecided}
use Rattle.qs_tm.specs.declared.participant.Participant.{Participant}
use Rattle.qs_node_kept.specs.Keeping.{has_label}
use Rattle.qs_node_kept.specs.declared.kept.KeptLabel.{KeptLabel}
use Rattle.qs_node_servers.specs.Servers.{server_at, is_client}
use Rattle.qs_node_step.specs.State.{NodeValue, Work, here, part_of, with_manager, with_queues, with_kept, with_doings, change_server}
use Rattle.qs_node_step.specs.Bringing.{member_here, enter, send}
use Rattle.qs_node_step.specs.Requests.{enqueue, reply_came}

-- ---- engagement on request

abbrev pub label_at : List ℕ → NodeValue → Option KeptLabel
label_at label node = find (has_label label) node.kept.now.labels

-- the label is the last of those that the node has met
abbrev pub put_label : KeptLabel → Work → Work
put_label begun work = with_kept (λ kept. record kept { labels = kept.labels ++ begun ∷ [] }) work

-- a node learns the label of a transaction from its requests
abbrev pub learn_label : List ℕ → Tid → Work → Work
learn_label label tid work =
    if is_none (label_at label work.node) then put_label (record { label = label; tid = Some tid; owner = None }) work else work

-- elsewhere than at the home a request makes the transaction known
abbrev pub met : Tid → Work → Work
met tid work = if same_node tid.home (here work) then work else with_manager (tm.meet tid) work

-- to another than the superior `Covered` goes at once
abbrev pub cover_from : Engaged → Tid → NodeNo → ℕ → Work → Work
cover_from engagements.Superior tid peer number work = work
cover_from engagements.Elsewhere tid peer number work = send peer (messages.Covered tid number) work

-- the home is engaged from the beginning; elsewhere the sender is, becomes or is not the superior
-- Event: Engage without a superior, Join from the superior, Cover from another and at the home; where the request is
-- dropped, Drop_engage, Drop_join, Drop_cover.
abbrev pub engage : Tid → NodeNo → ℕ → Work → Work
engage tid peer number work =
    cover_from (tm.engaged_at tid peer (met tid work).node.manager) tid peer number
    (with_manager (tm.requested tid peer number) (met tid work))

-- a home serves no request of a transaction that it decided or does not know, another node none of one that it knows aborted
abbrev pub is_dropped : Bool → Option Participant → Bool
is_dropped is_home None = is_home
is_dropped is_home (Some part) = if is_home then is_some part.outcome else is_abort part.outcome

abbrev pub take_in : Bool → Member → Delivery → Work → Work
take_in true member delivery work = work
take_in false member delivery work = enqueue member.server delivery work

abbrev pub request_came : NodeNo → Tid → List ℕ → Member → ℕ → Op → Work → Work
request_came peer tid label member number op work =
    take_in (is_dropped (same_node tid.home (here work)) (part_of tid work)) member
    (record { tid = tid; from = peer; number = number; op = op; stale = false })
    (engage tid peer number (learn_label label tid work))

-- ---- serving

-- the reply of a server, or of a client that takes a loan; none to an operation that is not one of its own, which never waits
abbrev pub reply_here : ServerNo → Tid → Op → NodeValue → Option Reply
reply_here server tid op node =
    if not (is_for server op) then None
    else if is_client server then Some replies.Done
    else reply_of (server_at node.servers server) tid op

abbrev pub change_served : ServerNo → Tid → Op → Reply → Work → Work
change_served server tid op reply work =
    if is_client server then work else change_server server (λ value. after_serving value tid op reply) work

-- the request counts as served, and its entry stands
abbrev pub enter_serve : ServerNo → Delivery → Reply → Work → Work
enter_serve server delivery reply work =
    enter (acts.Serve delivery.tid (member_here work server) delivery.from delivery.number reply)
    (with_manager (tm.served delivery.tid server)
    (with_doings delivery.tid (λ doings. record doings { served = true })
    (change_served server delivery.tid delivery.op reply work)))

-- the client that an operation lends to
abbrev pub lent_to : Op → Option ClientNo
lent_to (Lend client) = Some client
lent_to op = None

-- a loan is made where a client was asked to take it
abbrev pub make_loan : Tid → Option ClientNo → Work → Work
make_loan tid None work = work
make_loan tid (Some client) work =
    enter (acts.Loan tid client)
    (with_kept (λ kept. record kept {
      loans = kept.loans ++ record { tid = tid; client = client; inc = work.node.setting.inc; taken = false; yielded = false } ∷ [];
    }) work)

-- the reply goes where the request came from; to an incarnation that is known to be dead nothing goes
abbrev pub give_reply : Member → Delivery → Reply → Work → Work
give_reply member delivery reply work =
    if same_node delivery.from (here work) then reply_came delivery.tid member delivery.number reply work
    else if delivery.stale then work
    else send delivery.from (messages.Answered delivery.tid member delivery.number reply) work

-- a member serves a request: its entry, its loan, and its reply
-- Event: Serve; Serve_told by a member that is told without a vote; Lend by a client.
abbrev pub serve : ServerNo → Delivery → Reply → Work → Work
serve server delivery reply work =
    give_reply (member_here work server) delivery reply
    (make_loan delivery.tid (lent_to delivery.op) (enter_serve server delivery reply work))

-- its outcome is not known here
abbrev pub may_serve : Tid → Work → Bool
may_serve tid work = tm.told_of tid false is_undecided work.node.manager

-- a request of a transaction that is unknown here, or whose outcome is known, is dropped
abbrev pub serve_or_drop : ServerNo → Delivery → Work → Work
serve_or_drop server delivery work =
    if may_serve delivery.tid work
    then elim (reply_here server delivery.tid delivery.op work.node) [ None ↦ work | Some reply ↦ serve server delivery reply work ]
    else work

-- the request that waits first at the server leaves its queue, and then is served
abbrev pub serve_next : Work → ServerNo → Work
serve_next work server = elim (ipc.next server work.node.queues) [
  | None ↦ work
  | Some delivery ↦ serve_or_drop server delivery (with_queues (ipc.after_next server) work)
]

-- all that waits is served
abbrev pub serve_all : Work → Work
serve_all work = fold serve_next work (ipc.turns work.node.queues)
