-- Requests: how they are issued, wait at a server, and are replied to.
use Rattle.std.specs.Prelude.{ℕ, ◌+◌, ◌==◌, Bool, true, false, ◌&&◌, List, [], Option, Some, None, unwrap_or, if◌then◌else◌}
use Rattle.std.specs.List.{find}
use Rattle.std.specs.Map.{lookup}
use Rattle.std.specs.BTreeMap.{insert_entry, is_at}
use Rattle.qs_base.specs.Order.{tid_cmp, same_tid, same_member}
use Rattle.qs_base.specs.declared.identifiers.ClientNo.{ClientNo}
use Rattle.qs_base.specs.declared.identifiers.Member.{Member}
use Rattle.qs_base.specs.declared.identifiers.NodeNo.{NodeNo}
use Rattle.qs_base.specs.declared.identifiers.ServerNo.{ServerNo}
use Rattle.qs_base.specs.declared.identifiers.Tid.{Tid}
use Rattle.qs_engage.specs.Engage.{last_number}
use Rattle.qs_engage.specs.Nodes.{same_node}
use Rattle.qs_ipc.specs.Ipc as ipc
use Rattle.qs_ipc.specs.Queue.{is_for}
use Rattle.qs_ipc.specs.declared.delivery.Delivery.{Delivery}
use Rattle.qs_ops.specs.Operations.{answer_of}
use Rattle.qs_ops.specs.declared.operation.Op.{Op}
use Rattle.qs_ops.specs.declared.reply.Reply.{Reply}
use Rattle.qs_book_journal.specs.declared.entry.Act.TheVariants as acts
use Rattle.qs_packet.specs.declared.message.Message.TheVariants as messages
use Rattle.qs_tm.specs.Manager as tm
use Rattle.qs_tm.specs.Participant.{waiting_for, is_by_files}
use Rattle.qs_tm.specs.declared.participant.Outstanding.{Outstanding}
use Rattle.qs_node_kept.specs.Keeping.{is_label_of}
use Rattle.qs_node_kept.specs.declared.kept.KeptLabel.{KeptLabel}
use Rattle.qs_node_step.specs.declared.state.Issued.{Issued}
use Rattle.qs_node_step.specs.declared.state.OpenCommand.{OpenCommand}
use Rattle.qs_node_servers.specs.Servers.{client_of}
use Rattle.qs_node_step.specs.State.{NodeValue, Work, here, with_node, with_manager, with_queues, client_cmp}
use Rattle.qs_node_step.specs.Bringing.{member_here, enter, send, answer}

-- ---- waiting at a server: an operation that is not one of its own is refused

abbrev pub enqueue : ServerNo → Delivery → Work → Work
enqueue server delivery work = if is_for server delivery.op then with_queues (ipc.enqueue server delivery) work else work

-- ---- numbers

-- how many requests of the transaction went to servers of this node; that goes on where it is forgotten
abbrev pub local_count : Tid → NodeValue → ℕ
local_count tid node = unwrap_or (lookup (is_at (tid_cmp tid)) node.locals) 0

abbrev pub next_local : Tid → NodeValue → Option ℕ
next_local tid node = if local_count tid node == last_number then None else Some (local_count tid node + 1)

-- the number of the next request of the transaction to that node; none where the last was given
abbrev pub next_number : Tid → NodeNo → Work → Option ℕ
next_number tid to work = if same_node to (here work) then next_local tid work.node else tm.sent_as tid to work.node.manager

-- ---- issuing

-- it waits for its reply
abbrev pub enter_issue : Tid → Outstanding → Op → Work → Work
enter_issue tid request op work =
    with_manager (tm.issued tid request) (enter (acts.Issue tid (member_here work request.issuer) request.member request.number op) work)

abbrev pub with_local : Tid → ℕ → Work → Work
with_local tid number work = with_node (λ node. record node { locals = insert_entry tid_cmp node.locals tid number }) work

-- to a server of this node
-- Event: Issue_local.
abbrev pub issue_here : Tid → Outstanding → Op → Work → Work
issue_here tid request op work =
    enqueue request.member.server (record { tid = tid; from = here work; number = request.number; op = op; stale = false })
    (with_local tid request.number (enter_issue tid request op work))

abbrev pub label_in : Option KeptLabel → List ℕ
label_in None = []
label_in (Some begun) = begun.label

-- the label of a transaction that the node has met
abbrev pub label_of : Tid → NodeValue → List ℕ
label_of tid node = label_in (find (is_label_of tid) node.kept.now.labels)

abbrev pub is_asked : Tid → Work → Bool
is_asked tid work = tm.told_of tid false (λ part. part.asked) work.node.manager

-- whoever was asked asks on
abbrev pub ask_on : Bool → Tid → NodeNo → Work → Work
ask_on false tid to work = work
ask_on true tid to work = send to (messages.AskVote tid) work

-- to another node
-- Event: Issue, or Issue_unmet where no incarnation of that node is known.
abbrev pub issue_away : Tid → Outstanding → Op → Work → Work
issue_away tid request op work =
    ask_on (is_asked tid work) tid request.member.node
    (send request.member.node (messages.Request tid (label_of tid work.node) request.member request.number request.issuer op)
    (with_manager (tm.sent tid request.member.node) (enter_issue tid request op work)))

abbrev pub issue_as : Tid → Outstanding → Op → Work → Work
issue_as tid request op work =
    if same_node request.member.node (here work) then issue_here tid request op work else issue_away tid request op work

-- a request goes to a member; `count` is that of the changes in a note of files, else 0
abbrev pub issue : Tid → ServerNo → Member → Op → ℕ → Work → Work
issue tid issuer member op count work = elim (next_number tid member.node work) [
  | None ↦ work
  | Some number ↦ issue_as tid (record { issuer = issuer; member = member; number = number; count = count }) op work
]

-- ---- replies

abbrev pub is_issued_as : Tid → Member → ℕ → Issued → Bool
is_issued_as tid member number issued = same_tid issued.tid tid && (same_member issued.member member && (issued.number == number))

abbrev pub waits_as : Tid → Member → ℕ → Option OpenCommand → Bool
waits_as tid member number None = false
waits_as tid member number (Some command) = elim command.issued [ None ↦ false | Some issued ↦ is_issued_as tid member number issued ]

-- the client that issued the request is answered, if it waits for just this one
abbrev pub answer_issuer : Tid → Member → ℕ → Reply → ClientNo → Work → Work
answer_issuer tid member number reply client work =
    if waits_as tid member number (lookup (is_at (client_cmp client)) work.node.commands) then answer client (answer_of reply) work else work

-- a note of files counts as served with its reply
abbrev pub take_reply : Tid → Reply → Outstanding → Work → Work
take_reply tid reply request work =
    if is_by_files request then with_manager (tm.note_served tid request.count) work
    else answer_issuer tid request.member request.number reply (client_of request.issuer) work

-- the request that a reply with this member and number is for
abbrev pub waiting_at : Tid → Member → ℕ → Work → Option Outstanding
waiting_at tid member number work = tm.told_of tid None (waiting_for member number) work.node.manager

-- a reply counts where a request waits for it; no event
abbrev pub reply_came : Tid → Member → ℕ → Reply → Work → Work
reply_came tid member number reply work = elim (waiting_at tid member number work) [
  | None ↦ work
  | Some request ↦ take_reply tid reply request (with_manager (tm.drop_waiting tid member number) work)
]
