-- What the machine and the servers of a node hold alike, as tests: a twin of each conjunct.
use Rattle.std.specs.Prelude.{ℕ, ◌==◌, Bool, true, false, not, ◌&&◌, ◌||◌, List, [], ◌∷◌, length, map, Some, None, nat_le, if◌then◌else◌}
use Rattle.std.specs.Cmp.Lexicographic.{pointwise}
use Rattle.std.specs.List.{list_all, filter}
use Rattle.std.specs.Ordering.{is_lt}
use Rattle.qs_base.specs.Order.{tid_cmp, same_bytes, same_tid}
use Rattle.qs_base.specs.declared.identifiers.NodeNo.{NodeNo}
use Rattle.qs_base.specs.declared.identifiers.ServerNo.{ServerNo}
use Rattle.qs_base.specs.declared.identifiers.Tid.{Tid}
use Rattle.qs_ipc.specs.Queue.{QueueValue, is_for}
use Rattle.qs_ipc.specs.declared.delivery.Delivery.{Delivery}
use Rattle.qs_book_machine.specs.Book.{BookValue, find_transaction}
use Rattle.qs_book_machine.specs.Nodes as machine
use Rattle.qs_book_machine.specs.Transaction.{TransactionValue, is_commit, is_crossed, is_empty, is_standing, part_of, requests_at}
use Rattle.qs_book_machine.specs.declared.transaction.Request.{Request}
use Rattle.qs_book_machine.specs.declared.transaction.RequestNo.{RequestNo}
use Rattle.qs_ops.specs.Server.{ServerValue, number_of}
use Rattle.qs_ops.specs.Servers.{files_no, audit_no, names_no, timers_no, windows_no, scratch_no, extra_no}
use Rattle.qs_ops.specs.Table.{TableValue, share_of}
use Rattle.qs_ops.specs.Timers.{TimersValue, TimerShareValue}
use Rattle.qs_ops.specs.declared.file.File.{File}
use Rattle.qs_ops.specs.declared.operation.Op.{Op}
use Rattle.qs_ops.specs.declared.operation.Op.TheVariants.{Put, Append, Get, Note, Bind, Timer, Window, Keep, Lend}
use Rattle.qs_ops.specs.declared.share.Share.{Share}
use Rattle.qs_node_servers.specs.Servers.{ServersValue}
use Rattle.qs_node_step.specs.State.{NodeValue}
use Rattle.qs_tm.specs.Members as rules
use Rattle.qs_book_machine.specs.Nodes.{bound_names}
use Rattle.qs_world_lawful.specs.Doubts.{doubted, has_name, is_bind}
use Rattle.qs_world_lawful.specs.Face.{at_server, waiting_at}
use Rattle.qs_world_lawful.specs.Tables.{is_seen, of_seen}
use Rattle.qs_world_lawful.specs.Waits.{waiting_ops, standing_ops, is_idle}

abbrev alike : Bool → Bool → Bool
alike true b = b
alike false b = not b

-- of those that the runs have; of others none is the same
abbrev pub same_op : Op → Op → Bool
same_op (Put name text) (Put n t) = same_bytes name n && same_bytes text t
same_op (Append name text) (Append n t) = same_bytes name n && same_bytes text t
same_op (Get name) (Get n) = same_bytes name n
same_op (Note text) (Note t) = same_bytes text t
same_op (Bind name text) (Bind n t) = same_bytes name n && same_bytes text t
same_op (Timer name ticks) (Timer n t) = same_bytes name n && (ticks == t)
same_op (Window name text) (Window n t) = same_bytes name n && same_bytes text t
same_op (Keep name text) (Keep n t) = same_bytes name n && same_bytes text t
same_op (Lend client) (Lend other) = client.0 == other.0
same_op op other = false

abbrev pub same_file : File → File → Bool
same_file f g = same_bytes f.name g.name && same_bytes f.content g.content

abbrev same_share : Tid × Share → Tid × Share → Bool
same_share a b =
    (same_tid a.0 b.0 && pointwise same_op a.1.changes b.1.changes)
    && (pointwise same_bytes a.1.reads b.1.reads && ((a.1.operations == b.1.operations) && alike a.1.voted b.1.voted))

abbrev same_timers : Tid × TimerShareValue → Tid × TimerShareValue → Bool
same_timers a b =
    same_tid a.0 b.0
    && ((a.1.operations == b.1.operations) && pointwise (λ (t u : List ℕ × ℕ). same_bytes t.0 u.0 && (t.1 == u.1)) a.1.timers b.1.timers)

abbrev rises : {S : Type 0} → List (Tid × S) → Bool
rises [] = true
rises (e ∷ []) = true
rises (e ∷ f ∷ es) = is_lt (tid_cmp e.0 f.0) && rises (f ∷ es)

abbrev table_ok : (Tid → Bool) → TableValue → TableValue → Bool
table_ok seen kept held =
    (pointwise same_file kept.contents held.contents && pointwise same_bytes kept.notes held.notes)
    && (pointwise same_share kept.shares (filter (of_seen seen) held.shares) && rises held.shares)

abbrev timers_ok : (Tid → Bool) → TimersValue → TimersValue → Bool
timers_ok seen kept held = (kept.ticks == held.ticks) && (pointwise same_timers kept.shares (filter (of_seen seen) held.shares) && rises held.shares)

abbrev kind_ok : ℕ → ServerValue → Bool
kind_ok n server = number_of server.kind == n

abbrev kinds_ok : ServersValue → Bool
kinds_ok servers =
    (kind_ok files_no servers.files && (kind_ok audit_no servers.audit && kind_ok names_no servers.names))
    && ((kind_ok timers_no servers.timers && kind_ok windows_no servers.windows) && (kind_ok scratch_no servers.scratch && kind_ok extra_no servers.extra))

-- names hold binds alone, and what is hidden of them is in doubt
abbrev doubt_ok : BookValue → NodeNo → List (Tid × List (List ℕ)) → Tid × Share → Bool
doubt_ok book here doubts entry =
    list_all is_bind entry.1.changes
    && (is_seen book here names_no entry.0 || list_all (λ (name : List ℕ). has_name name (doubted doubts entry.0)) (bound_names entry.1.changes))

abbrev pub servers_ok : BookValue → NodeNo → machine.NodeValue → ServersValue → Bool
servers_ok book here state servers =
    (kinds_ok servers && table_ok (is_seen book here files_no) state.files servers.files.table)
    && ((table_ok (is_seen book here audit_no) state.audit servers.audit.table && table_ok (is_seen book here names_no) state.names servers.names.table)
    && ((timers_ok (is_seen book here timers_no) state.timers servers.timers.timers && table_ok (is_seen book here windows_no) state.windows servers.windows.table)
    && (table_ok (is_seen book here scratch_no) state.scratch servers.scratch.table && list_all (doubt_ok book here state.doubts) servers.names.table.shares)))

-- ---- what waits

abbrev is_within : List Op → List Op → Bool
is_within [] rs = true
is_within (d ∷ ds) [] = false
is_within (d ∷ ds) (r ∷ rs) = if same_op d r then is_within ds rs else is_within (d ∷ ds) rs

abbrev within_ok : NodeValue → Tid → TransactionValue → ServerNo → Delivery → Bool
within_ok node tid tx server delivery = is_within (waiting_ops at (waiting_at node tid server)) (standing_ops tx at node.setting.node server)
  where
    at : RequestNo
    at = record { link = record { from = delivery.from; to = node.setting.node }; number = delivery.number }

abbrev queue_ok : NodeValue → Tid → TransactionValue → ServerNo × QueueValue → Bool
queue_ok node tid tx queue = list_all (within_ok node tid tx queue.0) (waiting_at node tid queue.0)

abbrev members : List ServerNo
members = map (λ (n : ℕ). record { 0 = n }) (0 ∷ 1 ∷ 2 ∷ 3 ∷ 4 ∷ 5 ∷ 6 ∷ 32 ∷ 33 ∷ 34 ∷ [])

abbrev once_at : NodeValue → TransactionValue → RequestNo → ServerNo → Bool
once_at node tx at server = is_crossed tx (at_server node.setting.node server) || nat_le (length (filter (is_standing (at_server node.setting.node server)) (requests_at tx at))) 1

abbrev once_ok : NodeValue → TransactionValue → RequestNo × List Request → Bool
once_ok node tx entry = list_all (once_at node tx entry.0) members

-- each that stands is for its member
abbrev fits_at : NodeValue → TransactionValue → RequestNo → ServerNo → Bool
fits_at node tx at server = list_all (is_for server) (standing_ops tx at node.setting.node server)

abbrev fits_ok : NodeValue → TransactionValue → RequestNo × List Request → Bool
fits_ok node tx entry = list_all (fits_at node tx entry.0) members

abbrev pub waits_ok : NodeValue → Tid × TransactionValue → Bool
waits_ok node entry =
    ((not (is_commit entry.1.cell) || is_empty entry.1.crossed)
    && (is_idle (share_of node.servers.files.table entry.0) || (part_of entry.1 (at_server node.setting.node rules.files_no) node.setting.inc).due))
    && (list_all (queue_ok node entry.0 entry.1) node.queues && (list_all (once_ok node entry.1) entry.1.requests && list_all (fits_ok node entry.1) entry.1.requests))

abbrev pub idle_ok : BookValue → Tid × Share → Bool
idle_ok book entry = elim (find_transaction book entry.0) [ None ↦ is_idle entry.1 | Some tx ↦ true ]
