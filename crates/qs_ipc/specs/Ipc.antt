-- The queues of a node's servers, in order of their numbers.
use Rattle.std.specs.Prelude.{ℕ, Bool, List, [], map, Option, None, Some, is_some, unwrap_or, nat_lt, if◌then◌else◌}
use Rattle.std.specs.List.{filter, list_any, flat_map}
use Rattle.std.specs.Map.{lookup, set_value}
use Rattle.std.specs.BTreeMap.{insert_entry, is_at}
use Rattle.std.specs.Ordering.{nat_cmp}
use Rattle.std.specs.declared.cmp.Ordering.{Ordering}
use Rattle.qs_base.specs.Order.{tid_cmp}
use Rattle.qs_base.specs.declared.identifiers.NodeNo.{NodeNo}
use Rattle.qs_base.specs.declared.identifiers.ServerNo.{ServerNo}
use Rattle.qs_base.specs.declared.identifiers.Tid.{Tid}
use Rattle.qs_ipc.specs.declared.delivery.Delivery.{Delivery}
use Rattle.qs_ipc.specs.Queue.{QueueValue, no_queue, counts_at, waits_at, has_some, is_full_at, added, first, after_first, forgotten, changed_entry, marked}

abbrev pub server_cmp : ServerNo → ServerNo → Ordering
server_cmp s t = nat_cmp s.0 t.0

abbrev pub IpcValue : Type 0
IpcValue = List (ServerNo × QueueValue)

abbrev pub queue_at : IpcValue → ServerNo → QueueValue
queue_at ipc server = unwrap_or (lookup (is_at (server_cmp server)) ipc) no_queue

-- ---- what is asked

-- no more requests of the transaction can be counted at the server
abbrev pub is_full : ServerNo → Tid → IpcValue → Bool
is_full server tid ipc = is_full_at tid (queue_at ipc server)

abbrev pub waits_in : Tid → ServerNo × QueueValue → Bool
waits_in tid entry = waits_at tid entry.1

-- a request of the transaction waits somewhere
abbrev pub waits : Tid → IpcValue → Bool
waits tid ipc = list_any (waits_in tid) ipc

abbrev pub queued_in : ServerNo × QueueValue → Bool
queued_in entry = has_some entry.1

-- some queue has an item
abbrev pub queued : IpcValue → Bool
queued ipc = list_any queued_in ipc

-- how many requests of the transaction the server has served since it was last forgotten
abbrev pub served : ServerNo → Tid → IpcValue → ℕ
served server tid ipc = (counts_at (queue_at ipc server).counts tid).served

abbrev pub has_in : Tid → ServerNo × QueueValue → Bool
has_in tid entry = is_some (lookup (is_at (tid_cmp tid)) entry.1.counts)

-- the servers that a request of the transaction has come to since it was last forgotten
abbrev pub members : Tid → IpcValue → List ServerNo
members tid ipc = map (λ (entry : ServerNo × QueueValue). entry.0) (filter (has_in tid) ipc)

abbrev pub turns_at : ServerNo × QueueValue → List ServerNo
turns_at queue = map (λ (delivery : Delivery). queue.0) queue.1.waiting

-- the servers in order, each as often as a request waits there
abbrev pub turns : IpcValue → List ServerNo
turns queues = flat_map turns_at queues

-- ---- what calls do

-- a request waits at the server
abbrev pub enqueue : ServerNo → Delivery → IpcValue → IpcValue
enqueue server delivery ipc = elim (lookup (is_at (server_cmp server)) ipc) [
  | None ↦ insert_entry server_cmp ipc server (added delivery no_queue)
  | Some queue ↦ set_value (is_at (server_cmp server)) ipc (added delivery queue)
]

-- the request that the server serves next
abbrev pub next : ServerNo → IpcValue → Option Delivery
next server ipc = first (queue_at ipc server)

abbrev pub after_next : ServerNo → IpcValue → IpcValue
after_next server ipc = changed_entry (is_at (server_cmp server)) after_first ipc

-- the server numbers
abbrev pub servers : ℕ
servers = 256

-- nothing of the transaction was served at the servers below one
abbrev pub forgotten_below : ℕ → Tid → ServerNo × QueueValue → ServerNo × QueueValue
forgotten_below server tid entry = if nat_lt entry.0.0 server then (entry.0, forgotten tid entry.1) else entry

-- nothing of the transaction was served
abbrev pub forget : Tid → IpcValue → IpcValue
forget tid ipc = map (forgotten_below servers tid) ipc

abbrev pub mark_queue : NodeNo → ServerNo × QueueValue → ServerNo × QueueValue
mark_queue peer entry = (entry.0, marked peer entry.1)

-- the requests of a node that restarted are served, and their replies go nowhere
abbrev pub mark_queues : NodeNo → IpcValue → IpcValue
mark_queues peer ipc = map (mark_queue peer) ipc
