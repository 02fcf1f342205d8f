-- What waits at one server, first in, first out, and how many requests of each transaction it served.
use Rattle.std.specs.Prelude.{◌≡◌, ◌≤◌, ◌<◌, ℕ, ◌+◌, ◌-◌, ◌==◌, Bool, true, false, not, List, [], ◌∷◌, ◌++◌, length, map, drop, Option, Some, None, is_some, unwrap_or, nat_lt, if◌then◌else◌}
use Rattle.std.specs.List.{filter, list_any}
use Rattle.std.specs.Map.{lookup, set_value, remove_entry}
use Rattle.std.specs.BTreeMap.{insert_entry, is_at}
use Rattle.qs_base.specs.Order.{tid_cmp, same_tid}
use Rattle.qs_base.specs.declared.identifiers.NodeNo.{NodeNo}
use Rattle.qs_base.specs.declared.identifiers.ServerNo.{ServerNo}
use Rattle.qs_base.specs.declared.identifiers.Tid.{Tid}
use Rattle.qs_ops.specs.Operations.{server_of}
use Rattle.qs_ops.specs.declared.operation.Op.{Op}
use Rattle.qs_ipc.specs.declared.delivery.Delivery.{Delivery}
use Rattle.qs_ipc.specs.declared.queue.QueueCounts.{QueueCounts}

-- the operation is one of that server's
abbrev pub is_for : ServerNo → Op → Bool
is_for server op = elim (server_of op) [ None ↦ false | Some its ↦ its.0 == server.0 ]

pub record QueueValue : Type 0 where
  pub waiting : List Delivery  -- the requests that wait, the first to be served first
  pub counts : List (Tid × QueueCounts)  -- of each transaction of which a request came since it was forgotten

abbrev pub no_queue : QueueValue
no_queue = record { waiting = []; counts = [] }

abbrev pub no_counts : QueueCounts
no_counts = record { waiting = 0; served = 0 }

abbrev pub counts_at : List (Tid × QueueCounts) → Tid → QueueCounts
counts_at counts tid = unwrap_or (lookup (is_at (tid_cmp tid)) counts) no_counts

-- ---- what waits

abbrev pub is_of : Tid → Delivery → Bool
is_of tid delivery = same_tid tid delivery.tid

abbrev pub count_of : Tid → List Delivery → ℕ
count_of tid [] = 0
count_of tid (delivery ∷ rest) = if is_of tid delivery then count_of tid rest + 1 else count_of tid rest

-- a request of the transaction waits here
abbrev pub waits_at : Tid → QueueValue → Bool
waits_at tid queue = list_any (is_of tid) queue.waiting

abbrev pub has_some : QueueValue → Bool
has_some queue = not (length queue.waiting == 0)

-- the counts are those of what waits, and fit a number of 32 bits
pub record IsCounted (waiting : List Delivery) (counts : List (Tid × QueueCounts)) : Type 0 where
  pub waits : (tid : Tid) → (counts_at counts tid).waiting ≡ count_of tid waiting
  pub fits : (tid : Tid) → (counts_at counts tid).waiting + (counts_at counts tid).served ≤ 4294967295

-- no more requests of the transaction can be counted here
abbrev pub is_full_at : Tid → QueueValue → Bool
is_full_at tid queue = (count_of tid queue.waiting + (counts_at queue.counts tid).served) == 4294967295

-- ---- what calls do

abbrev pub waits_more : QueueCounts → QueueCounts
waits_more counts = record counts { waiting = counts.waiting + 1 }

-- the request waits behind all others
abbrev pub added : Delivery → QueueValue → QueueValue
added delivery queue = record {
  waiting = queue.waiting ++ delivery ∷ [];
  counts = insert_entry tid_cmp queue.counts delivery.tid (waits_more (counts_at queue.counts delivery.tid));
}

abbrev pub served_more : QueueCounts → QueueCounts
served_more counts = record { waiting = counts.waiting - 1; served = counts.served + 1 }

abbrev pub changed_entry : {K V : Type 0} → (K → Bool) → (V → V) → List (K × V) → List (K × V)
changed_entry test f entries = elim (lookup test entries) [ None ↦ entries | Some v ↦ set_value test entries (f v) ]

abbrev pub first_of : List Delivery → Option Delivery
first_of [] = None
first_of (delivery ∷ rest) = Some delivery

-- the request that waits first
abbrev pub first : QueueValue → Option Delivery
first queue = first_of queue.waiting

abbrev pub counts_after : List Delivery → List (Tid × QueueCounts) → List (Tid × QueueCounts)
counts_after [] counts = counts
counts_after (delivery ∷ rest) counts = changed_entry (is_at (tid_cmp delivery.tid)) served_more counts

-- it is served
abbrev pub after_first : QueueValue → QueueValue
after_first queue = record { waiting = drop 1 queue.waiting; counts = counts_after queue.waiting queue.counts }

-- nothing of the transaction was served here
abbrev pub forgotten : Tid → QueueValue → QueueValue
forgotten tid queue = record queue { counts = remove_entry (is_at (tid_cmp tid)) queue.counts }

-- ---- the node that asked restarted

-- a request of that node is of an incarnation that is known to be dead
abbrev pub mark_stale : NodeNo → Delivery → Delivery
mark_stale peer delivery = if delivery.from.0 == peer.0 then record delivery { stale = true } else delivery

-- so are those that wait
abbrev pub marked : NodeNo → QueueValue → QueueValue
marked peer queue = record queue { waiting = map (mark_stale peer) queue.waiting }
