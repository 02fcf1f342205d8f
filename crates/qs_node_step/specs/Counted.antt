-- Whether what waits at a node's servers can be counted as it is served.
use Rattle.std.specs.Prelude.{ℕ, ◌+◌, Bool, true, Option, Some, None, nat_le}
use Rattle.std.specs.List.{list_all}
use Rattle.qs_base.specs.declared.identifiers.ServerNo.{ServerNo}
use Rattle.qs_engage.specs.Engage.{last_number}
use Rattle.qs_ipc.specs.Queue.{QueueValue, count_of}
use Rattle.qs_ipc.specs.declared.delivery.Delivery.{Delivery}
use Rattle.qs_node_step.specs.State.{NodeValue}
use Rattle.qs_tm.specs.Manager as tm
use Rattle.qs_tm.specs.Participant.{member_of}

-- a request that waits can be counted, and those of its transaction that wait beside it, behind those that the server served of it
abbrev pub is_counted : NodeValue → ServerNo × QueueValue → Delivery → Bool
is_counted node queue delivery = elim (tm.part_of delivery.tid node.manager) [
  | None ↦ true
  | Some part ↦ nat_le ((member_of part queue.0).served + count_of delivery.tid queue.1.waiting) last_number
]

abbrev pub are_counted : NodeValue → ServerNo × QueueValue → Bool
are_counted node queue = list_all (is_counted node queue) queue.1.waiting

-- all that waits
abbrev pub is_all_counted : NodeValue → Bool
is_all_counted node = list_all (are_counted node) node.queues
