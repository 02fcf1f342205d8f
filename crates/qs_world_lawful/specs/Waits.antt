-- What a node holds of a transaction at its servers, and what the machine has of it: what waits stands there, in the same order, once
-- where it is not crossed; and it is told how it ends.
use Rattle.std.specs.Prelude.{◌≡◌, ◌⊎◌, ◌≤◌, ℕ, Bool, true, false, ◌&&◌, List, [], ◌∷◌, length, map, Option, Some, None, ⊤}
use Rattle.std.specs.List.{filter}
use Rattle.qs_base.specs.declared.identifiers.NodeNo.{NodeNo}
use Rattle.qs_base.specs.declared.identifiers.ServerNo.{ServerNo}
use Rattle.qs_base.specs.declared.identifiers.Tid.{Tid}
use Rattle.qs_ipc.specs.Queue.{is_for}
use Rattle.qs_ipc.specs.declared.delivery.Delivery.{Delivery}
use Rattle.qs_book_machine.specs.Transaction.{TransactionValue, is_commit, is_crossed, is_empty, is_standing, part_of, requests_at}
use Rattle.qs_book_machine.specs.declared.transaction.Request.{Request}
use Rattle.qs_book_machine.specs.declared.transaction.RequestNo.{RequestNo}
use Rattle.qs_ops.specs.Table.{share_of}
use Rattle.qs_ops.specs.declared.operation.Op.{Op}
use Rattle.qs_ops.specs.declared.share.Share.{Share}
use Rattle.qs_node_servers.specs.Servers.{ServersValue}
use Rattle.qs_tm.specs.Members as rules
use Rattle.qs_world_lawful.specs.Face.{at_server, is_numbered}

-- each item stands in the other list, in the same order
abbrev pub IsWithin : List Op → List Op → Type 0
IsWithin [] rs = ⊤
IsWithin (d ∷ ds) [] = ⊥
IsWithin (d ∷ ds) (r ∷ rs) = ((d ≡ r) × IsWithin ds rs) ⊎ IsWithin (d ∷ ds) rs

abbrev pub op_of : Delivery → Op
op_of delivery = delivery.op

abbrev pub op_in : Request → Op
op_in request = request.op

-- the operations under a number that wait, and those that stand at a member
abbrev pub waiting_ops : RequestNo → List Delivery → List Op
waiting_ops at waiting = map op_of (filter (is_numbered at) waiting)

abbrev pub standing_ops : TransactionValue → RequestNo → NodeNo → ServerNo → List Op
standing_ops tx at here server = map op_in (filter (is_standing (at_server here server)) (requests_at tx at))

-- each is an operation of that server's
abbrev pub AreFor : ServerNo → List Op → Type 0
AreFor server [] = ⊤
AreFor server (op ∷ ops) = (is_for server op ≡ true) × AreFor server ops

-- it keeps no name back
abbrev pub is_idle : Share → Bool
is_idle share = is_empty share.changes && is_empty share.reads

pub record HoldsWaits (here : NodeNo) (inc : ℕ) (tid : Tid) (tx : TransactionValue) (waiting : ServerNo → List Delivery) (servers : ServersValue) : Type 0 where
  pub whole : is_commit tx.cell ≡ true → is_empty tx.crossed ≡ true
  pub due : is_idle (share_of servers.files.table tid) ≡ false → (part_of tx (at_server here rules.files_no) inc).due ≡ true  -- clause 31
  pub within : (server : ServerNo) (at : RequestNo) → at.link.to ≡ here → IsWithin (waiting_ops at (waiting server)) (standing_ops tx at here server)  -- clauses 30, 31
  pub once : (server : ServerNo) (at : RequestNo) → is_crossed tx (at_server here server) ≡ false → length (filter (is_standing (at_server here server)) (requests_at tx at)) ≤ 1
  pub fits : (server : ServerNo) (at : RequestNo) → at.link.to ≡ here → AreFor server (standing_ops tx at here server)  -- clause 20

-- of a transaction that the machine does not know nothing is kept back
abbrev pub HoldsWaitsAt : NodeNo → ℕ → Tid → Option TransactionValue → (ServerNo → List Delivery) → ServersValue → Type 0
HoldsWaitsAt here inc tid None waiting servers = is_idle (share_of servers.files.table tid) ≡ true
HoldsWaitsAt here inc tid (Some tx) waiting servers = HoldsWaits here inc tid tx waiting servers
