-- What a node keeps, and what a step of it works on.
use Rattle.std.specs.Prelude.{ℕ, false, List, [], Option, unwrap_or, Bool}
use Rattle.std.specs.Map.{lookup}
use Rattle.std.specs.BTreeMap.{insert_entry, is_at}
use Rattle.std.specs.Ordering.{nat_cmp}
use Rattle.std.specs.declared.cmp.Ordering.{Ordering}
use Rattle.qs_base.specs.Order.{tid_cmp}
use Rattle.qs_base.specs.declared.identifiers.ClientNo.{ClientNo}
use Rattle.qs_base.specs.declared.identifiers.NodeNo.{NodeNo}
use Rattle.qs_base.specs.declared.identifiers.ServerNo.{ServerNo}
use Rattle.qs_base.specs.declared.identifiers.Tid.{Tid}
use Rattle.qs_ops.specs.Server.{ServerValue}
use Rattle.qs_ipc.specs.Ipc.{IpcValue}
use Rattle.qs_node_kept.specs.Keeping.{KeepingValue, with_now}
use Rattle.qs_node_kept.specs.declared.kept.Kept.{Kept}
use Rattle.qs_tm.specs.Manager as tm
use Rattle.qs_tm.specs.declared.manager.Manager.{Manager}
use Rattle.qs_tm.specs.declared.participant.Participant.{Participant}
use Rattle.qs_node_step.specs.declared.event.Effects.{Effects}
use Rattle.qs_node_step.specs.declared.node.NodeState.{NodeState}
use Rattle.qs_node_step.specs.declared.node.Work as node_work
use Rattle.qs_node_step.specs.declared.setting.Setting.{Setting}
use Rattle.qs_node_step.specs.declared.state.Doings.{Doings}
use Rattle.qs_node_step.specs.declared.state.OpenCommand.{OpenCommand}
use Rattle.qs_node_servers.specs.Servers.{ServersValue, with_server}

-- a node, seen with the values of its servers
abbrev pub NodeValue : Type 0
NodeValue = NodeState ServersValue

abbrev pub Work : Type 0
Work = node_work.Work ServersValue

abbrev pub no_effects : Effects
no_effects = record { records = []; force = false; messages = []; answers = []; entries = [] }

-- a step begins with so many bytes free in the log, and nothing done
abbrev pub work_on : NodeValue → ℕ → Work
work_on node free = record { node = node; room = free; doings = []; out = no_effects }

-- ---- its parts

-- the node itself
abbrev pub here : Work → NodeNo
here work = work.node.setting.node

-- what is kept of a transaction; none where it is unknown
abbrev pub part_of : Tid → Work → Option Participant
part_of tid work = tm.part_of tid work.node.manager

abbrev pub with_node : (NodeValue → NodeValue) → Work → Work
with_node f work = record work { node = f work.node }

abbrev pub with_manager : (Manager → Manager) → Work → Work
with_manager f work = with_node (λ node. record node { manager = f node.manager }) work

abbrev pub with_queues : (IpcValue → IpcValue) → Work → Work
with_queues f work = with_node (λ node. record node { queues = f node.queues }) work

abbrev pub with_kept : (Kept → Kept) → Work → Work
with_kept f work = with_node (λ node. record node { kept = with_now f node.kept }) work

abbrev pub change_server : ServerNo → (ServerValue → ServerValue) → Work → Work
change_server server f work = with_node (λ node. record node { servers = with_server server f node.servers }) work

-- ---- what the step did

abbrev pub no_doings : Doings
no_doings = record { asked = false; served = false; voted = false; yielded = false; prepared = false }

abbrev pub doings_of : Tid → Work → Doings
doings_of tid work = unwrap_or (lookup (is_at (tid_cmp tid)) work.doings) no_doings

abbrev pub with_doings : Tid → (Doings → Doings) → Work → Work
with_doings tid f work = record work { doings = insert_entry tid_cmp work.doings tid (f (doings_of tid work)) }

abbrev pub client_cmp : ClientNo → ClientNo → Ordering
client_cmp c d = nat_cmp c.0 d.0
