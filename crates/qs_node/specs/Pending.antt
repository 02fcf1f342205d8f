-- What is pending at a node's servers.
use Rattle.std.specs.Prelude.{Bool, ◌||◌}
use Rattle.std.specs.List.{list_any}
use Rattle.qs_base.specs.declared.identifiers.ServerNo.{ServerNo}
use Rattle.qs_ops.specs.Server.{holds_some}
use Rattle.qs_node_servers.specs.Servers.{server_at}
use Rattle.qs_node_step.specs.State.{NodeValue}
use Rattle.qs_tm.specs.Manager as tm
use Rattle.qs_tm.specs.Members.{all_servers}

-- a server holds changes or reads of a transaction
abbrev pub has_holders : NodeValue → Bool
has_holders node = list_any (λ (server : ServerNo). holds_some (server_at node.servers server)) all_servers

-- or is still to learn an outcome
abbrev pub is_pending : NodeValue → Bool
is_pending node = has_holders node || tm.has_learners node.manager
