-- The number of a node's next request.
use Rattle.std.specs.Prelude.{ℕ, ◌+◌, if◌then◌else◌}
use Rattle.qs_base.specs.declared.identifiers.NodeNo.{NodeNo}
use Rattle.qs_base.specs.declared.identifiers.Tid.{Tid}
use Rattle.qs_engage.specs.Engage.{peer_of}
use Rattle.qs_engage.specs.Nodes.{same_node}
use Rattle.qs_node_step.specs.Requests.{local_count}
use Rattle.qs_node_step.specs.State.{NodeValue}
use Rattle.qs_world_lawful.specs.Face.{face_of, part_in}

-- of a transaction to that node
abbrev pub next_to : NodeValue → Tid → NodeNo → ℕ
next_to node tid to =
    if same_node to node.setting.node then local_count tid node + 1 else (peer_of (part_in (face_of node tid)).engage to).sent + 1
