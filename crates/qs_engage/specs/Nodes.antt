-- Sets of nodes, as which of the nodes 0 to 15 they have. A node that no run has is in none.
use Rattle.std.specs.Prelude.{ℕ, Bool, true, false, not, ◌&&◌, ◌||◌, ◌==◌, List, [], ◌∷◌, ◌++◌, if◌then◌else◌, fold, slice_index_or, slice_set}
use Rattle.std.specs.List.{list_any}
use Rattle.qs_base.specs.declared.identifiers.NodeNo.{NodeNo}
use Rattle.qs_engage.specs.declared.nodes.Nodes.{Nodes}

abbrev pub no_nodes : Nodes
no_nodes = record { has = false ∷ false ∷ false ∷ false ∷ false ∷ false ∷ false ∷ false ∷ false ∷ false ∷ false ∷ false ∷ false ∷ false ∷ false ∷ false ∷ [] }

abbrev pub node : ℕ → NodeNo
node n = record { 0 = n }

-- all that a run may have
unfoldable pub all_nodes : List NodeNo
all_nodes = node 0 ∷ node 1 ∷ node 2 ∷ node 3 ∷ node 4 ∷ node 5 ∷ node 6 ∷ node 7 ∷ node 8 ∷ node 9 ∷ node 10 ∷ node 11 ∷ node 12 ∷ node 13 ∷ node 14 ∷ node 15 ∷ []

abbrev pub same_node : NodeNo → NodeNo → Bool
same_node m n = m.0 == n.0

abbrev pub has_node : Nodes → NodeNo → Bool
has_node nodes node = slice_index_or nodes.has node.0 false

abbrev pub put_node : Nodes → NodeNo → Nodes
put_node nodes node = record nodes { has = slice_set nodes.has node.0 true }

abbrev pub drop_node : Nodes → NodeNo → Nodes
drop_node nodes node = record nodes { has = slice_set nodes.has node.0 false }

abbrev pub is_no_node : Nodes → Bool
is_no_node nodes = not (list_any (has_node nodes) all_nodes)

-- those of the list too
abbrev pub joined : Nodes → List NodeNo → Nodes
joined nodes more = fold put_node nodes more

-- a node is in the set from now on, where the test passes
abbrev pub put_where : (NodeNo → Bool) → Nodes → NodeNo → Nodes
put_where test nodes node = if test node then put_node nodes node else nodes

-- the nodes that pass a test
abbrev pub nodes_where : (NodeNo → Bool) → Nodes
nodes_where test = fold (put_where test) no_nodes all_nodes

-- those of both
abbrev pub union : Nodes → Nodes → Nodes
union nodes more = nodes_where (λ node. has_node nodes node || has_node more node)

-- those of the first that the second lacks
abbrev pub without : Nodes → Nodes → Nodes
without nodes other = nodes_where (λ node. has_node nodes node && not (has_node other node))

-- the first has all of the second
abbrev pub has_all : Nodes → Nodes → Bool
has_all nodes other = is_no_node (without other nodes)

abbrev pub with_listed : Nodes → List NodeNo → NodeNo → List NodeNo
with_listed nodes list node = if has_node nodes node then list ++ node ∷ [] else list

-- its nodes in order
abbrev pub listed : Nodes → List NodeNo
listed nodes = fold (with_listed nodes) [] all_nodes
