-- Whom the Commit in its log names, a node that knows the commit is to tell: a node over what its log says.
use Rattle.std.specs.Prelude.{◌≡◌, ℕ, ◌<◌, Bool, true, false, List, [], fold, Option, Some, if◌then◌else◌}
use Rattle.qs_base.specs.declared.identifiers.NodeNo.{NodeNo}
use Rattle.qs_base.specs.declared.identifiers.Outcome.{Outcome}
use Rattle.qs_base.specs.declared.identifiers.Outcome.TheVariants as outcomes
use Rattle.qs_base.specs.declared.identifiers.Tid.{Tid}
use Rattle.qs_engage.specs.Nodes.{has_node, joined, no_nodes}
use Rattle.qs_engage.specs.declared.nodes.Nodes.{Nodes}
use Rattle.qs_restart.specs.Recovery.{Recovery, Untold, is_untold_of}
use Rattle.qs_node_step.specs.State.{NodeValue}
use Rattle.qs_tm.specs.Manager as tm
use Rattle.qs_tm.specs.declared.participant.Participant.{Participant}
use Rattle.qs_world_refine.specs.Links.{names_node, node_no}
use Rattle.qs_world_refine.specs.Sights.{list_of}

abbrev pub is_commit : Option Outcome → Bool
is_commit (Some outcomes.Commit) = true
is_commit _ = false

abbrev pub tell_of_part : Participant → Nodes
tell_of_part part = if is_commit part.outcome then part.tell else no_nodes

-- whom it is to tell a commit
abbrev pub tell_at : Tid → NodeValue → Nodes
tell_at tid node = tm.told_of tid no_nodes tell_of_part node.manager

-- of two Commits of a transaction a restart takes up the later one
abbrev pub later_list : Tid → List NodeNo → Untold → List NodeNo
later_list tid told commit = if is_untold_of tid commit then commit.told else told

abbrev pub last_list : Tid → Recovery → List NodeNo
last_list tid said = fold (later_list tid) [] said.untold

-- which names all that an earlier one did, nodes that a run may have
abbrev pub AreTaken : Recovery → Type 0
AreTaken said = (tid : Tid) (m : ℕ) → names_node (list_of tid said) (node_no m) ≡ true → has_node (joined no_nodes (last_list tid said)) (node_no m) ≡ true

pub record AreListed (node : NodeValue) (said : Recovery) : Type 0 where
  pub named : (tid : Tid) (m : ℕ) → m < 16 → names_node (list_of tid said) (node_no m) ≡ true → has_node (tell_at tid node) (node_no m) ≡ true
  pub taken : AreTaken said
