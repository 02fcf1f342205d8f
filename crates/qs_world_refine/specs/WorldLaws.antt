-- What the agreement machine gives of the nodes of a world in which each transaction that has begun is shown: they agree, and their logs stand together.
use Rattle.std.specs.Prelude.{◌≡◌, ◌≢◌, ℕ, ◌<◌, true, None, Some}
use Rattle.std.specs.List.{list_any}
use Rattle.qs_base.specs.Order.{same_tid}
use Rattle.qs_base.specs.declared.identifiers.Outcome.{Outcome}
use Rattle.qs_base.specs.declared.identifiers.Outcome.TheVariants as outcomes
use Rattle.qs_base.specs.declared.identifiers.Tid.{Tid}
use Rattle.qs_restart.specs.Recovery.{recovery, names_transaction, is_untold_of}
use Rattle.qs_tm.specs.Manager as tm
use Rattle.qs_tm.specs.declared.participant.Participant.{Participant}
use Rattle.qs_world.specs.World.{World}
use Rattle.qs_world_refine.specs.Links.{names_node, node_no}
use Rattle.qs_world_refine.specs.ShownWorlds.{IsShownWorld}
use Rattle.qs_world_refine.specs.Sights.{list_of}
use Rattle.qs_world_refine.specs.Sound.{has_doubt}

-- a node that runs knows what was decided of the transaction
pub record Knows (tid : Tid) (world : World) (n : ℕ) (outcome : Outcome) : Type 0 where
  pub part : Participant
  pub in_run : n < world.size
  pub runs : world.channels.up n ≡ true
  pub known : tm.part_of tid (world.hosts n).node.manager ≡ Some part
  pub decided : part.outcome ≡ Some outcome

-- nobody knows a commit where another knows an abort
abbrev pub NodesAgree : Type 0
NodesAgree = (tid : Tid) (world : World) (n m : ℕ) → IsShownWorld world → tid.home.0 < world.size → Knows tid world n outcomes.Commit → Knows tid world m outcomes.Abort → ⊥

-- nobody is forgotten: where the home's log has the Commit, each other node whose log has a vote in doubt is named by it, and it has no End
abbrev pub LogsStand : Type 0
LogsStand = (tid : Tid) (world : World) (n : ℕ) → IsShownWorld world → names_transaction tid ≡ true → tid.home.0 < world.size → n < world.size → n ≢ tid.home.0
    → list_any (same_tid tid) (recovery (world.hosts tid.home.0).log).committed ≡ true → has_doubt tid (recovery (world.hosts n).log) ≡ true
    → (list_any (is_untold_of tid) (recovery (world.hosts tid.home.0).log).untold ≡ true) × (names_node (list_of tid (recovery (world.hosts tid.home.0).log)) (node_no n) ≡ true)

-- a node that runs and is to learn the outcome: it has not decided, and is involved
pub record IsToLearn (tid : Tid) (world : World) (n : ℕ) : Type 0 where
  pub part : Participant
  pub in_run : n < world.size
  pub runs : world.channels.up n ≡ true
  pub known : tm.part_of tid (world.hosts n).node.manager ≡ Some part
  pub undecided : part.outcome ≡ None
  pub involved : part.involved ≡ true

-- nor is such a node
abbrev pub LearnersStand : Type 0
LearnersStand = (tid : Tid) (world : World) (n : ℕ) → IsShownWorld world → tid.home.0 < world.size → n ≢ tid.home.0
    → list_any (same_tid tid) (recovery (world.hosts tid.home.0).log).committed ≡ true → IsToLearn tid world n
    → (list_any (is_untold_of tid) (recovery (world.hosts tid.home.0).log).untold ≡ true) × (names_node (list_of tid (recovery (world.hosts tid.home.0).log)) (node_no n) ≡ true)
