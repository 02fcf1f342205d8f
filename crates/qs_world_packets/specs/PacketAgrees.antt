-- What holds of the nodes over every run of packets: they agree, and nobody is forgotten.
use Rattle.std.specs.Prelude.{◌≡◌, ◌≢◌, ℕ, ◌<◌, true, List, None, Some}
use Rattle.std.specs.List.{list_any}
use Rattle.qs_base.specs.Order.{same_tid}
use Rattle.qs_base.specs.declared.identifiers.Outcome.{Outcome}
use Rattle.qs_base.specs.declared.identifiers.Outcome.TheVariants as outcomes
use Rattle.qs_base.specs.declared.identifiers.Tid.{Tid}
use Rattle.qs_restart.specs.Recovery.{recovery, names_transaction, is_untold_of}
use Rattle.qs_tm.specs.Manager as tm
use Rattle.qs_tm.specs.declared.participant.Participant.{Participant}
use Rattle.qs_world.specs.Openings.{IsOpening}
use Rattle.qs_world.specs.World.{Opening}
use Rattle.qs_world_refine.specs.Links.{names_node, node_no}
use Rattle.qs_world_refine.specs.Sights.{list_of}
use Rattle.qs_world_refine.specs.Sound.{has_doubt}
use Rattle.qs_world_packets.specs.PacketMoves.{Move}
use Rattle.qs_world_packets.specs.PacketRuns.{Run}
use Rattle.qs_world_packets.specs.PacketWorld.{PacketWorld, start}

-- a world that some run of packets leads to
pub record IsReached (world : PacketWorld) : Type 0 where
  pub opening : Opening
  pub opens : IsOpening opening
  pub moves : List Move
  pub run : Run (start opening) moves world

-- a node that runs knows what was decided of the transaction
pub record Knows (tid : Tid) (world : PacketWorld) (n : ℕ) (outcome : Outcome) : Type 0 where
  pub part : Participant
  pub in_run : n < world.size
  pub runs : world.network.up n ≡ true
  pub known : tm.part_of tid (world.hosts n).node.manager ≡ Some part
  pub decided : part.outcome ≡ Some outcome

-- nobody knows a commit where another knows an abort
abbrev pub EachRunAgrees : Type 0
EachRunAgrees = (tid : Tid) (world : PacketWorld) (n m : ℕ) → IsReached world → tid.home.0 < world.size → Knows tid world n outcomes.Commit → Knows tid world m outcomes.Abort → ⊥

-- the home's log has the Commit without an End, and names the node
pub record IsStillTold (tid : Tid) (world : PacketWorld) (n : ℕ) : Type 0 where
  pub untold : list_any (is_untold_of tid) (recovery (world.hosts tid.home.0).log).untold ≡ true
  pub named : names_node (list_of tid (recovery (world.hosts tid.home.0).log)) (node_no n) ≡ true

-- nobody is forgotten: where the home's log has the Commit, each other node whose log has a vote in doubt is still to be told
abbrev pub EachRunTells : Type 0
EachRunTells = (tid : Tid) (world : PacketWorld) (n : ℕ) → IsReached world → names_transaction tid ≡ true → tid.home.0 < world.size → n < world.size → n ≢ tid.home.0
    → list_any (same_tid tid) (recovery (world.hosts tid.home.0).log).committed ≡ true → has_doubt tid (recovery (world.hosts n).log) ≡ true → IsStillTold tid world n

-- a node that runs and is to learn the outcome: it has not decided, and is involved
pub record IsToLearn (tid : Tid) (world : PacketWorld) (n : ℕ) : Type 0 where
  pub part : Participant
  pub in_run : n < world.size
  pub runs : world.network.up n ≡ true
  pub known : tm.part_of tid (world.hosts n).node.manager ≡ Some part
  pub undecided : part.outcome ≡ None
  pub involved : part.involved ≡ true

-- and so is each such node
abbrev pub EachRunTellsLearners : Type 0
EachRunTellsLearners = (tid : Tid) (world : PacketWorld) (n : ℕ) → IsReached world → tid.home.0 < world.size → n ≢ tid.home.0
    → list_any (same_tid tid) (recovery (world.hosts tid.home.0).log).committed ≡ true → IsToLearn tid world n → IsStillTold tid world n
