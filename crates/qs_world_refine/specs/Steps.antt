-- Where a piece of a node's step stands, what it takes, and how it goes on as events of the agreement machine.
use Rattle.std.specs.Prelude.{◌≡◌, ◌≢◌, ℕ, ◌<◌, ◌≤◌, true, List, ◌∷◌, length, Some}
use Rattle.qs_base.specs.declared.identifiers.NodeNo.{NodeNo}
use Rattle.qs_base.specs.declared.identifiers.Tid.{Tid}
use Rattle.qs_packet.specs.declared.message.Message.{Message}
use Rattle.qs_tm.specs.declared.participant.Participant.{Participant}
use Rattle.qs_node_step.specs.State.{Work, part_of}
use Rattle.qs_world_agree.specs.World.{World}
use Rattle.qs_world_agree.specs.Carry.{Leads}
use Rattle.qs_world_refine.specs.Links.{names_node, node_no}
use Rattle.qs_world_refine.specs.Shows.{Scene, ShowsWork}

-- node n of the scene is in the middle of a step
pub record IsAt (scene : Scene) (n : ℕ) (work : Work) : Type 0 where
  pub in_run : n < scene.size
  pub up : scene.up n ≡ true
  pub node : work.node.setting.node ≡ node_no n
  pub nodes : work.node.setting.nodes ≡ scene.size
  pub inc : work.node.setting.inc ≡ scene.inc n

-- what it keeps of a transaction has a place for each node, and one for each server
pub record IsWhole (part : Participant) : Type 0 where
  pub peers : length part.engage.peers ≡ 16
  pub members : length part.members ≡ 7
  pub told : length part.told.has ≡ 16
  pub tell : length part.tell.has ≡ 16
  pub acknowledged : length part.acknowledged.has ≡ 16

-- it knows the transaction
pub record Knows (tid : Tid) (work : Work) (part : Participant) : Type 0 where
  pub known : part_of tid work ≡ Some part
  pub whole : IsWhole part

-- the other node is known, in that incarnation
pub record IsKnown (scene : Scene) (n m i : ℕ) : Type 0 where
  pub in_run : m < scene.size
  pub other : m ≢ n
  pub knows : scene.knows n m ≡ i
  pub some : 1 ≤ i

-- its next message is this one
pub record IsNext (scene : Scene) (n m i : ℕ) (message : Message) (rest : List Message) : Type 0 where
  pub from : IsKnown scene n m i
  pub head : scene.pending m i n (scene.inc n) ≡ message ∷ rest

-- a told set names nodes that a run may have, and never the home
abbrev pub IsToldSet : Tid → List NodeNo → Type 0
IsToldSet tid told = (k : ℕ) → names_node told (node_no k) ≡ true → (k < 16) × (k ≢ tid.home.0)

-- the machine goes on by events, and shows the work that came of it
pub record Goes (tid : Tid) (scene : Scene) (n : ℕ) (new : Work) (w : World) : Type 0 where
  pub next : World
  pub leads : Leads w next
  pub shown : ShowsWork tid scene n new next
