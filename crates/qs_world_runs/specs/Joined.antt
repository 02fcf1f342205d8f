-- What the reference machine, the agreement machine and the nodes have together of a world that a run leads to.
use Rattle.std.specs.Prelude.{◌≡◌, ℕ, ◌≤◌, ◌<◌, true, List, Some, nat_lt, []}
use Rattle.std.specs.BTreeMap.{is_at}
use Rattle.std.specs.Map.{lookup}
use Rattle.qs_base.specs.declared.identifiers.ClientNo.{ClientNo}
use Rattle.qs_base.specs.declared.identifiers.Tid.{Tid}
use Rattle.qs_session_channels.specs.Channels.{Channels}
use Rattle.qs_book_machine.specs.Book.{BookValue, find_transaction}
use Rattle.qs_book_machine.specs.Lawful.{IsLawful, book_after}
use Rattle.qs_book_machine.specs.Restart.{is_among}
use Rattle.qs_book_machine.specs.Transaction.{TransactionValue, is_commit}
use Rattle.qs_record.specs.declared.record.Record.{Record}
use Rattle.qs_restart.specs.Recovery.{recovery}
use Rattle.qs_node_step.specs.State.{NodeValue, client_cmp}
use Rattle.qs_node_step.specs.declared.state.OpenCommand.{OpenCommand}
use Rattle.qs_world.specs.Histories.{book_of}
use Rattle.qs_world.specs.Moves.{client_count}
use Rattle.qs_world.specs.Openings.{IsOpening}
use Rattle.qs_world.specs.World.{Opening, Parcel, World}
use Rattle.qs_world_refine.specs.ShownWorlds.{IsShownWorld}
use Rattle.qs_world_lawful.specs.Beside.{HasOwner, HoldsBeside, is_committed_at}
use Rattle.qs_world_lawful.specs.NodeFacts.{AreYoung, HasNodeFacts}
use Rattle.qs_world_lawful.specs.Parcels.{HoldsChannels, HoldsWays, WaitsForKnown}
use Rattle.qs_world_lawful.specs.Scripts.{HoldsScripts}
use Rattle.qs_world_lawful.specs.Worlds.{HoldsWorld}
use Rattle.qs_world_runs.specs.Agrees.{nodes_in}
use Rattle.qs_world_runs.specs.Born.{BornAt}
use Rattle.qs_world_runs.specs.Labels.{HoldsLabels}
use Rattle.qs_world_runs.specs.Owing.{OwesAt}
use Rattle.qs_world_runs.specs.Rooms.{RoomsAt}

-- the machine after what the world's journal has
abbrev pub book_in : Opening → World → BookValue
book_in o world = book_after (book_of o) world.journal

-- ---- the parts of it that are said of a world alone

abbrev pub HeldAt : Opening → World → Type 0
HeldAt o world = HoldsWorld (book_in o world) world

-- what holds of each node by itself, whether it runs or not
abbrev pub FactsAt : World → Type 0
FactsAt world = (n : ℕ) → n < world.size → HasNodeFacts (world.hosts n).node

-- a node that runs: what the machine has beside it, and that what began at it is young
pub record HoldsRunning (book : BookValue) (node : NodeValue) : Type 0 where
  pub beside : HoldsBeside book node
  pub young : AreYoung node

abbrev pub RunningAt : Opening → World → Type 0
RunningAt o world = (n : ℕ) → n < world.size → world.channels.up n ≡ true → HoldsRunning (book_in o world) (world.hosts n).node

-- what the machine has committed, its home has, whether it runs or not
abbrev pub HomesHave : BookValue → ℕ → (ℕ → NodeValue) → Type 0
HomesHave book size nodes = (tid : Tid) (tx : TransactionValue) → find_transaction book tid ≡ Some tx → is_commit tx.cell ≡ true → nat_lt tid.home.0 size ≡ true → is_committed_at (nodes tid.home.0) tid ≡ true

abbrev pub HomesAt : Opening → World → Type 0
HomesAt o world = HomesHave (book_in o world) world.size (nodes_in world)

-- what the machine has is of clients of the run
abbrev pub OwnersAt : Opening → World → Type 0
OwnersAt o world = (tid : Tid) (tx : TransactionValue) → find_transaction (book_in o world) tid ≡ Some tx → HasOwner (book_in o world) tx

-- the Commits that the log of a node had as it opened, its log has for good
abbrev pub IsLogged : NodeValue → List Record → Type 0
IsLogged node log = (tid : Tid) → is_among node.committed tid ≡ true → is_among (recovery log).committed tid ≡ true

abbrev pub LoggedAt : World → Type 0
LoggedAt world = (n : ℕ) → n < world.size → IsLogged (world.hosts n).node (world.hosts n).log

-- a node, whether it runs or not, keeps the label of what began there as its owner's
abbrev pub LabelsAt : Opening → World → Type 0
LabelsAt o world = (n : ℕ) → n < world.size → HoldsLabels (book_in o world) (world.hosts n).node.setting.node (world.hosts n).node.kept.now.labels

-- each tick of a node has a stamp of its own, so its clock shows its stamp at most
abbrev pub ClocksAt : World → Type 0
ClocksAt world = (n : ℕ) → n < world.size → (world.hosts n).node.manager.ticks ≤ (world.hosts n).stamp

abbrev pub ChannelsAt : Opening → World → Type 0
ChannelsAt o world = HoldsChannels (book_in o world) world.size world.channels

abbrev pub WaysAt : Opening → World → Type 0
WaysAt o world = HoldsWays (book_in o world) world

-- what a node keeps back is for those of whom it knows no incarnation
abbrev pub KeepsBackUnmet : Channels Parcel → Type 0
KeepsBackUnmet c = (n m : ℕ) → 1 ≤ c.peer n m → c.waits n m ≡ []

-- whether a node runs or not, nothing waits at it of what the machine does not know
abbrev pub QueuedAt : Opening → World → Type 0
QueuedAt o world = (n : ℕ) → n < world.size → WaitsForKnown (book_in o world) (world.hosts n).node

-- what a node has in hand, whether it runs or not, is of clients of its own
pub record IsOwnClient (world : World) (n : ℕ) (client : ClientNo) : Type 0 where
  pub small : nat_lt client.0 client_count ≡ true
  pub at : (world.clients client.0).at ≡ n

abbrev pub ClientsAt : World → Type 0
ClientsAt world = (n : ℕ) → n < world.size → (client : ClientNo) (command : OpenCommand) → lookup (is_at (client_cmp client)) (world.hosts n).node.commands ≡ Some command → IsOwnClient world n client

abbrev pub ScriptsAt : Opening → World → Type 0
ScriptsAt o world = HoldsScripts o (book_in o world) world

-- ---- all of it; P is what all places hold of each transaction

pub record Joined (P : Opening → World → Type 0) (o : Opening) (world : World) : Type 0 where
  pub opens : IsOpening o
  pub size : world.size ≡ o.size
  pub lawful : IsLawful (book_of o) world.journal
  pub shown : IsShownWorld world
  pub held : HeldAt o world
  pub facts : FactsAt world
  pub running : RunningAt o world
  pub homes : HomesAt o world
  pub owners : OwnersAt o world
  pub logged : LoggedAt world
  pub clocks : ClocksAt world
  pub labels : LabelsAt o world
  pub born : BornAt o world
  pub rooms : RoomsAt o world
  pub channels : ChannelsAt o world
  pub unmet : KeepsBackUnmet world.channels
  pub queued : QueuedAt o world
  pub ways : WaysAt o world
  pub clients : ClientsAt world
  pub scripts : ScriptsAt o world
  pub owing : OwesAt world
  pub places : P o world
