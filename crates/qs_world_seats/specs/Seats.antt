-- A cell of a node among others and the clients of that node in a world over packets.
use Rattle.std.specs.Prelude.{◌≡◌, ℕ, Bool, true, false, List, Option, Some, None}
use Rattle.qs_base.specs.declared.identifiers.ClientNo.{ClientNo}
use Rattle.qs_book_laws.proofs.Rising.{IsRising}
use Rattle.qs_cell.specs.State.{Up}
use Rattle.qs_cell.specs.Visits.{due_command, held_by, left_of}
use Rattle.qs_cell.specs.declared.stopped.Stopped.{Stopped}
use Rattle.qs_cell_chronicle.specs.Carried.{Commands}
use Rattle.qs_cell_chronicle.specs.declared.carried.HeldCommand.{HeldCommand}
use Rattle.qs_cell_chronicle.specs.declared.occasion.Occasion.{Occasion}
use Rattle.qs_cell_chronicle.specs.declared.occasion.Occasion.TheVariants as occasions
use Rattle.qs_cell_peers.specs.Sessions.{SessionsValue}
use Rattle.qs_cell_peers.specs.declared.heard.Heard.TheVariants as heards
use Rattle.qs_client.specs.declared.cell.ClientCell.{ClientCell}
use Rattle.qs_link.specs.declared.ends.NodeEnds.{NodeEnds}
use Rattle.qs_node_step.specs.State.{client_cmp}
use Rattle.qs_record.specs.declared.record.Record.{Record}
use Rattle.qs_session_channels.specs.Network.{Among}
use Rattle.qs_world.specs.World.{Client, Opening}
use Rattle.qs_world_merge.specs.LocalRuns.{client_at}
use Rattle.qs_world_one.specs.Showing.{IsInHand, ShowsIn, held_for}
use Rattle.qs_world_packets.specs.PacketWorld.{PacketWorld}
use Rattle.qs_world_seats.specs.Events.{IsHeard}
use Rattle.qs_world_seats.specs.Shown.{ShowsDown, ShowsUp}

-- ---- the clients of node n

-- the world's clients as they are where that node is the only one
abbrev pub at_home : (ℕ → Client) → ℕ → Client
at_home clients k = record (clients k) { at = 0 }

-- a client of the node stands where the cell's commands in hand and its lanes have it
pub record IsSeated (o : Opening) (n inc : ℕ) (now : Option ℕ) (commands : Commands) (ends : List NodeEnds) (clients : ℕ → Client) (client : ClientCell) : Type 0 where
  pub of : client_at o client.client.0 ≡ n
  pub at : (clients client.client.0).at ≡ n
  pub shows : ShowsIn inc now commands ends (at_home clients) client

abbrev pub AreSeated : Opening → ℕ → ℕ → Option ℕ → Commands → List NodeEnds → (ℕ → Client) → List ClientCell → Type 0
AreSeated o n inc now commands ends shown clients = (client : ClientCell) → Among clients client → IsSeated o n inc now commands ends shown client

-- whose command is in hand is a client of the node
abbrev pub AreOfNode : Opening → ℕ → Commands → Type 0
AreOfNode o n commands = (client : ClientNo) (held : HeldCommand) → held_for client commands ≡ Some held → client_at o client.0 ≡ n

-- ---- a cell and its clients

-- its node is up, and has no command that the cell has not in hand
pub record SeatUp {D : Type 0} (o : Opening) (n : ℕ) (running : Up D) (ends : List NodeEnds) (clients : List ClientCell) (world : PacketWorld) : Type 0 where
  pub node : ShowsUp n running world
  pub rising : IsRising client_cmp running.carried.commands
  pub own : AreOfNode o n running.carried.commands
  pub held : IsInHand running.host.node.commands running.carried.commands
  pub each : AreSeated o n running.carried.setting.inc (Some running.carried.setting.inc) running.carried.commands ends world.clients clients

-- or down, where its disk has these records
pub record SeatDown {D : Type 0} (o : Opening) (n : ℕ) (stopped : Stopped D) (ends : List NodeEnds) (clients : List ClientCell) (log : List Record) (world : PacketWorld) : Type 0 where
  pub node : ShowsDown n stopped log world
  pub rising : IsRising client_cmp stopped.carried.commands
  pub own : AreOfNode o n stopped.carried.commands
  pub each : AreSeated o n stopped.carried.setting.inc None stopped.carried.commands ends world.clients clients

-- ---- an event

pub record HasCell (number : ClientNo) (clients : List ClientCell) : Type 0 where
  pub cell : ClientCell
  pub there : Among clients cell
  pub is : cell.client ≡ number

-- from a client; from the node itself, its queues and its clock; or from another node, in a packet
pub data From : Type 0 where
  OfClient : ClientNo → From
  OfNode : From
  OfPeer : From

abbrev pub is_of_node : Occasion → Bool
is_of_node (occasions.Command line) = false
is_of_node occasions.Queues = true
is_of_node occasions.Clock = true
is_of_node (occasions.Message packet) = false
is_of_node (occasions.Restarted packet known) = false

abbrev pub IsBrought : Occasion → SessionsValue → SessionsValue → Type 0
IsBrought (occasions.Command line) old new = ⊥
IsBrought occasions.Queues old new = ⊥
IsBrought occasions.Clock old new = ⊥
IsBrought (occasions.Message packet) old new = IsHeard heards.Message packet old new
IsBrought (occasions.Restarted packet known) old new = IsHeard (heards.Restarted known) packet old new

-- the event is due from there, and who sends the commands of a source is one of the clients; the sessions of the cell are these then
abbrev pub IsDueFrom : {D : Type 0} → From → Occasion → SessionsValue → Up D → List NodeEnds → List ClientCell → Type 0
IsDueFrom (OfClient number) occasion sessions old ends clients = (sessions ≡ old.sessions) × ((due_command number old.carried ends ≡ Some occasion) × HasCell number clients)
IsDueFrom OfNode occasion sessions old ends clients = (sessions ≡ old.sessions) × (is_of_node occasion ≡ true)
IsDueFrom OfPeer occasion sessions old ends clients = IsBrought occasion old.sessions sessions

-- the lanes once it is taken from them
abbrev pub left : {D : Type 0} → From → Up D → List NodeEnds → List NodeEnds
left (OfClient number) old ends = left_of number (held_by number old.carried) ends
left OfNode old ends = ends
left OfPeer old ends = ends
