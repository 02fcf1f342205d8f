-- How the world over packets runs as the world of ordered channels.
use Rattle.std.specs.Prelude.{◌≡◌, ℕ, ◌≤◌, true, List, [], ◌∷◌, ◌++◌, Option, Some}
use Rattle.qs_session_channels.specs.Channels.{Channels}
use Rattle.qs_session_channels.specs.End as end
use Rattle.qs_session_channels.specs.End.{Packet, Answer}
use Rattle.qs_session_channels.specs.Network.{Among, Network}
use Rattle.qs_session_channels.specs.Shown.{Shows}
use Rattle.qs_world.specs.Moves as channelled
use Rattle.qs_world.specs.Runs as runs
use Rattle.qs_world.specs.World.{Host, Parcel}
use Rattle.qs_world_packets.specs.PacketMoves.{Source, Commanded, Queues, Clock, Brought, Move, Step, Cut, Stop, Rise, Meet, Take, Tick, answer_at, moved}
use Rattle.qs_world_packets.specs.PacketWorld.{PacketWorld, over}

-- ---- the moves of a move

-- a packet that makes a step brings a later incarnation of m, or the next message of it
abbrev pub source_by : ℕ → Answer Parcel → channelled.Source
source_by m (end.OldPeer known got) = channelled.Handed m
source_by m (end.NewPeer old new) = channelled.Noticed m new
source_by m (end.OldSelf mine got) = channelled.Handed m
source_by m end.Hello = channelled.Handed m
source_by m (end.Repeat number) = channelled.Handed m
source_by m (end.Early number expected) = channelled.Handed m
source_by m (end.Message parcel) = channelled.Handed m

abbrev pub source_in : PacketWorld → ℕ → Source → channelled.Source
source_in world n (Commanded k) = channelled.Commanded k
source_in world n Queues = channelled.Queues
source_in world n Clock = channelled.Clock
source_in world n (Brought m p) = source_by m (answer_at world n m p)

-- packets that change an end alone, and ticks of sessions, move nothing there
abbrev pub moves_of : PacketWorld → Move → List channelled.Move
moves_of world (Step n stamp free source) = channelled.Step n stamp free (source_in world n source) ∷ []
moves_of world (Cut n stamp free source is_kept cause) = channelled.Cut n stamp free (source_in world n source) is_kept cause ∷ []
moves_of world (Stop n stamp cause) = channelled.Stop n stamp cause ∷ []
moves_of world (Rise n stamp inc) = channelled.Rise n stamp inc ∷ []
moves_of world (Meet n stamp m p) = channelled.Meet n stamp m p.inc ∷ []
moves_of world (Take n m p) = []
moves_of world (Tick n m stamp) = []

abbrev pub run_moves : PacketWorld → List Move → List channelled.Move
run_moves world [] = []
run_moves world (move ∷ moves) = moves_of world move ++ run_moves (moved move world) moves

-- ---- stamps

-- an incarnation began, with that stamp or an earlier one
pub record BeganBy (began : Option ℕ) (stamp : ℕ) : Type 0 where
  pub at : ℕ
  pub is : began ≡ Some at
  pub by : at ≤ stamp

-- a packet of n has the stamp of the beginning of its incarnation at least, and that of the step that posted its message
pub record IsStamped (born : ℕ → ℕ → Option ℕ) (n : ℕ) (p : Packet Parcel) : Type 0 where
  pub began : BeganBy (born n p.inc) p.stamp
  pub posted : p.message.stamp ≤ p.stamp

pub record Stamped (born : ℕ → ℕ → Option ℕ) (stamps : ℕ → ℕ) (net : Network Parcel) : Type 0 where
  pub began : (n : ℕ) → BeganBy (born n (net.inc n)) (stamps n)
  pub kept : (n m : ℕ) (parcel : Parcel) → net.up n ≡ true → Among (net.end n m).kept parcel → parcel.stamp ≤ stamps n
  pub packets : (n m : ℕ) (p : Packet Parcel) → Among (net.packets n m) p → IsStamped born n p

abbrev pub stamps_in : (ℕ → Host) → ℕ → ℕ
stamps_in hosts n = (hosts n).stamp

-- ---- the world with these channels shows the world over packets

pub record ShowsWorld (world : PacketWorld) (channels : Channels Parcel) : Type 0 where
  pub shows : Shows world.network channels
  pub stamped : Stamped world.born (stamps_in world.hosts) world.network

-- a move is its moves there
pub record Goes (world : PacketWorld) (move : Move) (channels : Channels Parcel) : Type 0 where
  pub left : Channels Parcel
  pub run : runs.Run (over world channels) (moves_of world move) (over (moved move world) left)
  pub shown : ShowsWorld (moved move world) left
