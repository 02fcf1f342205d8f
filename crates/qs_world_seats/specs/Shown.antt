-- What a world over packets shows of one of its nodes: what the node has is the world's host, and its sessions are its ends there. What its cell tells is
-- of a local run to that world.
use Rattle.std.specs.Prelude.{◌≡◌, ℕ, ◌<◌, ◌≤◌, true, false, List, []}
use Rattle.qs_cell.specs.declared.running.Running.{Running}
use Rattle.qs_cell.specs.declared.stopped.Stopped.{Stopped}
use Rattle.qs_cell_chronicle.specs.Chronicle.{Told, last_stamp}
use Rattle.qs_cell_chronicle.specs.declared.carried.Carried.{Carried}
use Rattle.qs_cell_peers.specs.Peers.{is_peer}
use Rattle.qs_cell_peers.specs.Sessions.{ends_of}
use Rattle.qs_record.specs.declared.record.Record.{Record}
use Rattle.qs_world.specs.Moves.{node_no}
use Rattle.qs_world.specs.World.{Client, Opening}
use Rattle.qs_world_merge.specs.Observed.{Observed}
use Rattle.qs_world_merge.specs.Reaching.{HasReached}
use Rattle.qs_world_one.specs.InWorld.{host_of}
use Rattle.qs_world_packets.specs.PacketWorld.{PacketWorld}
use Rattle.qs_world_traces.specs.Links.{observed_by}
use Rattle.qs_world_traces.specs.Sessions.{AreEnds}

-- ---- a node

-- what is carried is that of node n of this run, in the incarnation that the world has
pub record ShowsCarried (n : ℕ) (carried : Carried) (world : PacketWorld) : Type 0 where
  pub in_run : n < world.size
  pub told_of : carried.chronicle.told.node ≡ node_no n
  pub within : carried.chronicle.told.stamp ≤ last_stamp
  pub nodes : carried.setting.nodes ≡ world.size
  pub node : carried.setting.node ≡ node_no n
  pub inc : world.network.inc n ≡ carried.setting.inc

-- a node that is up; the stamp of its host may be below that of the cell's last step, since a packet that changes a session alone has none in the world
pub record ShowsUp {D F X : Type 0} (n : ℕ) (running : Running D F X) (world : PacketWorld) : Type 0 where
  pub carried : ShowsCarried n running.carried world
  pub up : world.network.up n ≡ true
  pub host : world.hosts n ≡ host_of (world.hosts n).stamp running.host
  pub setting : running.host.node.setting ≡ running.carried.setting
  pub size : running.sessions.size ≡ world.size
  pub me : running.sessions.me ≡ node_no n
  pub ends : AreEnds (is_peer world.size n) n world.network (ends_of running.sessions)

-- a node that is down, where its disk has these records: of several logs that the crash may have left, one that a restart may find
pub record ShowsDown {D : Type 0} (n : ℕ) (stopped : Stopped D) (log : List Record) (world : PacketWorld) : Type 0 where
  pub carried : ShowsCarried n stopped.carried world
  pub down : world.network.up n ≡ false
  pub setting : (world.hosts n).node.setting ≡ stopped.carried.setting
  pub kept : (world.hosts n).node.kept.saved ≡ stopped.kept
  pub log_is : (world.hosts n).log ≡ log
  pub none : (world.hosts n).waiting ≡ []

-- ---- and all clients

pub record IsUp {D F X : Type 0} (n : ℕ) (running : Running D F X) (clients : ℕ → Client) (world : PacketWorld) : Type 0 where
  pub node : ShowsUp n running world
  pub clients_are : (k : ℕ) → world.clients k ≡ clients k

pub record IsDown {D : Type 0} (n : ℕ) (stopped : Stopped D) (log : List Record) (clients : ℕ → Client) (world : PacketWorld) : Type 0 where
  pub node : ShowsDown n stopped log world
  pub clients_are : (k : ℕ) → world.clients k ≡ clients k

-- ---- what its cell tells

abbrev pub observed_of : Told → Observed
observed_of told = observed_by told.journal told.trace

-- it is of a local run of node n to a world of which this holds
pub record Reaches (o : Opening) (n : ℕ) (told : Told) (P : PacketWorld → Type 0) : Type 0 where
  pub world : PacketWorld
  pub reached : HasReached o n (observed_of told) told.stamp world
  pub shows : P world
