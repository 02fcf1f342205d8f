-- The world: nodes with their logs, the channels between their incarnations, their clients, and the journal.
--
-- Messages travel in ordered channels, one for each pair of incarnations, without loss: that sessions make of packets.
use Rattle.std.specs.Prelude.{ℕ, ◌==◌, Bool, true, false, List, [], Option, Some, None, if◌then◌else◌}
use Rattle.std.specs.Global.{Global}
use Rattle.qs_session_channels.specs.Channels.{Channels, opening}
use Rattle.qs_session_channels.specs.Network.{with_at}
use Rattle.qs_book_journal.specs.declared.entry.Entry.{Entry}
use Rattle.qs_book_journal.specs.declared.script_line.ScriptLine.{ScriptLine}
use Rattle.qs_packet.specs.declared.message.Message.{Message}
use Rattle.qs_record.specs.declared.record.Record.{Record}
use Rattle.qs_node_kept.specs.Keeping.{no_kept}
use Rattle.qs_node_step.specs.declared.setting.Setting.{Setting}
use Rattle.qs_node_step.specs.Opening.{recovered_of, opened_node}
use Rattle.qs_node_step.specs.State.{NodeValue}

-- a node with its log
pub record Host : Type 0 where
  pub node : NodeValue  -- after its last whole step
  pub log : List Record  -- the records on its disk
  pub waiting : List Record  -- those that were appended and are not forced
  pub stamp : ℕ  -- of its last step

-- a message, with the stamp of the step that posted it
pub record Parcel : Type 0 where
  pub stamp : ℕ
  pub message : Message

-- a client, with the commands of its script that are not answered
pub record Client : Type 0 where
  pub at : ℕ  -- its node
  pub lines : List ScriptLine
  pub is_handed : Bool  -- the first of them was handed to the node in its present incarnation

pub record World : Type 0 where
  pub size : ℕ  -- how many nodes there are
  pub hosts : ℕ → Host
  pub channels : Channels Parcel  -- which nodes run, in which incarnations, what they know of each other and have for each other
  pub born : ℕ → ℕ → Option ℕ  -- the stamp with which an incarnation of a node began; none where it did not
  pub clients : ℕ → Client
  pub journal : List Entry  -- what happened, in order
  pub last : ℕ × ℕ  -- the stamp and the node of the last step

-- what a world begins with
pub record Opening : Type 0 where
  pub alloc : Global
  pub size : ℕ
  pub settings : ℕ → Setting
  pub logs : ℕ → List Record
  pub clients : ℕ → ℕ × List ScriptLine  -- the node of a client, and its script

abbrev pub with_host : ℕ → (Host → Host) → World → World
with_host n f world = record world { hosts = with_at world.hosts n (f (world.hosts n)) }

-- the present incarnation of a node
abbrev pub inc_of : World → ℕ → ℕ
inc_of world n = world.channels.inc n

-- the incarnation of another node that a node knows; 0 is none
abbrev pub known_of : World → ℕ → ℕ → ℕ
known_of world n m = world.channels.peer n m

-- ---- as it begins

abbrev pub opened_host : Global → Setting → List Record → Host
opened_host alloc setting log = record { node = opened_node alloc setting (recovered_of log) no_kept; log = log; waiting = []; stamp = 0 }

abbrev pub opened_client : ℕ × List ScriptLine → Client
opened_client begun = record { at = begun.0; lines = begun.1; is_handed = false }

-- every node runs, and nobody knows anybody
abbrev pub opened_channels : (ℕ → Setting) → Channels Parcel
opened_channels settings = record (opening (λ n. (settings n).inc)) { up = λ n. true }

-- the first incarnations began before every step
abbrev pub born_first : (ℕ → Setting) → ℕ → ℕ → Option ℕ
born_first settings n inc = if inc == (settings n).inc then Some 0 else None

-- each node has what its log says
abbrev pub start : Opening → World
start o = record {
  size = o.size;
  hosts = λ n. opened_host o.alloc (o.settings n) (o.logs n);
  channels = opened_channels o.settings;
  born = born_first o.settings;
  clients = λ k. opened_client (o.clients k);
  journal = [];
  last = (0, 0);
}
