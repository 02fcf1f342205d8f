-- The world over packets: nodes with their logs, the ends of their sessions, all packets that were ever sent, their clients, and the journal.
--
-- Each packet may come at any later moment, any number of times, or never: so links may lose, repeat, hold and reorder them.
use Rattle.std.specs.Prelude.{ℕ, true, List, [], Option, nat_lt, if◌then◌else◌}
use Rattle.qs_session_channels.specs.Channels.{Channels}
use Rattle.qs_session_channels.specs.End.{fresh}
use Rattle.qs_session_channels.specs.Network.{Network}
use Rattle.qs_book_journal.specs.declared.entry.Entry.{Entry}
use Rattle.qs_packet.specs.declared.message.Message.TheVariants as messages
use Rattle.qs_node_step.specs.declared.setting.Setting.{Setting}
use Rattle.qs_world.specs.World.{Host, Parcel, Client, World, Opening, opened_host, opened_client, born_first}

pub record PacketWorld : Type 0 where
  pub size : ℕ  -- how many nodes there are
  pub hosts : ℕ → Host
  pub network : Network Parcel  -- which nodes run, in which incarnations, their ends of sessions, and all packets that were ever sent
  pub born : ℕ → ℕ → Option ℕ  -- the stamp with which an incarnation of a node began; none where it did not
  pub clients : ℕ → Client
  pub journal : List Entry  -- what happened, in order
  pub last : ℕ × ℕ  -- the stamp and the node of the last step

-- what a packet bears that brings no message
abbrev pub hello : Parcel
hello = record { stamp = 0; message = messages.Hello }

-- ---- as it begins

-- nodes have the incarnations of their settings; numbers that are no nodes of the run have one too, so that nothing is to be said of them apart
abbrev pub setting_in : Opening → ℕ → Setting
setting_in o n = if nat_lt n o.size then o.settings n else record (o.settings n) { inc = 1 }

abbrev pub within : Opening → Opening
within o = record o { settings = setting_in o }

-- every node runs, with fresh ends, and nothing was sent
abbrev pub opened_network : (ℕ → Setting) → Network Parcel
opened_network settings = record { inc = λ n. (settings n).inc; up = λ n. true; end = λ n m. fresh (settings n).inc; packets = λ n m. [] }

abbrev pub start : Opening → PacketWorld
start o = record {
  size = o.size;
  hosts = λ n. opened_host o.alloc (setting_in o n) (o.logs n);
  network = opened_network (setting_in o);
  born = born_first (setting_in o);
  clients = λ k. opened_client (o.clients k);
  journal = [];
  last = (0, 0);
}

-- ---- the same with ordered channels in place of the network

abbrev pub over : PacketWorld → Channels Parcel → World
over world channels = record {
  size = world.size;
  hosts = world.hosts;
  channels = channels;
  born = world.born;
  clients = world.clients;
  journal = world.journal;
  last = world.last;
}
