-- The sessions of a cell are its node's ends in the world, without the stamps of the steps that posted messages: as a step sends, as a packet comes, and as
-- sessions tick.
use Rattle.std.specs.Prelude.{◌≡◌, ℕ, Bool, true, List, ◌++◌, map, reverse}
use Rattle.qs_cell_peers.specs.Sessions.{Ends, all_sent, sent_to}
use Rattle.qs_session_channels.specs.End.{Packet, received, tick_packets, ticked}
use Rattle.qs_session_channels.specs.Network as network
use Rattle.qs_session_channels.specs.Network.{Network, with_at}
use Rattle.qs_packet.specs.declared.message.Message.TheVariants as messages
use Rattle.qs_world_packets.specs.PacketMoves.{received_by, send_all}
use Rattle.qs_world_packets.specs.PacketSessions.{plain_end, plain_packet}
use Rattle.qs_world_packets.specs.PacketWorld.{PacketWorld, hello}
use Rattle.qs_node_step.specs.declared.event.Sending.{Sending}
use Rattle.qs_world.specs.World.{Parcel}

-- these are the node's, as far as they go: it has no session with itself, nor with a number that is no node of the run
abbrev pub AreEnds : (ℕ → Bool) → ℕ → Network Parcel → Ends → Type 0
AreEnds peers n net ends = (m : ℕ) → peers m ≡ true → ends m ≡ plain_end (net.end n m)

-- ---- what a step sends, as it is in the world; there the newest stands first

pub record SendsAsEnds (peers : ℕ → Bool) (n stamp : ℕ) (net : Network Parcel) (ends : Ends) (sendings : List Sending) : Type 0 where
  pub ends_are : AreEnds peers n (send_all n stamp sendings net) (all_sent peers ends sendings)
  pub packets : (m : ℕ) → peers m ≡ true → map plain_packet ((send_all n stamp sendings net).packets n m) ≡ reverse (sent_to peers stamp m ends sendings) ++ map plain_packet (net.packets n m)

abbrev pub EachSends : Type 0
EachSends = (peers : ℕ → Bool) (n stamp : ℕ) (net : Network Parcel) (ends : Ends) (sendings : List Sending) → AreEnds peers n net ends → SendsAsEnds peers n stamp net ends sendings

-- ---- a packet comes

abbrev pub EachReceives : Type 0
EachReceives = (peers : ℕ → Bool) (n m : ℕ) (world : PacketWorld) (ends : Ends) (p : Packet Parcel) → peers m ≡ true → AreEnds peers n world.network ends
    → AreEnds peers n (received_by world n m p) (with_at ends m (received (ends m) (plain_packet p)))

-- ---- a session ticks

-- its packets; in the world the list stands in front of what went before
pub record TicksAsEnds (peers : ℕ → Bool) (n m stamp : ℕ) (net : Network Parcel) (ends : Ends) : Type 0 where
  pub ends_are : AreEnds peers n (network.stepped hello (network.Tick n m stamp) net) (with_at ends m (ticked (ends m)))
  pub packets : map plain_packet ((network.stepped hello (network.Tick n m stamp) net).packets n m) ≡ tick_packets messages.Hello (ends m) stamp ++ map plain_packet (net.packets n m)

abbrev pub EachTicks : Type 0
EachTicks = (peers : ℕ → Bool) (n m stamp : ℕ) (net : Network Parcel) (ends : Ends) → peers m ≡ true → AreEnds peers n net ends → TicksAsEnds peers n m stamp net ends
