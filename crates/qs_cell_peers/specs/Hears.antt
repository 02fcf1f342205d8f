-- What a node's sessions make of a packet that comes.
use Rattle.std.specs.Prelude.{◌==◌, Bool, if◌then◌else◌}
use Rattle.qs_session_channels.specs.End as end
use Rattle.qs_session_channels.specs.End.{Answer, answer}
use Rattle.qs_packet.specs.declared.message.Message.{Message}
use Rattle.qs_packet.specs.declared.packet.Packet.{Packet}
use Rattle.qs_session.specs.Seen.{seen}
use Rattle.qs_cell_peers.specs.Peers.{comes_to}
use Rattle.qs_cell_peers.specs.Sessions.{Ends, SessionsValue, ends_of, taken_in}
use Rattle.qs_cell_peers.specs.declared.heard.Heard.{Heard}
use Rattle.qs_cell_peers.specs.declared.heard.Heard.TheVariants as heards

-- only a message in turn, and a later incarnation of a node that was known in an earlier one, are something to the node itself
abbrev pub heard_as : Answer Message → Heard
heard_as (end.Message x) = heards.Message
heard_as (end.NewPeer old new) = if old == 0 then heards.Aside else heards.Restarted old
heard_as (end.OldPeer known got) = heards.Aside
heard_as (end.OldSelf mine got) = heards.Aside
heard_as end.Hello = heards.Aside
heard_as (end.Repeat number) = heards.Aside
heard_as (end.Early number expected) = heards.Aside

abbrev pub comes_in : SessionsValue → Packet → Bool
comes_in sessions packet = comes_to sessions.size sessions.me.0 packet

abbrev pub heard_of : SessionsValue → Packet → Heard
heard_of sessions packet = if comes_in sessions packet then heard_as (answer (ends_of sessions packet.from.0) (seen packet)) else heards.Strange

-- and the ends then
abbrev pub ends_heard : SessionsValue → Packet → Ends
ends_heard sessions packet = if comes_in sessions packet then taken_in (ends_of sessions) packet else ends_of sessions
