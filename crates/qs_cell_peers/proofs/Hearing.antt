-- What a node's sessions make of a packet, by whether it comes from a peer to this node.
use Rattle.std.proofs.Common.{◌≡◌, true, false, Option, refl, ap, ◌∙◌}
use Rattle.qs_session_channels.specs.End.{answer}
use Rattle.qs_packet.specs.declared.message.Message.{Message}
use Rattle.qs_packet.specs.declared.packet.Packet.{Packet}
use Rattle.qs_session.specs.Seen.{answer_with, seen}
use Rattle.qs_session.specs.declared.taken.Taken.{Taken}
use Rattle.qs_cell_peers.specs.Hears.{comes_in, ends_heard, heard_as, heard_of}
use Rattle.qs_cell_peers.specs.Sessions.{EndAs, SessionsValue, ends_of, taken_in}
use Rattle.qs_cell_peers.specs.declared.heard.Heard.{Heard}
use Rattle.qs_cell_peers.specs.declared.heard.Heard.TheVariants as heards

pub heard_here : (old : SessionsValue) (packet : Packet) (taken : Option Taken) (heard : Heard) → comes_in old packet ≡ true → ((message : Message) → heard ≡ heard_as (answer_with taken message))
    → answer_with taken packet.message ≡ answer (ends_of old packet.from.0) (seen packet) → heard ≡ heard_of old packet
heard_here old packet taken heard comes is answered = rw comes (is packet.message ∙ ap heard_as answered)

pub heard_strange : (old : SessionsValue) (packet : Packet) → comes_in old packet ≡ false → heards.Strange ≡ heard_of old packet
heard_strange old packet strange = rw strange refl

pub ends_as : (old : SessionsValue) (packet : Packet) (new : SessionsValue) → comes_in old packet ≡ true → EndAs old (taken_in (ends_of old) packet) new → EndAs old (ends_heard old packet) new
ends_as old packet new comes is = rw comes is

pub same_ends : (old : SessionsValue) (packet : Packet) → comes_in old packet ≡ false → EndAs old (ends_heard old packet) old
same_ends old packet strange = rw strange (record { size = refl; me = refl; ends_are = λ m peer. refl })
