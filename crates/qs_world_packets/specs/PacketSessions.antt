-- Sessions look at no message: it makes no difference to them that a parcel has the stamp of the step that posted it, which no packet bears.
use Rattle.std.specs.Prelude.{◌≡◌, ℕ, map, option_map}
use Rattle.qs_session_channels.specs.End as end
use Rattle.qs_session_channels.specs.End.{Answer, End, Packet, answer, fresh, received, sent, sent_packet, tick_packets, ticked}
use Rattle.qs_packet.specs.declared.message.Message.{Message}
use Rattle.qs_packet.specs.declared.message.Message.TheVariants as messages
use Rattle.qs_world.specs.World.{Parcel}
use Rattle.qs_world_packets.specs.PacketWorld.{hello}

abbrev pub message_of : Parcel → Message
message_of parcel = parcel.message

-- an end, a packet and an answer, without the stamps of parcels

abbrev pub plain_end : End Parcel → End Message
plain_end e = record { mine = e.mine; known = e.known; taken = e.taken; acked = e.acked; kept = map message_of e.kept; owed = e.owed; met = e.met }

abbrev pub plain_packet : Packet Parcel → Packet Message
plain_packet p = record { inc = p.inc; to_inc = p.to_inc; number = p.number; ack = p.ack; stamp = p.stamp; message = message_of p.message }

abbrev pub plain_answer : Answer Parcel → Answer Message
plain_answer (end.OldPeer known got) = end.OldPeer known got
plain_answer (end.NewPeer old new) = end.NewPeer old new
plain_answer (end.OldSelf mine got) = end.OldSelf mine got
plain_answer end.Hello = end.Hello
plain_answer (end.Repeat number) = end.Repeat number
plain_answer (end.Early number expected) = end.Early number expected
plain_answer (end.Message parcel) = end.Message (message_of parcel)

-- an end of plain messages answers, keeps and sends the same
pub record IsPlain : Type 0 where
  pub opens : (mine : ℕ) → fresh mine ≡ plain_end (fresh mine)
  pub answers : (e : End Parcel) (p : Packet Parcel) → answer (plain_end e) (plain_packet p) ≡ plain_answer (answer e p)
  pub receives : (e : End Parcel) (p : Packet Parcel) → received (plain_end e) (plain_packet p) ≡ plain_end (received e p)
  pub sends : (e : End Parcel) (x : Parcel) → sent (plain_end e) (message_of x) ≡ plain_end (sent e x)
  pub packets : (e : End Parcel) (x : Parcel) (stamp : ℕ) → sent_packet (plain_end e) (message_of x) stamp ≡ option_map plain_packet (sent_packet e x stamp)
  pub ticks : (e : End Parcel) (stamp : ℕ) → tick_packets messages.Hello (plain_end e) stamp ≡ map plain_packet (tick_packets hello e stamp)
  pub rests : (e : End Parcel) → ticked (plain_end e) ≡ plain_end (ticked e)
