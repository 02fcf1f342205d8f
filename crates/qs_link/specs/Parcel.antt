-- The packet of a parcel.
use Rattle.std.specs.Prelude.{Result, Ok, Err}
use Rattle.qs_packet.specs.declared.fault.PacketFault.{PacketFault}
use Rattle.qs_packet.specs.declared.message.Message.TheVariants.{Hello}
use Rattle.qs_packet.specs.declared.packet.Packet.{Packet}

-- the packet that was read; a parcel's bytes are never refused
abbrev pub packet_in : Result Packet PacketFault → Packet
packet_in (Ok packet) = packet
packet_in (Err fault) =
    record { from = record { 0 = 0 }; inc = 0; to = record { 0 = 0 }; to_inc = 0; number = 0; ack = 0; stamp = 0; message = Hello }
