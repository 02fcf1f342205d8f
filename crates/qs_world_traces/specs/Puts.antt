-- What a cell has put goes on with what a step sends, and with what sessions send again.
use Rattle.std.specs.Prelude.{◌≡◌, List, ◌++◌, map, reverse}
use Rattle.qs_session_channels.specs.End.{Packet}
use Rattle.qs_world_merge.specs.Observed.{ArePut}
use Rattle.qs_packet.specs.declared.message.Message.{Message}
use Rattle.qs_world_packets.specs.PacketSessions.{plain_packet}
use Rattle.qs_world.specs.World.{Parcel}

abbrev pub EachPutsOn : Type 0
EachPutsOn = (put sent : List (Packet Message)) (old new : List (Packet Parcel)) → ArePut put old → map plain_packet new ≡ reverse sent ++ map plain_packet old → ArePut (put ++ sent) new

abbrev pub EachTicksOn : Type 0
EachTicksOn = (put sent : List (Packet Message)) (old new : List (Packet Parcel)) → ArePut put old → map plain_packet new ≡ sent ++ map plain_packet old → ArePut (put ++ sent) new
