-- In each world that a run of packets comes to, what a client begins at a node that is up is not known to the node, and what the log of each node says is of
-- transactions. A step finds room for its records by the one, and a restart by the other.
use Rattle.std.specs.Prelude.{◌≡◌, ℕ, ◌<◌, true, List}
use Rattle.qs_node_room.specs.Fits.{BeginsNew}
use Rattle.qs_node_room.specs.Opens.{are_named}
use Rattle.qs_node_step.specs.Restarts.{begin_incarnation}
use Rattle.qs_node_step.specs.State.{work_on}
use Rattle.qs_node_step.specs.declared.event.Event.{Event}
use Rattle.qs_restart.specs.Recovery.{recovery}
use Rattle.qs_world.specs.Openings.{IsOpening}
use Rattle.qs_world.specs.World.{Opening}
use Rattle.qs_world_packets.specs.PacketMoves.{Move}
use Rattle.qs_world_packets.specs.PacketRuns.{Run}
use Rattle.qs_world_packets.specs.PacketWorld.{PacketWorld, start}

-- whatever comes, and however many bytes are free
abbrev pub EachRunBeginsNew : Type 0
EachRunBeginsNew = (o : Opening) (moves : List Move) (world : PacketWorld) (n free : ℕ) (event : Event) → IsOpening o → Run (start o) moves world → n < world.size → world.network.up n ≡ true
    → BeginsNew event (begin_incarnation (work_on (world.hosts n).node free))

abbrev pub EachRunIsNamed : Type 0
EachRunIsNamed = (o : Opening) (moves : List Move) (world : PacketWorld) (n : ℕ) → IsOpening o → Run (start o) moves world → n < world.size → are_named (recovery (world.hosts n).log) ≡ true
