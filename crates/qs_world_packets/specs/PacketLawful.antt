-- The history of every run of packets is lawful.
use Rattle.std.specs.Prelude.{List}
use Rattle.qs_book_machine.specs.Lawful.{IsLawful}
use Rattle.qs_world.specs.Histories.{book_of}
use Rattle.qs_world.specs.Openings.{IsOpening}
use Rattle.qs_world.specs.World.{Opening}
use Rattle.qs_world_packets.specs.PacketMoves.{Move}
use Rattle.qs_world_packets.specs.PacketRuns.{Run}
use Rattle.qs_world_packets.specs.PacketWorld.{PacketWorld, start}

abbrev pub EachJournalLawful : Type 0
EachJournalLawful = (o : Opening) (moves : List Move) (new : PacketWorld) → IsOpening o → Run (start o) moves new → IsLawful (book_of o) new.journal
