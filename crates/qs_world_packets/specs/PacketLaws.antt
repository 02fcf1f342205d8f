-- The laws of the world over packets: each run of it is a run of the world of channels, so what holds of every run there holds of every run here.
use Rattle.std.specs.Prelude.{◌≡◌, List}
use Rattle.qs_session_channels.specs.Channels.{Channels}
use Rattle.qs_book_machine.specs.Lawful.{IsLawful}
use Rattle.qs_world.specs.Histories.{IsLawfulRun, book_of}
use Rattle.qs_world.specs.Moves as channelled
use Rattle.qs_world.specs.Openings.{IsOpening}
use Rattle.qs_world.specs.Runs as runs
use Rattle.qs_world.specs.World as worlds
use Rattle.qs_world.specs.World.{Opening, Parcel, World}
use Rattle.qs_world_packets.specs.PacketMoves.{Move, MayMove}
use Rattle.qs_world_packets.specs.PacketRuns.{Run}
use Rattle.qs_world_packets.specs.PacketWorld.{PacketWorld, over, start, within}
use Rattle.qs_world_packets.specs.WorldShown.{Goes, ShowsWorld, run_moves}

-- each move that may be made is a list of moves of the world of channels, each of which may be made
abbrev pub EachMoveGoes : Type 0
EachMoveGoes = (world : PacketWorld) (move : Move) (channels : Channels Parcel) → ShowsWorld world channels → MayMove world move → Goes world move channels

-- the world of channels to which a run leads that shows the run of packets
pub record IsRunOf (o : Opening) (moves : List Move) (new : PacketWorld) : Type 0 where
  pub channels : Channels Parcel
  pub run : runs.Run (worlds.start (within o)) (run_moves (start o) moves) (over new channels)
  pub shown : ShowsWorld new channels

-- the opening of that run: it may begin one where that of the packets may, and the reference machine begins alike
pub record BeginsAlike (o : Opening) : Type 0 where
  pub opens : IsOpening (within o)
  pub book : book_of (within o) ≡ book_of o

abbrev pub EachOpensAlike : Type 0
EachOpensAlike = (o : Opening) → IsOpening o → BeginsAlike o

abbrev pub EachRunShown : Type 0
EachRunShown = (o : Opening) (moves : List Move) (new : PacketWorld) → IsOpening o → Run (start o) moves new → IsRunOf o moves new

-- so where every run there is lawful the journal of each run of packets is
abbrev pub EachRunLawful : Type 0
EachRunLawful = ((o : Opening) (moves : List channelled.Move) (new : World) → IsLawfulRun o moves new)
    → (o : Opening) (moves : List Move) (new : PacketWorld) → IsOpening o → Run (start o) moves new → IsLawful (book_of o) new.journal
