-- Runs of the world over packets: one move after another, each where it may be.
use Rattle.std.specs.Prelude.{◌≡◌, List, [], ◌∷◌}
use Rattle.qs_world_packets.specs.PacketMoves.{Move, MayMove, moved}
use Rattle.qs_world_packets.specs.PacketWorld.{PacketWorld}

abbrev pub Run : PacketWorld → List Move → PacketWorld → Type 0
Run old [] new = new ≡ old
Run old (move ∷ moves) new = MayMove old move × Run (moved move old) moves new
