-- The other way round: each run of all nodes is the merge of local runs, so these leave out nothing.
use Rattle.std.specs.Prelude.{◌≡◌, ℕ, ⊤, List, [], ◌∷◌}
use Rattle.qs_world.specs.World.{Opening}
use Rattle.qs_world_packets.specs.PacketMoves.{moved}
use Rattle.qs_world_packets.specs.PacketRuns.{Run}
use Rattle.qs_world_packets.specs.PacketWorld.{PacketWorld, start}
use Rattle.qs_world_merge.specs.LocalRuns.{AnswersOwn, IsMadeAt, TimedMove, client_at, event_in}
use Rattle.qs_world_merge.specs.MergedByKey.{InKeyOrder}
use Rattle.qs_world_merge.specs.MergedRuns.{AreLocalRuns, move_key, untimed}

-- each move is told with its stamp and its event, and answers clients of its node alone
abbrev pub AreTimed : (ℕ → ℕ) → PacketWorld → List TimedMove → Type 0
AreTimed clients_at world [] = ⊤
AreTimed clients_at world (t ∷ ts) = IsMadeAt t.stamp t.move × (event_in world t.move ≡ t.event) × AnswersOwn clients_at world t.move × AreTimed clients_at (moved t.move world) ts

pub record IsMergeOfLocalRuns (o : Opening) (merged : List TimedMove) : Type 0 where
  pub ends : ℕ → PacketWorld
  pub local : AreLocalRuns o merged ends

abbrev pub EachRunSplits : Type 0
EachRunSplits = (o : Opening) (merged : List TimedMove) (world : PacketWorld) → InKeyOrder move_key o.size (0, 0) merged → AreTimed (client_at o) (start o) merged → Run (start o) (untimed merged) world → IsMergeOfLocalRuns o merged
