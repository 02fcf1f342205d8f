-- The logs that a run of packets leaves stand together, as those of a run of the world of channels: another run may begin over them, with later
-- incarnations of its nodes.
use Rattle.std.specs.Prelude.{◌≡◌, ℕ, ◌<◌, true, List}
use Rattle.std.specs.Global.{Global}
use Rattle.qs_record.specs.declared.record.Record.{Record}
use Rattle.qs_world.specs.Moves.{client_count}
use Rattle.qs_world.specs.Openings.{IsOpening, all_labels, are_apart, each_below, is_script, is_setting}
use Rattle.qs_world.specs.World.{Opening}
use Rattle.qs_world_opening.specs.Coherent.{AreCoherentLogs}
use Rattle.qs_world_packets.specs.PacketMoves.{Move}
use Rattle.qs_world_packets.specs.PacketRuns.{Run}
use Rattle.qs_world_packets.specs.PacketWorld.{PacketWorld, start}

-- ---- of each node its log, whether it runs or not, and an incarnation above its last

pub record AreLeft (world : PacketWorld) (incs : ℕ → ℕ) (logs : ℕ → List Record) : Type 0 where
  pub same : (n : ℕ) → n < world.size → logs n ≡ (world.hosts n).log
  pub later : (n : ℕ) → n < world.size → world.network.inc n < incs n

-- what begins there: settings, scripts and labels that a run may begin with
pub record IsNextOpening (world : PacketWorld) (next : Opening) : Type 0 where
  pub size : next.size ≡ world.size
  pub left : AreLeft world (λ n. (next.settings n).inc) next.logs
  pub settings : each_below next.size (λ n. is_setting next.size n (next.settings n)) ≡ true
  pub scripts : each_below client_count (λ k. is_script next.size k (next.clients k)) ≡ true
  pub labels : are_apart (all_labels next) ≡ true

-- ---- the laws

abbrev pub EachRunCoherent : Type 0
EachRunCoherent = (o : Opening) (moves : List Move) (world : PacketWorld) (next : Opening) → IsOpening o → Run (start o) moves world → IsNextOpening world next → IsOpening next

-- so the logs are coherent, whatever begins there
abbrev pub EachRunLeavesCoherent : Type 0
EachRunLeavesCoherent = (o : Opening) (moves : List Move) (world : PacketWorld) (alloc : Global) (incs : ℕ → ℕ) (logs : ℕ → List Record) → IsOpening o → Run (start o) moves world → AreLeft world incs logs
    → AreCoherentLogs alloc world.size incs logs
