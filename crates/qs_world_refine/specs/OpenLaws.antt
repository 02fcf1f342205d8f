-- The commands that are open in a world go to nodes of the run, so that what a step asks of them it need not be asked.
use Rattle.std.specs.Prelude.{◌≡◌, ℕ, ◌<◌, ⊤, true, Option, Some, None, nat_lt}
use Rattle.qs_restart.specs.Recovery.{recovery}
use Rattle.qs_node_step.specs.declared.event.Event.{Event}
use Rattle.qs_world.specs.World.{Opening, World, start}
use Rattle.qs_world.specs.Moves.{Move, Step, Cut, Stop, Rise, Meet, event_of, may_move, moved}
use Rattle.qs_world_refine.specs.SaidLaws.{MayMoveOver}
use Rattle.qs_world_refine.specs.Sound.{may_take_up, kept_before}
use Rattle.qs_world_refine.specs.SoundMoves.{AreSound, MayMove}
use Rattle.qs_world_refine.specs.SoundSteps.{MayHappen, commands_in_run, begun}

abbrev pub AreOpenInRun : World → Type 0
AreOpenInRun world = (n : ℕ) → n < world.size → commands_in_run (world.hosts n).node ≡ true

-- what comes may come
abbrev pub MayComeAt : World → ℕ → ℕ → Option Event → Type 0
MayComeAt world n free None = ⊤
MayComeAt world n free (Some event) = MayHappen event (begun (world.hosts n).node free)

-- what is left to ask of a move
abbrev pub MayCome : World → Move → Type 0
MayCome world (Step n stamp free source) = MayComeAt world n free (event_of world n stamp source)
MayCome world (Cut n stamp free source is_kept cause) = ⊤
MayCome world (Stop n stamp cause) = ⊤
MayCome world (Rise n stamp inc) =
    (nat_lt (world.hosts n).node.setting.inc inc ≡ true)
    × ((may_take_up (world.hosts n).node.setting.node (recovery (world.hosts n).log) ≡ true) × (kept_before (world.hosts n).node.setting.node inc (world.hosts n).node.kept.saved ≡ true))
MayCome world (Meet n stamp m inc) = ⊤

-- so it is where a world begins, and after each move, which may be made then
abbrev pub StartOpen : Type 0
StartOpen = (o : Opening) → AreOpenInRun (start o)

abbrev pub MoveMay : Type 0
MoveMay = (world : World) (move : Move) → may_move world move ≡ true → MayCome world move → MayMoveOver world move → AreSound world → AreOpenInRun world → MayMove world move

abbrev pub MoveOpen : Type 0
MoveOpen = (world : World) (move : Move) → may_move world move ≡ true → MayCome world move → MayMoveOver world move → AreSound world → AreOpenInRun world → AreOpenInRun (moved move world)
