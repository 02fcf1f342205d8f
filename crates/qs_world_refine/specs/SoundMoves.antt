-- Moves of the world that leave its nodes sound, and what that asks of a move.
use Rattle.std.specs.Prelude.{◌≡◌, ℕ, ◌<◌, ⊤, true, Option, Some, None, nat_lt}
use Rattle.qs_restart.specs.Recovery.{recovery}
use Rattle.qs_node_step.specs.declared.event.Event.{Event}
use Rattle.qs_world.specs.World.{World}
use Rattle.qs_world.specs.Moves.{Move, Step, Cut, Stop, Rise, Meet, event_of, moved}
use Rattle.qs_world_refine.specs.Sound.{is_sound, may_take_up, kept_before}
use Rattle.qs_world_refine.specs.SoundSteps.{MayHappen, commands_in_run, begun, settled}

-- every node of the run
abbrev pub AreSound : World → Type 0
AreSound world = (n : ℕ) → n < world.size → is_sound (world.hosts n).node ≡ true

-- what comes may come, and what stays open goes to nodes of the run
abbrev pub MayStep : World → ℕ → ℕ → Option Event → Type 0
MayStep world n free None = ⊤
MayStep world n free (Some event) = MayHappen event (begun (world.hosts n).node free) × (commands_in_run (settled (world.hosts n).node event free).node ≡ true)

-- a step may be made; and a node restarts in a later incarnation, over a log that it can take up, with what it kept before
abbrev pub MayMove : World → Move → Type 0
MayMove world (Step n stamp free source) = MayStep world n free (event_of world n stamp source)
MayMove world (Cut n stamp free source is_kept cause) = ⊤
MayMove world (Stop n stamp cause) = ⊤
MayMove world (Rise n stamp inc) =
    (nat_lt (world.hosts n).node.setting.inc inc ≡ true)
    × ((may_take_up (world.hosts n).node.setting.node (recovery (world.hosts n).log) ≡ true) × (kept_before (world.hosts n).node.setting.node inc (world.hosts n).node.kept.saved ≡ true))
MayMove world (Meet n stamp m inc) = ⊤

abbrev pub MoveSound : Type 0
MoveSound = (world : World) (move : Move) → MayMove world move → AreSound world → AreSound (moved move world)
