-- What is open in a world goes to nodes of the run after each move.
use Rattle.qs_world_refine.proofs.Words.{◌≡◌, ℕ, ◌<◌, ◌==◌, Bool, true, false, Option, Some, None, refl, subst, if◌then◌else◌, eqb-true, recovered_of, after_step, effects_of, Cut, Stop, Rise, event_of, step_with, cut_with, stepped_host, stopped_host, risen_host, cut_log, Host, BeginsNewAt, MayStep, commands_in_run}
use Rattle.qs_session_channels.specs.Network.{with_at}
use Rattle.qs_node_step.specs.declared.event.Event.{Event}
use Rattle.qs_world.specs.Moves.{Step, Meet}
use Rattle.qs_world.specs.World.{World}
use Rattle.qs_world_refine.specs.OpenLaws.{AreOpenInRun, MayComeAt, StartOpen, MoveMay, MoveOpen}
use Rattle.qs_world_refine.proofs.MoveGoes.{step_may}
use Rattle.qs_world_refine.proofs.SaidSteps.{step_open}

pub start_open : StartOpen
start_open o n in_run = refl

-- a step that may be made, of a node of the run
pub move_may : MoveMay
move_may world (Step n stamp free source) may comes new sound all = by (event_of world n stamp source) comes new
  where
    in_run : n < world.size
    in_run = (step_may world n stamp source may).low

    by : (o : Option Event) → MayComeAt world n free o → BeginsNewAt world n free o → MayStep world n free o
    by None comes new = tt
    by (Some event) comes new = (comes, (step_open (world.hosts n).node event free comes new (sound n in_run) (all n in_run)).0)
move_may world (Cut n stamp free source is_kept cause) may comes new sound all = tt
move_may world (Stop n stamp cause) may comes new sound all = tt
move_may world (Rise n stamp inc) may comes new sound all = comes
move_may world (Meet n stamp m inc) may comes new sound all = tt

-- one host changes
open_with : (world : World) (n : ℕ) (host : Host) → AreOpenInRun world → (n < world.size → commands_in_run host.node ≡ true) → (m : ℕ) → m < world.size → commands_in_run (with_at world.hosts n host m).node ≡ true
open_with world n host all its m low = by (m == n) refl
  where
    by : (b : Bool) → (m == n) ≡ b → commands_in_run (if b then host else world.hosts m).node ≡ true
    by true same = its (subst (λ (k : ℕ). k < world.size) (eqb-true m n same) low)
    by false apart = all m low

pub move_open : MoveOpen
move_open world (Step n stamp free source) may comes new sound all = by (event_of world n stamp source) comes new
  where
    by : (o : Option Event) → MayComeAt world n free o → BeginsNewAt world n free o → AreOpenInRun (step_with world n stamp free source o)
    by None comes new = all
    by (Some event) comes new = open_with world n (stepped_host stamp (after_step (world.hosts n).node event free) (effects_of (world.hosts n).node event free) (world.hosts n)) all
        (λ low. (step_open (world.hosts n).node event free comes new (sound n low) (all n low)).1)
move_open world (Cut n stamp free source is_kept cause) may comes new sound all = by (event_of world n stamp source)
  where
    by : (o : Option Event) → AreOpenInRun (cut_with world n stamp free is_kept cause o)
    by None = all
    by (Some event) = open_with world n (stopped_host stamp (cut_log (world.hosts n) is_kept (effects_of (world.hosts n).node event free)) (world.hosts n)) all (all n)
move_open world (Stop n stamp cause) may comes new sound all = open_with world n (stopped_host stamp (world.hosts n).log (world.hosts n)) all (all n)
move_open world (Rise n stamp inc) may comes new sound all = open_with world n (risen_host stamp inc (recovered_of (world.hosts n).log) (world.hosts n)) all (λ low. refl)
move_open world (Meet n stamp m inc) may comes new sound all = open_with world n (record (world.hosts n) { stamp = stamp }) all (all n)
