-- A step of a node of a steady world that begins no transaction leaves it tidy, with as many numbers given as before.
use Rattle.qs_world_refine.proofs.Words.{◌≡◌, ℕ, ◌<◌, Bool, true, false, happen, step_work, Work, work_on, is_sound, begun, IsSteadyWorld, MachineGives, Stage, IsStage, IsTidy, begins_one}
use Rattle.qs_node_step.specs.declared.event.Event.{Event}
use Rattle.qs_node_step.specs.declared.event.Event.TheVariants as events
use Rattle.qs_world.specs.World.{World}
use Rattle.qs_world_refine.specs.Walks.{MayStepOn}
use Rattle.qs_world_refine.proofs.SoundHappen.{happen_sound}
use Rattle.qs_world_refine.proofs.SoundRestart.{begin_incarnation_sound}
use Rattle.qs_world_refine.proofs.SteadyBegins.{ComesFit, c, stage, begun_tidy, comes_may, comes_on}
use Rattle.qs_world_refine.proofs.TidyHappens.{MayComeOn, settles_tidy}
use Rattle.qs_world_refine.proofs.TidyKeeps.{tidy_keeps, tidy_ticks}
use Rattle.qs_world_refine.proofs.TidyReads.{tidy_reads}
use Rattle.qs_world_refine.proofs.WalkSteps.{happen_walk, may_tick}

abbrev pub begins_in : Event → Bool
begins_in (events.Command client line label command) = begins_one command
begins_in (events.Received peer message) = false
begins_in events.ServeAll = false
begins_in (events.PeerRestarted peer old new) = false
begins_in events.Tick = false

module _ (s : Stage) (its : IsStage s) where
  pub may_on : (event : Event) → begins_in event ≡ false → MayComeOn s its event → MayStepOn s.past s.begun s.met s.setting.node s.setting.nodes event
  may_on (events.Command client line label command) none may = (may, none)
  may_on (events.Received peer message) none may = may
  may_on events.ServeAll none may = tt
  may_on (events.PeerRestarted peer old new) none may = tt
  may_on events.Tick none may = tt

  happen_still : (event : Event) (work : Work) → begins_in event ≡ false → MayComeOn s its event → IsTidy s work → IsTidy s (happen event work)
  happen_still event work none may t = happen_walk s.past s.begun s.met s.setting.node s.setting.nodes (IsTidy s) (tidy_reads s its) (tidy_keeps s its) event work (may_on event none may) (may_tick (IsTidy s) (tidy_ticks s) event) t

pub step_still : (world : World) (steady : IsSteadyWorld world) (n free : ℕ) (low : n < world.size) (up : world.channels.up n ≡ true) (event : Event) → begins_in event ≡ false → ComesFit world steady n free low up event
    → MachineGives event (begun (world.hosts n).node free) → IsTidy (c world steady n free low up) (step_work (world.hosts n).node event free)
step_still world steady n free low up event none fit gives = settles_tidy (c world steady n free low up) (stage world steady n free low up) (happen event (begun (world.hosts n).node free)) sound
    (happen_still (c world steady n free low up) (stage world steady n free low up) event (begun (world.hosts n).node free) none (comes_on world steady n free low up event fit) (begun_tidy world steady n free low up))
  where
    sound : is_sound (happen event (begun (world.hosts n).node free)).node ≡ true
    sound = happen_sound event (begun (world.hosts n).node free) (comes_may world steady n free low up event fit gives) (begin_incarnation_sound (work_on (world.hosts n).node free) (steady.sound n low).node)
