-- In a world whose transactions are shown, a step that a node may make leaves what it is to leave.
use Rattle.qs_world_runs.proofs.Words.{◌≡◌, ◌<◌, ◌^◌, ℕ, Event, Source, World, IsShownWorld, first_work, HasNodeFacts, step_same, MakesStep}
use Rattle.qs_world_lawful.specs.NodeFacts.{AreYoung}
use Rattle.qs_world_runs.specs.StaysLaws.{StepsKeepLogged, StepsTickOnce, StepsYoung}
use Rattle.qs_world_runs.proofs.AgreesEach.{fit, gives, low, up}
use Rattle.qs_world_runs.proofs.StaysSteps.{first_ticks, step_committed, step_ticks, step_young}

pub steps_young : StepsYoung
steps_young world n stamp free source event is makes facts room young =
    step_young world is.steady n free (low world is n stamp free source event makes) (up world is n stamp free source event makes) facts room young event (fit world is n stamp free source event makes) (gives world is n stamp free source event makes) (step_same (world.hosts n).node event free)

pub steps_keep_logged : StepsKeepLogged
steps_keep_logged world n stamp free source event is makes facts =
    step_committed world is.steady n free (low world is n stamp free source event makes) (up world is n stamp free source event makes) facts event (fit world is n stamp free source event makes) (gives world is n stamp free source event makes)

pub steps_tick_once : StepsTickOnce
steps_tick_once world n stamp free source event is makes facts room young =
    step_ticks world is.steady n free (low world is n stamp free source event makes) (up world is n stamp free source event makes) facts room young event (fit world is n stamp free source event makes) (gives world is n stamp free source event makes)

-- its first step of an incarnation leaves the clock
pub first_on_time : (world : World) (n stamp free : ℕ) (source : Source) (event : Event) → IsShownWorld world → MakesStep world n stamp source event → HasNodeFacts (world.hosts n).node → (world.hosts n).node.manager.ticks < 2 ^ 62 → AreYoung (world.hosts n).node
    → (first_work (world.hosts n).node free).node.manager.ticks ≡ (world.hosts n).node.manager.ticks
first_on_time world n stamp free source event is makes facts room young = first_ticks world is.steady n free (low world is n stamp free source event makes) (up world is n stamp free source event makes) facts room young
