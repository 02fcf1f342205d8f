-- The laws of what a whole step of a node leaves as it is: between steps what a home has not decided is younger than the age limit, and what the log said as the node opened stays.
use Rattle.std.specs.Prelude.{◌≡◌, ◌+◌, ◌≤◌, ◌<◌, ◌^◌, ℕ}
use Rattle.qs_node_step.specs.Step.{after_step}
use Rattle.qs_node_step.specs.declared.event.Event.{Event}
use Rattle.qs_world.specs.Moves.{Source}
use Rattle.qs_world.specs.World.{World}
use Rattle.qs_world_refine.specs.ShownWorlds.{IsShownWorld}
use Rattle.qs_world_lawful.specs.NodeFacts.{AreYoung, HasNodeFacts}
use Rattle.qs_world_runs.specs.Agrees.{MakesStep}

abbrev pub StepsYoung : Type 0
StepsYoung = (world : World) (n stamp free : ℕ) (source : Source) (event : Event) → IsShownWorld world → MakesStep world n stamp source event → HasNodeFacts (world.hosts n).node → (world.hosts n).node.manager.ticks < 2 ^ 62
    → AreYoung (world.hosts n).node → AreYoung (after_step (world.hosts n).node event free)

abbrev pub StepsKeepLogged : Type 0
StepsKeepLogged = (world : World) (n stamp free : ℕ) (source : Source) (event : Event) → IsShownWorld world → MakesStep world n stamp source event → HasNodeFacts (world.hosts n).node
    → (after_step (world.hosts n).node event free).committed ≡ (world.hosts n).node.committed

-- its clock moves by one tick at most
abbrev pub StepsTickOnce : Type 0
StepsTickOnce = (world : World) (n stamp free : ℕ) (source : Source) (event : Event) → IsShownWorld world → MakesStep world n stamp source event → HasNodeFacts (world.hosts n).node → (world.hosts n).node.manager.ticks < 2 ^ 62
    → AreYoung (world.hosts n).node → (after_step (world.hosts n).node event free).manager.ticks ≤ (world.hosts n).node.manager.ticks + 1
