-- What stays in hand as a step ends is open still: each command that stayed open is looked at again.
use Rattle.std.specs.Prelude.{ℕ}
use Rattle.qs_book_conformance.specs.Course.{CourseValue}
use Rattle.qs_node_step.specs.State.{NodeValue}
use Rattle.qs_node_step.specs.Step.{after_step}
use Rattle.qs_node_step.specs.declared.event.Event.{Event}
use Rattle.qs_world_course.specs.Worlds.{HoldsOpen}
use Rattle.qs_world_lawful.specs.StepOn.{StepOn}
use Rattle.qs_world_said.specs.Knows.{KnowsAtStage, KnowsNames}
use Rattle.qs_world_said.specs.Steps.{KnowsStep}

abbrev pub StepLeavesOpen : Type 0
StepLeavesOpen = (stamp : ℕ) (before : CourseValue) (node : NodeValue) (event : Event) (free : ℕ) → KnowsStep KnowsAtStage stamp before node event free → HoldsOpen (after_step node event free)

abbrev pub LawfulStepLeavesOpen : Type 0
LawfulStepLeavesOpen = (stamp : ℕ) (before : CourseValue) (size : ℕ) (nodes : ℕ → NodeValue) (n : ℕ) (node : NodeValue) (event : Event) (free : ℕ) → StepOn stamp before.book size nodes n node event free
    → KnowsStep KnowsNames stamp before node event free → HoldsOpen (after_step node event free)
