-- What a node keeps of names is told of the machine after a step too, as it was before it.
use Rattle.std.specs.Prelude.{ℕ}
use Rattle.qs_book_machine.specs.Lawful.{IsLawful}
use Rattle.qs_book_conformance.specs.Course.{CourseValue}
use Rattle.qs_node_step.specs.State.{NodeValue}
use Rattle.qs_node_step.specs.Step.{after_step}
use Rattle.qs_node_step.specs.declared.event.Event.{Event}
use Rattle.qs_world_course.specs.Kinds.{course_on}
use Rattle.qs_world_course.specs.Worlds.{HoldsNames}
use Rattle.qs_world_lawful.specs.Amid.{InRun}
use Rattle.qs_world_lawful.specs.StepKeeps.{entered_by}
use Rattle.qs_world_said.specs.Labels.{TellsItsLabel}

abbrev pub StepKeepsNames : Type 0
StepKeepsNames = (stamp : ℕ) (before : CourseValue) (node : NodeValue) (event : Event) (free : ℕ) → InRun before.book → IsLawful before.book (entered_by stamp node event free) → TellsItsLabel before.book event → HoldsNames before.book node.kept.now
    → HoldsNames (course_on before (entered_by stamp node event free)).book (after_step node event free).kept.saved
