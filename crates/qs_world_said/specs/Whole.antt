-- What a lawful step keeps of the clients of its node, all of it: they are on the course, names stand, and what stays in hand is open still.
use Rattle.std.specs.Prelude.{ℕ, None}
use Rattle.qs_book_conformance.specs.Course.{CourseValue}
use Rattle.qs_node_step.specs.State.{NodeValue}
use Rattle.qs_node_step.specs.Step.{after_step}
use Rattle.qs_node_step.specs.declared.event.Event.{Event}
use Rattle.qs_world_course.specs.Kinds.{Keeps, course_on, said}
use Rattle.qs_world_course.specs.Worlds.{HoldsOpen}
use Rattle.qs_world_lawful.specs.GivenStep.{first_work}
use Rattle.qs_world_lawful.specs.StepKeeps.{entered_by}
use Rattle.qs_world_lawful.specs.StepOn.{StepOn}
use Rattle.qs_world_said.specs.Amid.{AreAmid, clients_at}
use Rattle.qs_world_said.specs.Hands.{ComesAs, Owns}
use Rattle.qs_world_said.specs.Labels.{TellsItsLabel}
use Rattle.qs_world_said.specs.Naming.{NamesStand}
use Rattle.qs_world_said.specs.NamingStep.{IsGiven}

-- between steps
pub record ClientsStand (own : Owns) (course : CourseValue) (node : NodeValue) : Type 0 where
  pub amid : AreAmid course (clients_at node) None
  pub names : NamesStand own course node

pub record StepLeaves (own : Owns) (stamp : ℕ) (before : CourseValue) (node : NodeValue) (event : Event) (free : ℕ) : Type 0 where
  pub keeps : Keeps said before (entered_by stamp node event free)
  pub stand : ClientsStand own (course_on before (entered_by stamp node event free)) (after_step node event free)
  pub opens : HoldsOpen (after_step node event free)

-- what comes is said as scripts say it and tells its label, and it is known of it what hangs on more than this node
abbrev pub LawfulStepLeaves : Type 0
LawfulStepLeaves = (own : Owns) (stamp : ℕ) (before : CourseValue) (size : ℕ) (nodes : ℕ → NodeValue) (n : ℕ) (node : NodeValue) (event : Event) (free : ℕ) → StepOn stamp before.book size nodes n node event free
    → ComesAs own node event → TellsItsLabel before.book event → IsGiven stamp before event (first_work node free) → ClientsStand own before node → StepLeaves own stamp before node event free
