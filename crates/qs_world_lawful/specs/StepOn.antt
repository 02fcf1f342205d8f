-- A whole step of a node of a run, from what stands of the node before it, and from what it is given.
use Rattle.std.specs.Prelude.{◌≡◌, ℕ}
use Rattle.qs_ipc.specs.Ipc as ipc
use Rattle.qs_book_machine.specs.Book.{BookValue}
use Rattle.qs_node_step.specs.Serving.{serve_next}
use Rattle.qs_node_step.specs.Settling.{due_tids, settle_tid}
use Rattle.qs_node_step.specs.State.{NodeValue, work_on}
use Rattle.qs_node_step.specs.declared.event.Event.{Event}
use Rattle.qs_node_step.specs.declared.event.Event.TheVariants as events
use Rattle.qs_world_walk.specs.Walked.{AtEach, done_work}
use Rattle.qs_world_lawful.specs.Agreed.{StepAgrees}
use Rattle.qs_world_lawful.specs.Amid.{InRun}
use Rattle.qs_world_lawful.specs.Beside.{HoldsBeside}
use Rattle.qs_world_lawful.specs.BesideStep.{AreCommitted, HappensSo, HasCountRoom}
use Rattle.qs_world_lawful.specs.Coming.{ComesTo}
use Rattle.qs_world_lawful.specs.GivenStep.{first_work}
use Rattle.qs_world_lawful.specs.Holds.{Holds}
use Rattle.qs_world_lawful.specs.NodeFacts.{HasNodeFacts}
use Rattle.qs_world_lawful.specs.Standing.{CanCount, HoldsHomes}

pub record StepOn (stamp : ℕ) (before : BookValue) (size : ℕ) (nodes : ℕ → NodeValue) (n : ℕ) (node : NodeValue) (event : Event) (free : ℕ) : Type 0 where
  pub at : node.setting.node.0 ≡ n
  pub run : node.setting.nodes ≡ size
  pub facts : HasNodeFacts node
  pub homes : HoldsHomes before size nodes n
  pub in_run : InRun before
  pub beside : HoldsBeside before node
  pub holds : Holds stamp before node
  pub logged : AreCommitted before node
  pub comes : ComesTo before event (work_on node free)
  pub room : event ≡ events.ServeAll → AtEach CanCount serve_next (first_work node free) (ipc.turns (first_work node free).node.queues)
  pub so : HappensSo stamp before event (first_work node free)
  pub agreed : StepAgrees stamp before size nodes n node event free
  pub rooms : AtEach HasCountRoom settle_tid (done_work node event free) (due_tids (done_work node event free))
