-- A whole step of a node of a run: what stands as its event comes, what the protocol gives at each stage, and that its rules keep what stands.
use Rattle.std.specs.Prelude.{◌≡◌, ℕ}
use Rattle.qs_book_machine.specs.Book.{BookValue}
use Rattle.qs_node_step.specs.Settling.{due_tids, settle_tid}
use Rattle.qs_node_step.specs.State.{NodeValue}
use Rattle.qs_node_step.specs.Step.{happen}
use Rattle.qs_node_step.specs.declared.event.Event.{Event}
use Rattle.qs_node_step.specs.declared.event.Event.TheVariants as events
use Rattle.qs_world_walk.specs.Walked.{AtEach, done_work}
use Rattle.qs_world_lawful.specs.Agreed.{StepAgrees}
use Rattle.qs_world_lawful.specs.BesideStep.{HasCountRoom}
use Rattle.qs_world_lawful.specs.Coming.{ComesTo}
use Rattle.qs_world_lawful.specs.Entering.{book_at}
use Rattle.qs_world_lawful.specs.GivenStep.{MayAge, first_work, tick_work}
use Rattle.qs_world_lawful.specs.Standing.{GoesOn, KeepsStanding, Stands}

pub record StepStands (stamp : ℕ) (before : BookValue) (size : ℕ) (nodes : ℕ → NodeValue) (n : ℕ) (node : NodeValue) (event : Event) (free : ℕ) : Type 0 where
  pub rules : KeepsStanding stamp before size nodes n
  pub happens : ComesTo (book_at stamp before (first_work node free)) event (first_work node free) → GoesOn stamp before size nodes n (first_work node free) (happen event (first_work node free))
  pub first : Stands stamp before size nodes n (first_work node free)
  pub comes : ComesTo (book_at stamp before (first_work node free)) event (first_work node free)
  pub ages : event ≡ events.Tick → MayAge stamp before (first_work node free).node.setting.age (tick_work (first_work node free))  -- what is that old the machine finds that old
  pub agreed : StepAgrees stamp before size nodes n node event free
  pub rooms : AtEach HasCountRoom settle_tid (done_work node event free) (due_tids (done_work node event free))
