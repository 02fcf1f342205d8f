-- What is left to show that the rules of a step keep what stands: what the machine has beside the node. All else stands by itself.
use Rattle.std.specs.Prelude.{◌≡◌, ℕ}
use Rattle.qs_base.specs.declared.identifiers.ClientNo.{ClientNo}
use Rattle.qs_base.specs.declared.identifiers.ServerNo.{ServerNo}
use Rattle.qs_base.specs.declared.identifiers.Tid.{Tid}
use Rattle.qs_book_machine.specs.Book.{BookValue}
use Rattle.qs_node_step.specs.Serving.{serve_next}
use Rattle.qs_node_step.specs.Settling.{due_tids, forget_rule, pass_rule, ready_rule, refuse_rule, settle_tid, try}
use Rattle.qs_node_step.specs.State.{NodeValue, Work}
use Rattle.qs_node_step.specs.Step.{happen, wait_on}
use Rattle.qs_node_step.specs.declared.event.Event.{Event}
use Rattle.qs_node_step.specs.declared.event.Event.TheVariants as events
use Rattle.qs_world_walk.specs.Walked.{AtEach, done_work}
use Rattle.qs_world_lawful.specs.Agreed.{StepAgrees}
use Rattle.qs_world_lawful.specs.Beside.{HoldsBeside}
use Rattle.qs_world_lawful.specs.BesideStep.{HasCountRoom, PassesSo}
use Rattle.qs_world_lawful.specs.Coming.{ComesTo}
use Rattle.qs_world_lawful.specs.Entering.{HoldsWork, book_at}
use Rattle.qs_world_lawful.specs.GivenStep.{MayAge, first_work, tick_work}
use Rattle.qs_world_lawful.specs.NodeFacts.{FitsEvent, HasNodeFacts}
use Rattle.qs_world_lawful.specs.Standing.{CanCount, HoldsHomes, Stands}

abbrev pub BesideOn : ℕ → BookValue → ℕ → (ℕ → NodeValue) → ℕ → Work → Work → Type 0
BesideOn stamp before size nodes n old new = Stands stamp before size nodes n old → HoldsWork stamp before new → HoldsBeside (book_at stamp before new) new.node

pub record KeepsBeside (stamp : ℕ) (before : BookValue) (size : ℕ) (nodes : ℕ → NodeValue) (n : ℕ) : Type 0 where
  pub passes : (work : Work) (tid : Tid) → PassesSo stamp before work tid → BesideOn stamp before size nodes n work (try tid pass_rule work)
  pub readies : (work : Work) (tid : Tid) → BesideOn stamp before size nodes n work (try tid ready_rule work)
  pub refuses : (work : Work) (tid : Tid) → BesideOn stamp before size nodes n work (try tid refuse_rule work)
  pub forgets : (work : Work) (tid : Tid) → BesideOn stamp before size nodes n work (try tid forget_rule work)
  pub serves : (work : Work) (server : ServerNo) → CanCount work server → BesideOn stamp before size nodes n work (serve_next work server)
  pub waits : (work : Work) (client : ClientNo) → BesideOn stamp before size nodes n work (wait_on work client)

-- ---- the whole step: as StepStands, over what stands of the node before it

pub record StepBeside (stamp : ℕ) (before : BookValue) (size : ℕ) (nodes : ℕ → NodeValue) (n : ℕ) (node : NodeValue) (event : Event) (free : ℕ) : Type 0 where
  pub at : node.setting.node.0 ≡ n
  pub run : node.setting.nodes ≡ size
  pub facts : HasNodeFacts node
  pub fits : FitsEvent node.setting event
  pub homes : HoldsHomes before size nodes n
  pub held : HoldsWork stamp before (first_work node free)
  pub beside : HoldsBeside (book_at stamp before (first_work node free)) (first_work node free).node
  pub rules : KeepsBeside stamp before size nodes n
  pub happens : ComesTo (book_at stamp before (first_work node free)) event (first_work node free) → BesideOn stamp before size nodes n (first_work node free) (happen event (first_work node free))
  pub comes : ComesTo (book_at stamp before (first_work node free)) event (first_work node free)
  pub ages : event ≡ events.Tick → MayAge stamp before (first_work node free).node.setting.age (tick_work (first_work node free))
  pub agreed : StepAgrees stamp before size nodes n node event free
  pub rooms : AtEach HasCountRoom settle_tid (done_work node event free) (due_tids (done_work node event free))
