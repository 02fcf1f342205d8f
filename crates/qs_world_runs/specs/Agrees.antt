-- What the agreement machine gives a step of a node, at each of its stages, in terms of the nodes alone.
use Rattle.std.specs.Prelude.{◌≡◌, ℕ, true, Some}
use Rattle.qs_base.specs.declared.identifiers.ClientNo.{ClientNo}
use Rattle.qs_base.specs.declared.identifiers.Tid.{Tid}
use Rattle.qs_node_step.specs.Settling.{due_tids, is_pass_due, settle, settle_tid}
use Rattle.qs_node_step.specs.State.{NodeValue, Work}
use Rattle.qs_node_step.specs.Step.{wait_on, waiting_clients}
use Rattle.qs_node_step.specs.declared.event.Event.{Event}
use Rattle.qs_tm.specs.Manager as tm
use Rattle.qs_tm.specs.declared.participant.Participant.{Participant}
use Rattle.qs_world.specs.Moves.{Source, event_of, may_step}
use Rattle.qs_world.specs.World.{World}
use Rattle.qs_world_walk.specs.Walked.{AtEach, done_work}
use Rattle.qs_world_refine.specs.ShownWorlds.{IsShownWorld}
use Rattle.qs_world_refine.specs.Sound.{is_sound}
use Rattle.qs_world_lawful.specs.Agreed.{AgreesEvent, AreLentUndone, IsUndone, NodeGives}
use Rattle.qs_world_lawful.specs.GivenStep.{first_work}

abbrev pub nodes_in : World → ℕ → NodeValue
nodes_in world k = (world.hosts k).node

-- a step that may be made, with what comes in it
pub record MakesStep (world : World) (n stamp : ℕ) (source : Source) (event : Event) : Type 0 where
  pub may : may_step world n stamp source ≡ true
  pub comes : event_of world n stamp source ≡ Some event

-- ---- what comes: a request is of what is not committed, and what answers for requests of what is not decided here answers for some that were sent

abbrev pub EventAgrees : Type 0
EventAgrees = (world : World) (n stamp free : ℕ) (source : Source) (event : Event) → IsShownWorld world → MakesStep world n stamp source event
    → AgreesEvent world.size (nodes_in world) n (first_work (world.hosts n).node free) event

-- ---- settling: where a vote or an ending is due, nothing is committed

abbrev pub PassesUndone : ℕ → (ℕ → NodeValue) → ℕ → Work → Tid → Type 0
PassesUndone size nodes n work tid = (part : Participant) → tm.part_of tid work.node.manager ≡ Some part → is_pass_due tid part work ≡ true → IsUndone size nodes n work tid

abbrev pub PassesAgree : Type 0
PassesAgree = (world : World) (n stamp free : ℕ) (source : Source) (event : Event) → IsShownWorld world → MakesStep world n stamp source event
    → AtEach (PassesUndone world.size (nodes_in world) n) settle_tid (done_work (world.hosts n).node event free) (due_tids (done_work (world.hosts n).node event free))

-- ---- commands that stayed open: what is lent here is not committed

abbrev pub WaitsAgree : Type 0
WaitsAgree = (world : World) (n stamp free : ℕ) (source : Source) (event : Event) → IsShownWorld world → MakesStep world n stamp source event
    → AtEach (λ (work : Work) (client : ClientNo). AreLentUndone world.size (nodes_in world) n work) wait_on (settle (done_work (world.hosts n).node event free)) (waiting_clients (settle (done_work (world.hosts n).node event free)))

-- ---- at each stage the invariant of the node holds

pub record SoundStages (node : NodeValue) (event : Event) (free : ℕ) : Type 0 where
  pub first : is_sound (first_work node free).node ≡ true
  pub done : is_sound (done_work node event free).node ≡ true
  pub settles : AtEach (λ (work : Work) (tid : Tid). is_sound work.node ≡ true) settle_tid (done_work node event free) (due_tids (done_work node event free))
  pub waits : AtEach (λ (work : Work) (client : ClientNo). is_sound work.node ≡ true) wait_on (settle (done_work node event free)) (waiting_clients (settle (done_work node event free)))

abbrev pub StagesSound : Type 0
StagesSound = (world : World) (n stamp free : ℕ) (source : Source) (event : Event) → IsShownWorld world → MakesStep world n stamp source event → SoundStages (world.hosts n).node event free

-- and it gives what a step asks of the node by itself
abbrev pub SoundGives : Type 0
SoundGives = (work : Work) (tid : Tid) → is_sound work.node ≡ true → NodeGives work tid
