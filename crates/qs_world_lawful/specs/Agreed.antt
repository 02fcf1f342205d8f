-- What the agreement protocol gives a step, at each of its stages: that something is not committed yet, that what is counted was sent, and
-- that what is ready at its home is unanimous in the reference machine; and what the invariant of the node gives there.
use Rattle.std.specs.Prelude.{◌≡◌, ℕ, ◌==◌, ◌≤◌, ◌<◌, ⊤, true, false, length, Some, None, nat_lt, if◌then◌else◌}
use Rattle.qs_base.specs.declared.identifiers.ClientNo.{ClientNo}
use Rattle.qs_base.specs.declared.identifiers.NodeNo.{NodeNo}
use Rattle.qs_base.specs.declared.identifiers.Tid.{Tid}
use Rattle.qs_engage.specs.Engage.{peer_of}
use Rattle.qs_engage.specs.Nodes.{listed}
use Rattle.qs_book_machine.specs.Book.{BookValue, find_transaction}
use Rattle.qs_book_machine.specs.Transaction.{TransactionValue, is_unanimous}
use Rattle.qs_packet.specs.declared.message.Message.{Message}
use Rattle.qs_packet.specs.declared.message.Message.TheVariants as messages
use Rattle.qs_node_step.specs.Settling.{due_tids, is_lent, is_pass_due, is_quiet, may_answer, pass_rule, ready_rule, refuse_rule, settle, settle_tid, try}
use Rattle.qs_node_step.specs.State.{NodeValue, Work, doings_of}
use Rattle.qs_node_step.specs.Step.{wait_on, waiting_clients}
use Rattle.qs_node_step.specs.declared.event.Event.{Event}
use Rattle.qs_node_step.specs.declared.event.Event.TheVariants as events
use Rattle.qs_tm.specs.Manager as tm
use Rattle.qs_tm.specs.Participant.{is_forgotten, is_undecided, needs_pass}
use Rattle.qs_tm.specs.declared.participant.Participant.{Participant}
use Rattle.qs_world_walk.specs.Walked.{AtEach, done_work}
use Rattle.qs_world_lawful.specs.Beside.{is_committed_at}
use Rattle.qs_world_lawful.specs.Entering.{book_at}
use Rattle.qs_world_lawful.specs.GivenStep.{first_work}

-- ---- what all nodes have: node n is in the middle of a step, the others stand as they are

abbrev pub node_in : (ℕ → NodeValue) → ℕ → Work → ℕ → NodeValue
node_in nodes n work k = if k == n then work.node else nodes k

-- its home is in the run, and has not committed it
pub record IsUndone (size : ℕ) (nodes : ℕ → NodeValue) (n : ℕ) (work : Work) (tid : Tid) : Type 0 where
  pub in_run : nat_lt tid.home.0 size ≡ true
  pub undone : is_committed_at (node_in nodes n work tid.home.0) tid ≡ false

-- ---- what comes

-- so many requests went to that node, of what is undecided; what answers for requests of what is decided counts for nothing
abbrev pub WasSent : Work → NodeNo → Tid → ℕ → Type 0
WasSent work peer tid up_to = (part : Participant) → tm.part_of tid work.node.manager ≡ Some part → is_undecided part ≡ true → up_to ≤ (peer_of part.engage peer).sent

-- what is lent here is known, and not committed
abbrev pub AreLentUndone : ℕ → (ℕ → NodeValue) → ℕ → Work → Type 0
AreLentUndone size nodes n work = (tid : Tid) → is_lent tid work.node ≡ true → (tm.knows tid work.node.manager ≡ true) × IsUndone size nodes n work tid

abbrev pub AgreesMessage : ℕ → (ℕ → NodeValue) → ℕ → Work → NodeNo → Message → Type 0
AgreesMessage size nodes n work peer (messages.Request tid label member number issuer op) = IsUndone size nodes n work tid
AgreesMessage size nodes n work peer (messages.Covered tid up_to) = WasSent work peer tid up_to
AgreesMessage size nodes n work peer (messages.VotedYes tid up_to told) = WasSent work peer tid up_to
AgreesMessage size nodes n work peer message = ⊤

abbrev pub AgreesEvent : ℕ → (ℕ → NodeValue) → ℕ → Work → Event → Type 0
AgreesEvent size nodes n work (events.Command client line label command) = AreLentUndone size nodes n work
AgreesEvent size nodes n work (events.Received peer message) = AgreesMessage size nodes n work peer message
AgreesEvent size nodes n work event = ⊤

-- ---- settling

-- nothing is due of it here, and nothing was sent
pub record IsIdle (part : Participant) : Type 0 where
  pub due : needs_pass part ≡ false
  pub unsent : (peer : NodeNo) → (peer_of part.engage peer).sent ≡ 0

-- what the invariant of the node gives: a home's told set names nodes of the run, and not the home; and what is forgotten is idle
pub record NodeGives (work : Work) (tid : Tid) : Type 0 where
  pub told : (part : Participant) → tm.part_of tid (try tid pass_rule work).node.manager ≡ Some part → part.engage.home ≡ true → length (listed part.told) < (try tid pass_rule work).node.setting.nodes
  pub idle : (part : Participant) → tm.part_of tid (try tid refuse_rule (try tid ready_rule (try tid pass_rule work))).node.manager ≡ Some part → is_forgotten part ≡ true → IsIdle part

pub record AgreementGives (stamp : ℕ) (before : BookValue) (size : ℕ) (nodes : ℕ → NodeValue) (n : ℕ) (work : Work) (tid : Tid) : Type 0 where
  pub passes : (part : Participant) → tm.part_of tid work.node.manager ≡ Some part → is_pass_due tid part work ≡ true → IsUndone size nodes n work tid
  pub commits : (part : Participant) → tm.part_of tid (try tid pass_rule work).node.manager ≡ Some part → part.outcome ≡ None → part.engage.home ≡ true → may_answer tid part (try tid pass_rule work) ≡ true
      → is_quiet (doings_of tid (try tid pass_rule work)) ≡ true → (tx : TransactionValue) → find_transaction (book_at stamp before (try tid pass_rule work)) tid ≡ Some tx → is_unanimous tx ≡ true
  pub alone : NodeGives work tid

-- ---- the step, stage by stage

pub record StepAgrees (stamp : ℕ) (before : BookValue) (size : ℕ) (nodes : ℕ → NodeValue) (n : ℕ) (node : NodeValue) (event : Event) (free : ℕ) : Type 0 where
  pub comes : AgreesEvent size nodes n (first_work node free) event
  pub settles : AtEach (AgreementGives stamp before size nodes n) settle_tid (done_work node event free) (due_tids (done_work node event free))
  pub waits : AtEach (λ (work : Work) (client : ClientNo). AreLentUndone size nodes n work) wait_on (settle (done_work node event free)) (waiting_clients (settle (done_work node event free)))
