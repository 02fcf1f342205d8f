-- What stands at each stage of a step of one node of a run, and what a step is given by it and by the agreement protocol.
use Rattle.std.specs.Prelude.{◌≡◌, ℕ, ◌==◌, true, false, Some, nat_lt}
use Rattle.qs_base.specs.declared.identifiers.ClientNo.{ClientNo}
use Rattle.qs_base.specs.declared.identifiers.ServerNo.{ServerNo}
use Rattle.qs_base.specs.declared.identifiers.Tid.{Tid}
use Rattle.qs_engage.specs.Engage.{last_number}
use Rattle.qs_ipc.specs.Ipc as ipc
use Rattle.qs_ipc.specs.declared.delivery.Delivery.{Delivery}
use Rattle.qs_book_machine.specs.Book.{BookValue, find_transaction}
use Rattle.qs_book_machine.specs.Transaction.{TransactionValue, is_commit}
use Rattle.qs_node_step.specs.Serving.{serve_next}
use Rattle.qs_node_step.specs.Settling.{forget_rule, pass_rule, ready_rule, refuse_rule, try}
use Rattle.qs_node_step.specs.State.{NodeValue, Work}
use Rattle.qs_node_step.specs.Step.{wait_on}
use Rattle.qs_tm.specs.Manager as tm
use Rattle.qs_tm.specs.Participant.{member_of}
use Rattle.qs_tm.specs.declared.participant.Participant.{Participant}
use Rattle.qs_world_lawful.specs.Beside.{HoldsBeside, is_committed_at}
use Rattle.qs_world_lawful.specs.BesideStep.{PassesSo}
use Rattle.qs_world_lawful.specs.Entering.{HoldsWork, book_at}
use Rattle.qs_world_lawful.specs.Holds.{is_kept}
use Rattle.qs_world_lawful.specs.NodeFacts.{HasNodeFacts}

-- what the machine has committed, the home has committed, where that is another node
abbrev pub HoldsHomes : BookValue → ℕ → (ℕ → NodeValue) → ℕ → Type 0
HoldsHomes book size nodes n = (tid : Tid) (tx : TransactionValue) → find_transaction book tid ≡ Some tx → is_commit tx.cell ≡ true → nat_lt tid.home.0 size ≡ true → (tid.home.0 == n) ≡ false → is_committed_at (nodes tid.home.0) tid ≡ true

-- beside the relation between the machine and the node
pub record StandsBy (stamp : ℕ) (before : BookValue) (size : ℕ) (nodes : ℕ → NodeValue) (n : ℕ) (work : Work) : Type 0 where
  pub facts : HasNodeFacts work.node
  pub beside : HoldsBeside (book_at stamp before work) work.node
  pub homes : HoldsHomes (book_at stamp before work) size nodes n
  pub at : work.node.setting.node.0 ≡ n
  pub run : work.node.setting.nodes ≡ size

pub record Stands (stamp : ℕ) (before : BookValue) (size : ℕ) (nodes : ℕ → NodeValue) (n : ℕ) (work : Work) : Type 0 where
  pub held : HoldsWork stamp before work
  pub by : StandsBy stamp before size nodes n work

-- no run of the length of a machine's life comes to it: what waits first at a server can be counted there
abbrev pub CanCount : Work → ServerNo → Type 0
CanCount work server = (delivery : Delivery) (part : Participant) → ipc.next server work.node.queues ≡ Some delivery → tm.part_of delivery.tid work.node.manager ≡ Some part → is_kept server ≡ true → ((member_of part server).served == last_number) ≡ false

-- ---- the rules of a step leave what stands by, where the relation to the machine goes on

abbrev pub GoesOn : ℕ → BookValue → ℕ → (ℕ → NodeValue) → ℕ → Work → Work → Type 0
GoesOn stamp before size nodes n old new = Stands stamp before size nodes n old → HoldsWork stamp before new → StandsBy stamp before size nodes n new

pub record KeepsStanding (stamp : ℕ) (before : BookValue) (size : ℕ) (nodes : ℕ → NodeValue) (n : ℕ) : Type 0 where
  pub passes : (work : Work) (tid : Tid) → PassesSo stamp before work tid → GoesOn stamp before size nodes n work (try tid pass_rule work)
  pub readies : (work : Work) (tid : Tid) → GoesOn stamp before size nodes n work (try tid ready_rule work)
  pub refuses : (work : Work) (tid : Tid) → GoesOn stamp before size nodes n work (try tid refuse_rule work)
  pub forgets : (work : Work) (tid : Tid) → GoesOn stamp before size nodes n work (try tid forget_rule work)
  pub serves : (work : Work) (server : ServerNo) → CanCount work server → GoesOn stamp before size nodes n work (serve_next work server)
  pub waits : (work : Work) (client : ClientNo) → GoesOn stamp before size nodes n work (wait_on work client)
