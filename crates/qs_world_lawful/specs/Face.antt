-- All that a node has of one transaction: what leaves this face alone leaves all that is held of it.
use Rattle.std.specs.Prelude.{◌≡◌, ℕ, ◌==◌, Bool, false, not, ◌&&◌, ◌||◌, List, [], length, Option, None, is_some, unwrap_or}
use Rattle.std.specs.List.{filter}
use Rattle.qs_base.specs.Order.{same_tid}
use Rattle.qs_base.specs.declared.identifiers.ClientNo.{ClientNo}
use Rattle.qs_base.specs.declared.identifiers.Member.{Member}
use Rattle.qs_base.specs.declared.identifiers.NodeNo.{NodeNo}
use Rattle.qs_base.specs.declared.identifiers.ServerNo.{ServerNo}
use Rattle.qs_base.specs.declared.identifiers.Tid.{Tid}
use Rattle.qs_ipc.specs.Ipc.{queue_at}
use Rattle.qs_ipc.specs.Queue.{is_of}
use Rattle.qs_ipc.specs.declared.delivery.Delivery.{Delivery}
use Rattle.qs_ops.specs.Server.{changes_in}
use Rattle.qs_book_machine.specs.Transaction.{TransactionValue, is_commit}
use Rattle.qs_book_machine.specs.declared.transaction.RequestNo.{RequestNo}
use Rattle.qs_tm.specs.Manager as tm
use Rattle.qs_tm.specs.Participant.{new_participant}
use Rattle.qs_tm.specs.declared.participant.Participant.{Participant}
use Rattle.qs_node_kept.specs.declared.kept.Lent.{Lent}
use Rattle.qs_node_step.specs.Requests.{local_count}
use Rattle.qs_node_step.specs.State.{NodeValue}

pub record Face : Type 0 where
  pub known : Option Participant  -- what it keeps; none where it knows nothing
  pub local : ℕ  -- how many requests went to servers here
  pub changes : ℕ  -- how many changes files have pending
  pub loans : List Lent
  pub waiting : ServerNo → List Delivery  -- in the queue of each server

abbrev pub is_loan_in : Tid → Lent → Bool
is_loan_in tid loan = same_tid tid loan.tid

-- what of it waits at a server
abbrev pub waiting_at : NodeValue → Tid → ServerNo → List Delivery
waiting_at node tid server = filter (is_of tid) (queue_at node.queues server).waiting

abbrev pub face_of : NodeValue → Tid → Face
face_of node tid = record {
  known = tm.part_of tid node.manager;
  local = local_count tid node;
  changes = length (changes_in node.servers.files tid);
  loans = filter (is_loan_in tid) node.kept.now.loans;
  waiting = waiting_at node tid;
}

-- one that it does not know is as one that it has only heard of
abbrev pub part_or_new : Option Participant → Participant
part_or_new known = unwrap_or known (new_participant false)

abbrev pub part_in : Face → Participant
part_in face = part_or_new face.known

-- a home forgets what is committed and ended: of that nothing is said
abbrev pub is_held : TransactionValue → Face → Bool
is_held tx face = is_some face.known || not (is_commit tx.cell)

abbrev pub at_server : NodeNo → ServerNo → Member
at_server here server = record { node = here; server = server }

-- a request of that number from that node
abbrev pub is_numbered : RequestNo → Delivery → Bool
is_numbered at delivery = (delivery.from.0 == at.link.from.0) && (delivery.number == at.number)

-- the loans to a client in an incarnation, and those that are given back
abbrev pub is_loan_here : ClientNo → ℕ → Lent → Bool
is_loan_here client inc loan = (loan.client.0 == client.0) && (loan.inc == inc)

abbrev pub is_given_back : ClientNo → ℕ → Lent → Bool
is_given_back client inc loan = is_loan_here client inc loan && loan.yielded

-- nothing at all
pub record IsEmpty (face : Face) : Type 0 where
  pub known : face.known ≡ None
  pub local : face.local ≡ 0
  pub changes : face.changes ≡ 0
  pub loans : face.loans ≡ []
  pub waiting : (server : ServerNo) → face.waiting server ≡ []
