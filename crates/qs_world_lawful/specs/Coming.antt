-- What comes to a node, as its client, its channels and its clock have it: a line of a well-formed script in its turn, a message that says
-- what is so, and ages that no limit has reached.
use Rattle.std.specs.Prelude.{◌≡◌, ◌==◌, ⊤, true, false, ◌++◌, [], ◌∷◌, Some, None, nat_lt}
use Rattle.std.specs.Map.{lookup}
use Rattle.std.specs.BTreeMap.{is_at}
use Rattle.qs_base.specs.declared.identifiers.Member.{Member}
use Rattle.qs_base.specs.declared.identifiers.NodeNo.{NodeNo}
use Rattle.qs_ipc.specs.Ipc as ipc
use Rattle.qs_ipc.specs.Queue.{is_for}
use Rattle.qs_book_journal.specs.declared.script_line.Command.TheVariants as commands
use Rattle.qs_book_journal.specs.declared.script_line.ScriptLine.{ScriptLine}
use Rattle.qs_book_machine.specs.Book.{BookValue, find_transaction}
use Rattle.qs_book_machine.specs.Clauses.{is_fresh}
use Rattle.qs_book_machine.specs.Transaction.{TransactionValue}
use Rattle.qs_ops.specs.declared.operation.Op.{Op}
use Rattle.qs_packet.specs.declared.message.Message.{Message}
use Rattle.qs_packet.specs.declared.message.Message.TheVariants as messages
use Rattle.qs_node_step.specs.Serving.{serve_next}
use Rattle.qs_node_step.specs.State.{NodeValue, Work, client_cmp}
use Rattle.qs_node_step.specs.declared.event.Event.{Event}
use Rattle.qs_node_step.specs.declared.event.Event.TheVariants as events
use Rattle.qs_world.specs.Moves.{client_count}
use Rattle.qs_world_walk.specs.Walked.{AtEach}
use Rattle.qs_world_lawful.specs.Face.{waiting_at}
use Rattle.qs_world_lawful.specs.Holds.{IsBehind}
use Rattle.qs_world_lawful.specs.NodeFacts.{AreYoung}
use Rattle.qs_world_lawful.specs.Parcels.{GoesTo, IsSaid}
use Rattle.qs_world_lawful.specs.Standing.{CanCount}
use Rattle.qs_world_lawful.specs.Waits.{IsWithin, standing_ops, waiting_ops}

-- ---- a client's line

pub record ComesLine (book : BookValue) (node : NodeValue) (line : ScriptLine) : Type 0 where
  pub free : lookup (is_at (client_cmp line.client)) node.commands ≡ None
  pub behind : IsBehind book line.client line.line
  pub small : nat_lt line.client.0 client_count ≡ true
  pub fresh : line.command ≡ commands.Begin → is_fresh book.labels line.label ≡ true
  pub fits : (member : Member) (op : Op) → line.command ≡ commands.Request member op → (is_for member.server op ≡ true) × (nat_lt member.node.0 node.setting.nodes ≡ true)

-- ---- a message

-- a request stands in the machine behind those of its number that wait
abbrev pub ComesBehind : BookValue → NodeValue → NodeNo → Message → Type 0
ComesBehind book node peer (messages.Request tid label member number issuer op) = (tx : TransactionValue) → find_transaction book tid ≡ Some tx
    → IsWithin (waiting_ops (record { link = record { from = peer; to = node.setting.node }; number = number }) (waiting_at node tid member.server) ++ op ∷ [])
    (standing_ops tx (record { link = record { from = peer; to = node.setting.node }; number = number }) node.setting.node member.server)
ComesBehind book node peer message = ⊤

pub record ComesMessage (book : BookValue) (node : NodeValue) (peer : NodeNo) (message : Message) : Type 0 where
  pub other : (peer.0 == node.setting.node.0) ≡ false
  pub in_run : nat_lt peer.0 node.setting.nodes ≡ true
  pub goes : GoesTo node.setting.node.0 message
  pub says : IsSaid book message
  pub behind : ComesBehind book node peer message

-- ---- an event, and what has room in its step

abbrev pub ComesTo : BookValue → Event → Work → Type 0
ComesTo book (events.Command client line label command) work = ComesLine book work.node (record { client = client; line = line; label = label; command = command })
ComesTo book (events.Received peer message) work = ComesMessage book work.node peer message
ComesTo book events.ServeAll work = AtEach CanCount serve_next work (ipc.turns work.node.queues)
ComesTo book (events.PeerRestarted peer old new) work = ⊤
ComesTo book events.Tick work = AreYoung work.node
