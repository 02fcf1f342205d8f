-- What is known at a stage of a step of what the machine has beside the node, and of what the node has in hand; and what is known of a deed beside.
use Rattle.std.specs.Prelude.{◌≡◌, ⊤, ℕ, Bool, true, false, List, None, Option, Some, slice_get}
use Rattle.qs_base.specs.declared.identifiers.ClientNo.{ClientNo}
use Rattle.qs_base.specs.declared.identifiers.Tid.{Tid}
use Rattle.qs_ops.specs.declared.operation.Op.{Op}
use Rattle.qs_ops.specs.declared.reply.Reply.{Reply}
use Rattle.qs_book_journal.specs.declared.script_line.Command.{Command}
use Rattle.qs_book_journal.specs.declared.script_line.Command.TheVariants as commands
use Rattle.qs_book_journal.specs.declared.script_line.ScriptLine.{ScriptLine}
use Rattle.qs_book_laws.proofs.Rising.{IsRising}
use Rattle.qs_book_machine.specs.Book.{find_label, find_transaction, inc_at}
use Rattle.qs_book_machine.specs.Nodes as machine
use Rattle.qs_book_machine.specs.Transaction.{TransactionValue, is_abort, is_open}
use Rattle.qs_book_conformance.specs.Answers.{is_refused}
use Rattle.qs_book_conformance.specs.Borrowing.{knows_abort, owns}
use Rattle.qs_book_conformance.specs.Course.{ClientValue, CourseValue, first_of, is_seat}
use Rattle.qs_node_kept.specs.Loans.{last_taken}
use Rattle.qs_node_kept.specs.declared.kept.Decided.{Decided}
use Rattle.qs_node_kept.specs.declared.kept.KeptLabel.{KeptLabel}
use Rattle.qs_node_kept.specs.declared.kept.Lent.{Lent}
use Rattle.qs_node_step.specs.Answering.{kept_outcome}
use Rattle.qs_node_step.specs.Borrowing.{is_aborted}
use Rattle.qs_node_step.specs.Serving.{label_at}
use Rattle.qs_node_step.specs.State.{NodeValue, Work, client_cmp}
use Rattle.qs_node_step.specs.Step.{is_owner}
use Rattle.qs_node_step.specs.declared.state.Issued.{Issued}
use Rattle.qs_node_step.specs.declared.state.OpenCommand.{OpenCommand}
use Rattle.qs_world_course.specs.Clients.{in_hand_of, sought_of}
use Rattle.qs_world_course.specs.Going.{is_given}
use Rattle.qs_world_course.specs.Worlds.{IsToldSo}
use Rattle.qs_world_lawful.specs.Entering.{HoldsWork}
use Rattle.qs_world_said.specs.Amid.{course_amid}

-- ---- what is in hand

-- an owner ends its transaction, a borrower takes it and gives it back, and both ask it for what servers do; what is met began before
abbrev pub MaySay : Bool → Command → Type 0
MaySay own commands.Begin = ⊥
MaySay own commands.Commit = own ≡ true
MaySay own commands.Abort = own ≡ true
MaySay own commands.Take = own ≡ false
MaySay own commands.Yield = own ≡ false
MaySay own (commands.Request member op) = ⊤

-- the label tells its transaction, and the machine knows it by the owner that the node has
pub record KnowsTid (course : CourseValue) (client : ClientNo) (label : List ℕ) (begun : KeptLabel) (tid : Tid) : Type 0 where
  pub tx : TransactionValue
  pub labelled : find_label course.book label ≡ Some tid
  pub found : find_transaction course.book tid ≡ Some tx
  pub owner : owns tx.owner client ≡ is_owner client begun.owner

-- the loan of the last take was not given back, and was made since the node started
pub record HasUngiven (node : NodeValue) (client : ClientNo) (tid : Tid) : Type 0 where
  pub loan : Lent
  pub last : last_taken client tid node.kept.now.loans ≡ Some loan
  pub ungiven : loan.yielded ≡ false
  pub present : loan.inc ≡ node.setting.inc

-- what was issued is a request under the label of its transaction, by its owner or on a loan
pub record KnowsIssued (node : NodeValue) (client : ClientNo) (command : OpenCommand) (issued : Issued) : Type 0 where
  pub op : Op
  pub asks : command.line.command ≡ commands.Request issued.member op
  pub begun : KeptLabel
  pub met : label_at command.line.label node ≡ Some begun
  pub of : begun.tid ≡ Some issued.tid
  pub lent : is_owner client begun.owner ≡ false → HasUngiven node client issued.tid

-- ---- the machine

-- it has learnt abort here only where the node has, and the node has only what is so
pub record KnowsAbort (course : CourseValue) (node : NodeValue) (tid : Tid) (tx : TransactionValue) : Type 0 where
  pub learnt : knows_abort course.book node.setting.node.0 tx ≡ true → is_aborted tid node ≡ true
  pub so : is_aborted tid node ≡ true → is_abort tx.cell ≡ true

pub record KnowsMachine (course : CourseValue) (node : NodeValue) : Type 0 where
  pub apart : IsRising client_cmp node.commands  -- a client has one command at most in hand
  pub inc : inc_at course.book node.setting.node ≡ node.setting.inc
  pub aborts : (tid : Tid) (tx : TransactionValue) → find_transaction course.book tid ≡ Some tx → KnowsAbort course node tid tx

-- that holds wherever the machine after what the step entered so far holds what the node has
abbrev pub MachineIsKnown : Type 0
MachineIsKnown = (stamp : ℕ) (before : CourseValue) (work : Work) → HoldsWork stamp before.book work → KnowsMachine (course_amid stamp before work) work.node

-- ---- names: of what is in hand and under a label that the node has met the machine has the transaction, and what is kept of outcomes is so

pub record KnowsNames (course : CourseValue) (node : NodeValue) : Type 0 where
  pub says : (client : ClientNo) (command : OpenCommand) (begun : KeptLabel) → in_hand_of client node.commands ≡ Some command → label_at command.line.label node ≡ Some begun
      → MaySay (is_owner client begun.owner) command.line.command
  pub tids : (client : ClientNo) (command : OpenCommand) (begun : KeptLabel) (tid : Tid) → in_hand_of client node.commands ≡ Some command → label_at command.line.label node ≡ Some begun → begun.tid ≡ Some tid
      → KnowsTid course client command.line.label begun tid
  pub issued : (client : ClientNo) (command : OpenCommand) (issued : Issued) → in_hand_of client node.commands ≡ Some command → command.issued ≡ Some issued → KnowsIssued node client command issued
  pub outcomes : (tid : Tid) (decided : Decided) → kept_outcome tid node ≡ Some decided → IsToldSo course.book tid decided

-- ---- both

pub record KnowsAtStage (course : CourseValue) (node : NodeValue) : Type 0 where
  pub machine : KnowsMachine course node
  pub names : KnowsNames course node

-- ---- of a deed

-- a line comes to the seat of its client, which has nothing in hand, as its first that is not answered
pub record ComesFirst (course : CourseValue) (node : NodeValue) (line : ScriptLine) : Type 0 where
  pub free : in_hand_of line.client node.commands ≡ None
  pub state : ClientValue
  pub there : slice_get course.clients line.client.0 ≡ Some state
  pub sits : is_seat state.seat node.setting.node.0 ≡ true
  pub first : first_of state.left ≡ Some line

-- a label is new to the node, and no begin of it was refused
pub record IsNewLabel (course : CourseValue) (node : NodeValue) (label : List ℕ) : Type 0 where
  pub unmet : label_at label node ≡ None
  pub unrefused : (client : ClientNo) (state : ClientValue) → slice_get course.clients client.0 ≡ Some state → is_refused state label ≡ false

-- the machine wants of the log what the node wants
pub record KnowsRoom (course : CourseValue) (node : NodeValue) : Type 0 where
  pub state : machine.NodeValue
  pub there : slice_get course.book.nodes node.setting.node.0 ≡ Some state
  pub keep : machine.keep_of state.format ≡ node.manager.keep

-- that it does wherever it holds what the node has, and the node counts room as its setting says
abbrev pub RoomIsKnown : Type 0
RoomIsKnown = (stamp : ℕ) (before : CourseValue) (work : Work) → HoldsWork stamp before.book work → work.node.manager.keep ≡ work.node.setting.keep → KnowsRoom (course_amid stamp before work) work.node

-- the reply was given to what was issued; an owner's transaction is open still, and abort of a borrower's is not known here
pub record KnowsReply (course : CourseValue) (node : NodeValue) (client : ClientNo) (command : OpenCommand) (issued : Issued) (reply : Reply) : Type 0 where
  pub given : is_given course.replies (sought_of node.setting.node issued) reply ≡ true
  pub stands : (tx : TransactionValue) → find_transaction course.book issued.tid ≡ Some tx → owns tx.owner client ≡ true → is_open tx.cell ≡ true
  pub unaborted : is_aborted issued.tid node ≡ false

-- a client to which a loan is made sits at the node
abbrev pub SitsHere : CourseValue → NodeValue → Option ClientNo → Type 0
SitsHere course node None = ⊤
SitsHere course node (Some client) = (state : ClientValue) × ((slice_get course.clients client.0 ≡ Some state) × (is_seat state.seat node.setting.node.0 ≡ true))
