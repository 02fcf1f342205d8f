-- What a step of a node is given beside what is held: of what comes to it, and at each stage of what it does then.
use Rattle.std.specs.Prelude.{◌≡◌, ◌≢◌, ℕ, ◌==◌, ◌≤◌, ◌<◌, true, false, ◌++◌, [], ◌∷◌, List, length, Some, None, Option, is_some, nat_lt, ⊤}
use Rattle.std.specs.List.{list_any}
use Rattle.std.specs.Map.{lookup}
use Rattle.std.specs.BTreeMap.{is_at}
use Rattle.qs_base.specs.Order.{tid_cmp}
use Rattle.qs_base.specs.declared.identifiers.ClientNo.{ClientNo}
use Rattle.qs_base.specs.declared.identifiers.Member.{Member}
use Rattle.qs_base.specs.declared.identifiers.NodeNo.{NodeNo}
use Rattle.qs_base.specs.declared.identifiers.Outcome.{Outcome}
use Rattle.qs_base.specs.declared.identifiers.Tid.{Tid}
use Rattle.qs_engage.specs.Engage.{peer_of}
use Rattle.qs_ipc.specs.Ipc as ipc
use Rattle.qs_ipc.specs.Queue.{is_for}
use Rattle.qs_book_journal.specs.declared.script_line.Command.TheVariants as commands
use Rattle.qs_book_journal.specs.declared.script_line.ScriptLine.{ScriptLine}
use Rattle.qs_node_kept.specs.Loans.{last_taken}
use Rattle.qs_node_kept.specs.declared.kept.KeptLabel.{KeptLabel}
use Rattle.qs_node_kept.specs.declared.kept.Lent.{Lent}
use Rattle.qs_book_laws.proofs.Rising.{IsRising}
use Rattle.qs_book_machine.specs.Book.{BookValue, find_transaction}
use Rattle.qs_book_machine.specs.Clauses.{is_fresh}
use Rattle.qs_book_machine.specs.Transaction.{TransactionValue, is_commit, is_outcome}
use Rattle.qs_ops.specs.declared.answer.Cause.TheVariants as causes
use Rattle.qs_ops.specs.declared.operation.Op.{Op}
use Rattle.qs_packet.specs.declared.message.Message.{Message}
use Rattle.qs_packet.specs.declared.message.Message.TheVariants as messages
use Rattle.qs_book_journal.specs.declared.entry.Act.TheVariants as acts
use Rattle.qs_ops.specs.Timers.{ticked}
use Rattle.qs_node_servers.specs.Servers.{timers_no}
use Rattle.qs_node_step.specs.Borrowing.{is_void}
use Rattle.qs_node_step.specs.Bringing.{enter}
use Rattle.qs_node_step.specs.Answering.{kept_outcome, was_committed}
use Rattle.qs_node_step.specs.Telling.{is_other_node}
use Rattle.qs_node_step.specs.Restarts.{begin_incarnation}
use Rattle.qs_node_step.specs.Serving.{label_at, serve_next}
use Rattle.qs_node_step.specs.Settling.{due_tids, settle, settle_tid}
use Rattle.qs_node_step.specs.State.{NodeValue, Work, change_server, client_cmp, with_manager, work_on}
use Rattle.qs_node_step.specs.Step.{abort_old, is_owner, wait_on, waiting_clients}
use Rattle.qs_node_step.specs.declared.event.Event.{Event}
use Rattle.qs_node_step.specs.declared.event.Event.TheVariants as events
use Rattle.qs_node_step.specs.declared.state.OpenCommand.{OpenCommand}
use Rattle.qs_tm.specs.Manager as tm
use Rattle.qs_tm.specs.Participant.{is_undecided}
use Rattle.qs_tm.specs.declared.participant.Participant.{Participant}
use Rattle.qs_world_walk.specs.Walked.{AtEach, done_work}
use Rattle.qs_world_lawful.specs.Entering.{IsAborted, book_at}
use Rattle.qs_world_lawful.specs.Face.{waiting_at}
use Rattle.qs_world_lawful.specs.Given.{HasCause, IsUncommitted, MayDecide, MayReply, MayServe, MaySettle}
use Rattle.qs_world_lawful.specs.Holds.{IsBehind}
use Rattle.qs_world_lawful.specs.Waits.{IsWithin, standing_ops, waiting_ops}

-- ---- commands

-- a request goes to a server of the run that has such operations
pub record MayRequest (work : Work) (tid : Tid) (member : Member) (op : Op) : Type 0 where
  pub fits : is_for member.server op ≡ true
  pub in_run : nat_lt member.node.0 work.node.setting.nodes ≡ true
  pub slot : (part : Participant) → tm.part_of tid work.node.manager ≡ Some part → member.node.0 < length part.engage.peers

-- what is lent here is known here, and not committed while a loan stands
pub record IsLentHere (stamp : ℕ) (before : BookValue) (work : Work) (tid : Tid) : Type 0 where
  pub part : Participant
  pub known : tm.part_of tid work.node.manager ≡ Some part
  pub open_still : IsUncommitted stamp before work tid

-- the client's present loan stands, and is worth something
pub record IsLentTo (client : ClientNo) (work : Work) (tid : Tid) : Type 0 where
  pub loan : Lent
  pub taken : last_taken client tid work.node.kept.now.loans ≡ Some loan
  pub stands : loan.yielded ≡ false
  pub valid : is_void tid loan work.node ≡ false

-- it began here since the node started
abbrev pub IsOfNow : Work → Tid → Type 0
IsOfNow work tid = (tid.home ≡ work.node.setting.node) × (tid.inc ≡ work.node.setting.inc)

-- it did where it is undecided
abbrev pub IsUndecidedOfNow : Work → Tid → Type 0
IsUndecidedOfNow work tid = (part : Participant) → tm.part_of tid work.node.manager ≡ Some part → part.outcome ≡ None → tid.inc ≡ work.node.setting.inc

-- a line of a well-formed script comes: of a client that has no open command, in order, with a fresh label where it begins
pub record MayCommand (stamp : ℕ) (before : BookValue) (work : Work) (line : ScriptLine) : Type 0 where
  pub free : lookup (is_at (client_cmp line.client)) work.node.commands ≡ None
  pub behind : IsBehind (book_at stamp before work) line.client line.line
  pub small : nat_lt line.client.0 224 ≡ true
  pub fresh : line.command ≡ commands.Begin → is_fresh (book_at stamp before work).labels line.label ≡ true
  pub of_now : (begun : KeptLabel) (tid : Tid) → label_at line.label work.node ≡ Some begun → begun.tid ≡ Some tid → begun.owner ≡ Some line.client → kept_outcome tid work.node ≡ None → IsOfNow work tid
  pub undecided : (begun : KeptLabel) (tid : Tid) → label_at line.label work.node ≡ Some begun → begun.tid ≡ Some tid → begun.owner ≡ Some line.client → IsUndecidedOfNow work tid
  pub runs : (begun : KeptLabel) (tid : Tid) → label_at line.label work.node ≡ Some begun → begun.tid ≡ Some tid → begun.owner ≡ Some line.client → kept_outcome tid work.node ≡ None
      → (part : Participant) × (tm.part_of tid work.node.manager ≡ Some part) × (part.outcome ≡ None)
  pub requests : (begun : KeptLabel) (tid : Tid) (member : Member) (op : Op) → label_at line.label work.node ≡ Some begun → begun.tid ≡ Some tid → line.command ≡ commands.Request member op → MayRequest work tid member op
  pub lent : (begun : KeptLabel) (tid : Tid) (member : Member) (op : Op) → label_at line.label work.node ≡ Some begun → begun.tid ≡ Some tid → is_owner line.client begun.owner ≡ false → line.command ≡ commands.Request member op → IsLentTo line.client work tid → IsLentHere stamp before work tid

-- a command that stayed open is looked at again
pub record MayWait (stamp : ℕ) (before : BookValue) (work : Work) (client : ClientNo) : Type 0 where
  pub small : nat_lt client.0 224 ≡ true
  pub of_now : (command : OpenCommand) (begun : KeptLabel) (tid : Tid) → lookup (is_at (client_cmp client)) work.node.commands ≡ Some command → label_at command.line.label work.node ≡ Some begun → begun.tid ≡ Some tid → begun.owner ≡ Some client → IsUndecidedOfNow work tid
  pub requests : (command : OpenCommand) (tid : Tid) (member : Member) (op : Op) → lookup (is_at (client_cmp client)) work.node.commands ≡ Some command → command.line.command ≡ commands.Request member op → IsLentTo client work tid → MayRequest work tid member op × IsLentHere stamp before work tid

-- ---- messages

-- a request that comes stands behind those that wait, of what is not committed
pub record MayArrive (stamp : ℕ) (before : BookValue) (work : Work) (peer : NodeNo) (tid : Tid) (member : Member) (number : ℕ) (op : Op) : Type 0 where
  pub tx : TransactionValue
  pub found : find_transaction (book_at stamp before work) tid ≡ Some tx
  pub open_still : is_commit tx.cell ≡ false
  pub stands : IsWithin (waiting_ops (record { link = record { from = peer; to = work.node.setting.node }; number = number }) (waiting_at work.node tid member.server) ++ op ∷ [])
      (standing_ops tx (record { link = record { from = peer; to = work.node.setting.node }; number = number }) work.node.setting.node member.server)

-- another node than the home is asked where commit was asked for
pub record MayBeAsked (stamp : ℕ) (before : BookValue) (work : Work) (tid : Tid) : Type 0 where
  pub away : (part : Participant) → tm.part_of tid work.node.manager ≡ Some part → part.engage.home ≡ false → tid.home ≢ work.node.setting.node
  pub asked : (tx : TransactionValue) → find_transaction (book_at stamp before work) tid ≡ Some tx → is_some tx.asked ≡ true

-- another node of the run answers for what went to it, where that still counts
pub record MayCount (work : Work) (peer : NodeNo) (tid : Tid) (up_to : ℕ) : Type 0 where
  pub other : (peer.0 == work.node.setting.node.0) ≡ false
  pub in_run : nat_lt peer.0 work.node.setting.nodes ≡ true
  pub sent : (part : Participant) → tm.part_of tid work.node.manager ≡ Some part → is_undecided part ≡ true → up_to ≤ (peer_of part.engage peer).sent

-- the outcome that is told is the cell's
pub record IsCell (stamp : ℕ) (before : BookValue) (work : Work) (tid : Tid) (outcome : Outcome) : Type 0 where
  pub tx : TransactionValue
  pub found : find_transaction (book_at stamp before work) tid ≡ Some tx
  pub is_so : is_outcome outcome tx.cell ≡ true

-- what is unknown at its home, and of which nodes are named that are to be told, is aborted
pub record IsGoneAborted (stamp : ℕ) (before : BookValue) (work : Work) (tid : Tid) (further : List NodeNo) : Type 0 where
  pub unknown : tm.part_of tid work.node.manager ≡ None → list_any (is_other_node tid) further ≡ true → IsAborted stamp before work tid
  pub once : IsRising tid_cmp work.node.manager.known

abbrev pub MayCome : ℕ → BookValue → Work → NodeNo → Message → Type 0
MayCome stamp before work peer messages.Hello = ⊤
MayCome stamp before work peer (messages.Request tid label member number issuer op) = MayArrive stamp before work peer tid member number op
MayCome stamp before work peer (messages.Answered tid member number reply) = MayReply stamp before work tid member number
MayCome stamp before work peer (messages.AskVote tid) = MayBeAsked stamp before work tid
MayCome stamp before work peer (messages.Covered tid up_to) = MayCount work peer tid up_to
MayCome stamp before work peer (messages.VotedYes tid up_to told) = MayCount work peer tid up_to
MayCome stamp before work peer (messages.VotedAbort tid cause) = ⊤
MayCome stamp before work peer (messages.Tell tid outcome) = IsCell stamp before work tid outcome
MayCome stamp before work peer (messages.Told tid further) = IsGoneAborted stamp before work tid further
MayCome stamp before work peer (messages.Inquire tid) = tm.part_of tid work.node.manager ≡ None → was_committed tid work.node ≡ false → IsAborted stamp before work tid

-- ---- time

-- what is that old is undecided at its home, and the machine finds it that old
pub record MayAbortOld (age : ℕ) (stamp : ℕ) (before : BookValue) (work : Work) (tid : Tid) : Type 0 where
  pub part : Participant
  pub known : tm.part_of tid work.node.manager ≡ Some part
  pub unknown : part.outcome ≡ None
  pub decides : MayDecide stamp before work tid
  pub cause : HasCause stamp before work tid (causes.Old age)

-- timers count on, and transactions are older
abbrev pub tick_work : Work → Work
tick_work work = with_manager tm.tick (change_server timers_no (λ value. record value { timers = ticked value.timers }) (enter acts.Tick work))

abbrev pub MayAge : ℕ → BookValue → Option ℕ → Work → Type 0
MayAge stamp before None work = ⊤
MayAge stamp before (Some age) work = AtEach (MayAbortOld age stamp before) (abort_old age) work (tm.aged age work.node.manager)

-- ---- the step

-- what comes
abbrev pub MayHappen : ℕ → BookValue → Event → Work → Type 0
MayHappen stamp before (events.Command client line label command) work = MayCommand stamp before work (record { client = client; line = line; label = label; command = command })
MayHappen stamp before (events.Received peer message) work = MayCome stamp before work peer message
MayHappen stamp before events.ServeAll work = AtEach (MayServe stamp before) serve_next work (ipc.turns work.node.queues)
MayHappen stamp before (events.PeerRestarted peer old new) work = ⊤
MayHappen stamp before events.Tick work = MayAge stamp before work.node.setting.age (tick_work work)

-- the work as the event comes
abbrev pub first_work : NodeValue → ℕ → Work
first_work node free = begin_incarnation (work_on node free)

-- the whole step
pub record MayStep (stamp : ℕ) (before : BookValue) (node : NodeValue) (event : Event) (free : ℕ) : Type 0 where
  pub happens : MayHappen stamp before event (first_work node free)
  pub settles : AtEach (MaySettle stamp before) settle_tid (done_work node event free) (due_tids (done_work node event free))
  pub waits : AtEach (MayWait stamp before) wait_on (settle (done_work node event free)) (waiting_clients (settle (done_work node event free)))
