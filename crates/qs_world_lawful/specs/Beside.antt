-- What the machine has of a node beside what a step needs of itself: owners, notes, causes, ages, what is ended, and what was only read.
use Rattle.std.specs.Prelude.{◌≡◌, ◌⊎◌, ℕ, ◌==◌, ◌≤◌, ◌<◌, ◌^◌, Bool, true, false, not, ◌&&◌, ◌||◌, List, Option, Some, None, is_some, slice_get}
use Rattle.std.specs.List.{list_any}
use Rattle.qs_base.specs.declared.identifiers.ClientNo.{ClientNo}
use Rattle.qs_base.specs.declared.identifiers.NodeNo.{NodeNo}
use Rattle.qs_base.specs.declared.identifiers.Outcome.{Outcome}
use Rattle.qs_base.specs.declared.identifiers.ServerNo.{ServerNo}
use Rattle.qs_base.specs.declared.identifiers.Tid.{Tid}
use Rattle.qs_book_machine.specs.Book.{BookValue, find_transaction}
use Rattle.qs_book_machine.specs.Clauses.{has_no_record, is_gone_cause, is_note, note_text}
use Rattle.qs_book_machine.specs.Nodes as machine
use Rattle.qs_book_machine.specs.Transaction.{TransactionValue, has_note, has_refusal, is_abort, is_by_files, is_commit, is_covering, is_outcome, part_of}
use Rattle.qs_book_machine.specs.declared.transaction.Request.{Request}
use Rattle.qs_book_machine.specs.declared.transaction.RequestNo.{RequestNo}
use Rattle.qs_ops.specs.Members.{class_of, is_two_phase}
use Rattle.qs_ops.specs.declared.answer.Cause.{Cause}
use Rattle.qs_ops.specs.declared.answer.Cause.TheVariants as causes
use Rattle.qs_node_step.specs.Answering.{was_committed}
use Rattle.qs_node_step.specs.State.{NodeValue}
use Rattle.qs_tm.specs.Manager as tm
use Rattle.qs_tm.specs.Outcomes as outcome_rules
use Rattle.qs_tm.specs.Participant as participant
use Rattle.qs_tm.specs.Members as rules
use Rattle.qs_tm.specs.Participant.{has_noted, member_of}
use Rattle.qs_tm.specs.declared.participant.Outstanding.{Outstanding}
use Rattle.qs_tm.specs.declared.participant.Participant.{Participant}
use Rattle.qs_world_lawful.specs.Face.{at_server}
use Rattle.qs_world_lawful.specs.Holds.{is_kept}
use Rattle.qs_world_lawful.specs.Logs.{Every}

-- ---- causes that stand for good: a vote against commit, and a request to a node that stood open as that restarted

abbrev pub IsTrueCause : BookValue → Tid → Cause → Type 0
IsTrueCause book tid (causes.Voted member reason) = (tx : TransactionValue) × (find_transaction book tid ≡ Some tx) × (has_refusal tx member reason ≡ true)
IsTrueCause book tid (causes.Gone peer inc) = (tx : TransactionValue) × (find_transaction book tid ≡ Some tx) × (is_gone_cause (slice_get book.nodes peer.0) tx peer inc ≡ true)
IsTrueCause book tid _ = ⊥

-- ---- notes

-- files of that node issued that note in that incarnation
abbrev pub is_note_by : NodeNo → ℕ → List ℕ → Request → Bool
is_note_by here inc text request = ((request.issuer.node.0 == here.0) && (request.inc == inc)) && (is_by_files request && is_note text request.op)

abbrev pub has_note_in : NodeNo → ℕ → List ℕ → RequestNo × List Request → Bool
has_note_in here inc text entry = list_any (is_note_by here inc text) entry.1

abbrev pub has_issued : TransactionValue → NodeNo → ℕ → List ℕ → Bool
has_issued tx here inc text = list_any (has_note_in here inc text) tx.requests

-- files wait for the reply to a note with that count of changes
abbrev pub is_note_with : ℕ → Outstanding → Bool
is_note_with count request = participant.is_by_files request && (request.count == count)

abbrev pub awaits_count : ℕ → Participant → Bool
awaits_count count part = list_any (is_note_with count) part.waiting

-- each note that files issued is noted, or its own reply is waited for; and what was served was issued
pub record HoldsNotes (here : NodeNo) (inc : ℕ) (tid : Tid) (tx : TransactionValue) (part : Participant) : Type 0 where
  pub issued : (count : ℕ) → 1 ≤ count → has_issued tx here inc (note_text tid here.0 count) ≡ true → (has_noted count part ≡ true) ⊎ (awaits_count count part ≡ true)
  pub served : (count : ℕ) → 1 ≤ count → has_note tx (record { node = here; inc = inc; text = note_text tid here.0 count }) ≡ true → has_issued tx here inc (note_text tid here.0 count) ≡ true

-- ---- what was read alone

-- a server that votes and only read may count anew, and has nothing to learn; one that is told without a vote makes its node involved
pub record HoldsReader (here : NodeNo) (inc : ℕ) (tx : TransactionValue) (part : Participant) (server : ServerNo) : Type 0 where
  pub anew : is_two_phase (class_of server.0) ≡ true → rules.has_read server (member_of part server) ≡ true → is_covering tx (at_server here server) inc 0 ≡ true
  pub unfresh : is_two_phase (class_of server.0) ≡ true → rules.has_read server (member_of part server) ≡ true → ((member_of part server).fresh && not (rules.is_let_go (member_of part server))) ≡ false
  pub told : rules.is_told_class (class_of server.0) ≡ true → (member_of part server).fresh ≡ true → part.involved ≡ true

-- files that only read have nothing pending, and each note tells at most what they have pending
pub record HoldsReads (here : NodeNo) (inc : ℕ) (tid : Tid) (tx : TransactionValue) (part : Participant) : Type 0 where
  pub readers : (server : ServerNo) → is_kept server ≡ true → HoldsReader here inc tx part server
  pub unchanged : rules.has_read rules.files_no (member_of part rules.files_no) ≡ true → (part_of tx (at_server here rules.files_no) inc).pending ≡ 0
  pub counted : (count : ℕ) → 1 ≤ count → has_issued tx here inc (note_text tid here.0 count) ≡ true → count ≤ (part_of tx (at_server here rules.files_no) inc).pending

-- ---- one transaction that a node knows

pub record HoldsPart (book : BookValue) (state : machine.NodeValue) (node : NodeValue) (tid : Tid) (tx : TransactionValue) (part : Participant) : Type 0 where
  pub notes : HoldsNotes node.setting.node node.setting.inc tid tx part
  pub asked : part.asked ≡ true → is_some tx.asked ≡ true
  pub outcome : (o : Outcome) → part.outcome ≡ Some o → is_outcome o tx.cell ≡ true
  pub causes : part.outcome ≡ None → Every (IsTrueCause book tid) part.causes
  pub reads : part.outcome ≡ None → HoldsReads node.setting.node node.setting.inc tid tx part
  pub begun_at : part.engage.home ≡ true → part.outcome ≡ None → tx.begun_at ≡ part.begun_at
  pub records : part.engage.home ≡ true → part.outcome ≡ None → part.log.unended ≡ false → has_no_record state tid ≡ true  -- an abort leaves what is on record

-- ---- one that it does not know: files issued no note of it here, and have nothing pending

pub record HoldsStranger (here : NodeNo) (inc : ℕ) (tid : Tid) (tx : TransactionValue) : Type 0 where
  pub unissued : (count : ℕ) → 1 ≤ count → has_issued tx here inc (note_text tid here.0 count) ≡ false
  pub unchanged : (part_of tx (at_server here rules.files_no) inc).pending ≡ 0

-- ---- what is ended, at its home: what is committed is kept so for its owner, or the log had its Commit

abbrev pub is_done : Option Outcome → Bool
is_done outcome = is_some outcome && not (outcome_rules.is_abort outcome)

abbrev pub is_committed_at : NodeValue → Tid → Bool
is_committed_at node tid = was_committed tid node || tm.told_of tid false (λ part. is_done part.outcome) node.manager

pub record HoldsEnded (node : NodeValue) (tid : Tid) (tx : TransactionValue) : Type 0 where
  pub committed : is_commit tx.cell ≡ true → was_committed tid node ≡ true
  pub unknown : tm.part_of tid node.manager ≡ None → was_committed tid node ≡ false → is_abort tx.cell ≡ true

-- ---- all of it

pub record HoldsTidBeside (book : BookValue) (state : machine.NodeValue) (node : NodeValue) (tid : Tid) : Type 0 where
  pub stands : (part : Participant) → tm.part_of tid node.manager ≡ Some part → is_some (find_transaction book tid) ≡ true
  pub parts : (tx : TransactionValue) (part : Participant) → find_transaction book tid ≡ Some tx → tm.part_of tid node.manager ≡ Some part → HoldsPart book state node tid tx part
  pub strangers : (tx : TransactionValue) → find_transaction book tid ≡ Some tx → tm.part_of tid node.manager ≡ None → is_commit tx.cell ≡ false → HoldsStranger node.setting.node node.setting.inc tid tx
  pub unbegun : find_transaction book tid ≡ None → has_no_record state tid ≡ true
  pub ended : (tx : TransactionValue) → tid.home ≡ node.setting.node → find_transaction book tid ≡ Some tx → HoldsEnded node tid tx

-- the clock of a node is its timers', and has room
pub record HoldsClock (node : NodeValue) : Type 0 where
  pub ticks : node.servers.timers.timers.ticks ≡ node.manager.ticks
  pub room : node.manager.ticks < 2 ^ 62

abbrev pub HasOwner : BookValue → TransactionValue → Type 0
HasOwner book tx = (client : ClientNo) → tx.owner ≡ Some client → is_some (slice_get book.owners client.0) ≡ true

pub record HoldsBeside (book : BookValue) (node : NodeValue) : Type 0 where
  pub state : machine.NodeValue
  pub there : slice_get book.nodes node.setting.node.0 ≡ Some state
  pub inc : state.inc ≡ node.setting.inc
  pub owners : (tid : Tid) (tx : TransactionValue) → find_transaction book tid ≡ Some tx → HasOwner book tx
  pub at : (tid : Tid) → HoldsTidBeside book state node tid
  pub clock : HoldsClock node
