-- What the log of a node that runs says, and what the machine has of it; and what the node itself knows of its log.
--
-- While a node runs less may be missing than once it stopped: what is on record stands open in the log, or is committed there, or
-- is aborted; and each Commit is of a committed transaction.
use Rattle.std.specs.Prelude.{◌≡◌, ◌⊎◌, ℕ, Bool, true, false, ◌++◌, List, Option, Some, None, is_some, slice_get, ⊤}
use Rattle.std.specs.List.{list_any}
use Rattle.qs_base.specs.Order.{tid_cmp}
use Rattle.qs_base.specs.declared.identifiers.Member.{Member}
use Rattle.qs_base.specs.declared.identifiers.Outcome.{Outcome}
use Rattle.qs_base.specs.declared.identifiers.Outcome.TheVariants as outcomes
use Rattle.qs_base.specs.declared.identifiers.Tid.{Tid}
use Rattle.qs_book_journal.specs.declared.entry.Act.{Act}
use Rattle.qs_book_journal.specs.declared.entry.Act.TheVariants as acts
use Rattle.qs_ops.specs.declared.vote.Vote.TheVariants as votes
use Rattle.qs_book_machine.specs.Transaction.{TransactionValue, cell_of, has_learnt}
use Rattle.qs_book_machine.specs.declared.transaction.Cell.TheVariants as cells
use Rattle.qs_book_machine.specs.Book.{BookValue, find_transaction, cell_of_transaction}
use Rattle.qs_book_machine.specs.Lawful.{IsLawful}
use Rattle.qs_book_machine.specs.Nodes as machine
use Rattle.qs_book_machine.specs.Restart.{is_among, is_found_as}
use Rattle.qs_book_machine.specs.declared.state.OnRecord.{OnRecord}
use Rattle.qs_book_machine.specs.declared.state.Voter.{Voter}
use Rattle.qs_book_laws.proofs.Rising.{IsRising}
use Rattle.qs_record.specs.declared.record.Record.{Record}
use Rattle.qs_packet.specs.declared.message.Message.{Message}
use Rattle.qs_packet.specs.declared.message.Message.TheVariants as messages
use Rattle.qs_node_step.specs.declared.event.Event.{Event}
use Rattle.qs_node_step.specs.declared.event.Event.TheVariants as events
use Rattle.qs_restart.specs.Recovery.{Prepared, Recovery, recovery, names_transaction}
use Rattle.qs_tm.specs.Manager as tm
use Rattle.qs_tm.specs.declared.manager.Manager.{Manager}
use Rattle.qs_tm.specs.declared.participant.Participant.{Participant}
use Rattle.qs_node_step.specs.State.{Work, here}
use Rattle.qs_world_lawful.specs.Entering.{book_at, entries_so_far}
use Rattle.qs_world_lawful.specs.Logs.{found_votes, Every, IsVoteLogged}

-- ---- the machine goes on

-- it stands there too, and what has learnt commit has learnt it there
abbrev pub HasLearntMore : Option TransactionValue → TransactionValue → Type 0
HasLearntMore o tx = (later : TransactionValue) × (o ≡ Some later) × ((member : Member) → has_learnt tx member ≡ true → has_learnt later member ≡ true)

abbrev pub LearntOn : BookValue → BookValue → Type 0
LearntOn old new = (tid : Tid) (tx : TransactionValue) → find_transaction old tid ≡ Some tx → HasLearntMore (find_transaction new tid) tx

abbrev pub HasAborted : BookValue → Tid → Type 0
HasAborted book tid = cell_of_transaction (find_transaction book tid) ≡ Some cells.Abort

abbrev pub HasCommitted : BookValue → Tid → Type 0
HasCommitted book tid = cell_of_transaction (find_transaction book tid) ≡ Some cells.Commit

abbrev pub HasOutcome : BookValue → Tid → Outcome → Type 0
HasOutcome book tid outcome = cell_of_transaction (find_transaction book tid) ≡ Some (cell_of outcome)

-- a later machine of the same run
pub record Later (old new : BookValue) : Type 0 where
  pub aborted : (tid : Tid) → HasAborted old tid → HasAborted new tid
  pub committed : (tid : Tid) → HasCommitted old tid → HasCommitted new tid
  pub learnt : LearntOn old new

-- ---- the log and the machine

-- a vote that is on record with these covers
abbrev pub IsRecordSafe : BookValue → Recovery → Voter → ℕ → Type 0
IsRecordSafe book log at covers =
    HasAborted book at.tid ⊎ ((is_among log.committed at.tid ≡ true) ⊎ (list_any (is_found_as at covers) (found_votes log) ≡ true))

abbrev pub IsCommitMade : BookValue → machine.NodeValue → Tid → Type 0
IsCommitMade book state tid = (is_among state.committed tid ≡ true) ⊎ HasCommitted book tid

-- a Commit with a list stands behind it: then it is among the Commits
abbrev pub IsMarked : Recovery → Prepared → Type 0
IsMarked log vote = vote.committed ≡ true → is_among log.committed vote.tid ≡ true

abbrev pub StandsIn : BookValue → Prepared → Type 0
StandsIn book vote = is_some (find_transaction book vote.tid) ≡ true

pub record HoldsLogged (here : ℕ) (book : BookValue) (state : machine.NodeValue) (log : Recovery) : Type 0 where
  pub kinds : Every (λ (vote : Prepared). machine.is_recoverable vote.server.0 ≡ true) log.prepared
  pub stands : Every (StandsIn book) log.prepared
  pub votes : Every (IsVoteLogged here book state log) log.prepared
  pub marked : Every (IsMarked log) log.prepared
  pub kept : (tid : Tid) (server : ℕ) (rec : OnRecord) → machine.record_of state tid server ≡ Some rec → IsRecordSafe book log (machine.voter tid server) rec.covers
  pub commits : Every (IsCommitMade book state) log.committed

-- ---- the log and the node

abbrev pub IsPrepared : Option Participant → Type 0
IsPrepared None = ⊥
IsPrepared (Some part) = part.log.prepared ≡ true

-- what is in doubt in the log is known as prepared
abbrev pub IsKnown : Manager → Prepared → Type 0
IsKnown manager vote = names_transaction vote.tid ≡ true → vote.committed ≡ false → IsPrepared (tm.part_of vote.tid manager)

-- what a node keeps of the records of one transaction
pub record KeepsRecords (book : BookValue) (log : Recovery) (tid : Tid) (part : Participant) : Type 0 where
  pub involved : part.log.prepared ≡ true → part.involved ≡ true  -- so it is not forgotten
  pub undone : part.log.prepared ≡ true → part.outcome ≡ Some outcomes.Commit → ⊥
  pub aborted : part.log.prepared ≡ true → part.outcome ≡ Some outcomes.Abort → HasAborted book tid  -- as a home restarts
  pub listed : part.log.listed ≡ true → part.outcome ≡ Some outcomes.Commit
  pub committed : part.log.listed ≡ true → HasCommitted book tid
  pub has_commit : part.log.listed ≡ true → is_among log.committed tid ≡ true

pub record KnowsLog (book : BookValue) (manager : Manager) (log : Recovery) : Type 0 where
  pub rising : IsRising tid_cmp manager.known
  pub votes : Every (IsKnown manager) log.prepared
  pub parts : (tid : Tid) (part : Participant) → tm.part_of tid manager ≡ Some part → KeepsRecords book log tid part

-- ---- a step

-- transactions are numbered from 1
abbrev pub IsNamed : BookValue → Type 0
IsNamed book = (tid : Tid) → is_some (find_transaction book tid) ≡ true → names_transaction tid ≡ true

-- of a node that runs, its log on the disk, and the records that wait for the next force
pub record HoldsHost (here : ℕ) (book : BookValue) (manager : Manager) (disk waiting : List Record) : Type 0 where
  pub state : machine.NodeValue
  pub there : slice_get book.nodes here ≡ Some state
  pub named : IsNamed book
  pub all : HoldsLogged here book state (recovery (disk ++ waiting))
  pub knows : KnowsLog book manager (recovery (disk ++ waiting))
  pub on_disk : HoldsLogged here book state (recovery disk)
  pub alike : (recovery (disk ++ waiting)).committed ≡ (recovery disk).committed  -- what waits for a force is no Commit

-- in the middle of a step: what the log will be with these records, and what stays on the disk where nothing forces it
pub record HoldsAmid (before : BookValue) (disk waiting : List Record) (at : ℕ) (book : BookValue) (manager : Manager) (records : List Record) (force : Bool) : Type 0 where
  pub since : Later before book
  pub state : machine.NodeValue
  pub there : slice_get book.nodes at ≡ Some state
  pub named : IsNamed book
  pub all : HoldsLogged at book state (recovery (disk ++ (waiting ++ records)))
  pub knows : KnowsLog book manager (recovery (disk ++ (waiting ++ records)))
  pub on_disk : force ≡ false → HoldsLogged at book state (recovery disk)
  pub alike : force ≡ false → (recovery (disk ++ (waiting ++ records))).committed ≡ (recovery disk).committed

abbrev pub HoldsLogs : ℕ → BookValue → List Record → List Record → Work → Type 0
HoldsLogs stamp before disk waiting work = HoldsAmid before disk waiting (here work).0 (book_at stamp before work) work.node.manager work.out.records work.out.force

-- ---- rules

-- as far as the node runs on, it puts nothing on record and takes nothing off
abbrev pub is_plain : Act → Bool
is_plain (acts.Vote tid member votes.Recoverable covers) = false
is_plain (acts.Learn tid member outcomes.Commit) = false
is_plain (acts.Restart inc pend done) = false
is_plain act = true

abbrev pub IsPlain : Act → Type 0
IsPlain act = is_plain act ≡ true

-- a rule adds entries, and where these are lawful, what is held of the log before it is held after it
pub record KeepsLogs (stamp : ℕ) (before : BookValue) (disk waiting : List Record) (work new : Work) : Type 0 where
  pub more : List Act
  pub entries : new.out.entries ≡ work.out.entries ++ more
  pub setting : new.node.setting ≡ work.node.setting
  pub keeps : IsLawful before (entries_so_far stamp new) → HoldsLogs stamp before disk waiting work → HoldsLogs stamp before disk waiting new

-- ---- what comes

-- a Tell says the outcome that the machine has
abbrev pub IsTrue : BookValue → Message → Type 0
IsTrue book (messages.Tell tid outcome) = HasOutcome book tid outcome
IsTrue book message = ⊤

abbrev pub IsTrueEvent : BookValue → Event → Type 0
IsTrueEvent book (events.Received peer message) = IsTrue book message
IsTrueEvent book event = ⊤
