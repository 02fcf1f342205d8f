-- What is claimed of every lawful history.
use Rattle.std.specs.Prelude.{◌≡◌, ◌⊎◌, ℕ, ◌<◌, Bool, true, false, List, Some, fold, flat_map, slice_get, ⊤}
use Rattle.std.specs.List.{All}
use Rattle.qs_base.specs.declared.identifiers.ClientNo.{ClientNo}
use Rattle.qs_base.specs.declared.identifiers.Outcome.TheVariants as outcomes
use Rattle.qs_base.specs.declared.identifiers.Tid.{Tid}
use Rattle.qs_ops.specs.declared.answer.Answer.{Answer}
use Rattle.qs_ops.specs.declared.answer.Answer.TheVariants as answers
use Rattle.qs_ops.specs.declared.answer.Cause.{Cause}
use Rattle.qs_ops.specs.declared.operation.Op.{Op}
use Rattle.qs_book_journal.specs.declared.entry.Act.{Act}
use Rattle.qs_book_journal.specs.declared.entry.Act.TheVariants as acts
use Rattle.qs_ops.specs.Table.{apply_change, apply_note}
use Rattle.qs_book_machine.specs.Transaction.{TransactionValue, is_open}
use Rattle.qs_book_machine.specs.declared.transaction.Cell.{Cell}
use Rattle.qs_book_machine.specs.declared.transaction.Cell.TheVariants as cells
use Rattle.qs_book_machine.specs.Book.{BookValue, find_transaction, cell_of_transaction}
use Rattle.qs_book_machine.specs.Nodes.{NodeValue, pending_at, record_of, changes_of}
use Rattle.qs_book_machine.specs.Restart.{is_among}
use Rattle.qs_book_machine.specs.declared.opened.Opened.{Opened}
use Rattle.qs_book_machine.specs.declared.opened.Pending.{Pending}

-- ---- what the logs of the nodes hold as a run begins

-- The home of the transaction, where it is a node of the run, runs in a later incarnation than the one in which it began
-- the transaction. So it is with every transaction that a log names: each start of a node is an incarnation of its own,
-- and the node begins nothing in it before the run.
abbrev pub IsEarlier : List Opened → Tid → Type 0
IsEarlier opened tid = (home : Opened) → slice_get opened tid.home.0 ≡ Some home → tid.inc < home.inc

abbrev pub IsVoteEarlier : List Opened → Pending → Type 0
IsVoteEarlier opened pending = IsEarlier opened pending.tid

-- a vote of a transaction whose Commit the log holds is not pending in it
abbrev pub HasNoCommit : Opened → Pending → Type 0
HasNoCommit one pending = is_among one.committed pending.tid ≡ false

pub record IsSound (opened : List Opened) (one : Opened) : Type 0 where
  pub committed : All (IsEarlier opened) one.committed
  pub pending : All (IsVoteEarlier opened) one.pending
  pub apart : All (HasNoCommit one) one.pending

-- the logs of all nodes of the run
abbrev pub IsCoherent : List Opened → Type 0
IsCoherent opened = All (IsSound opened) opened

-- ---- one outcome

-- the cell of the transaction has that outcome
pub record IsDecided (book : BookValue) (tid : Tid) (cell : Cell) : Type 0 where
  pub decided : is_open cell ≡ false
  pub cell_is : cell_of_transaction (find_transaction book tid) ≡ Some cell

-- a transaction of this client was committed
pub record HasCommitted (book : BookValue) (client : ClientNo) : Type 0 where
  pub tid : Tid
  pub transaction : TransactionValue
  pub found : find_transaction book tid ≡ Some transaction
  pub owned : transaction.owner ≡ Some client
  pub committed : transaction.cell ≡ cells.Commit

-- a transaction of this client was aborted for that cause
pub record HasAborted (book : BookValue) (client : ClientNo) (cause : Cause) : Type 0 where
  pub tid : Tid
  pub transaction : TransactionValue
  pub found : find_transaction book tid ≡ Some transaction
  pub owned : transaction.owner ≡ Some client
  pub aborted : transaction.cell ≡ cells.Abort
  pub why : transaction.cause ≡ Some cause

-- what the answer says of an outcome came to pass
abbrev pub IsTrueAnswer : BookValue → ClientNo → Answer → Type 0
IsTrueAnswer book client answers.Committed = HasCommitted book client
IsTrueAnswer book client (answers.Aborted cause) = HasAborted book client cause
IsTrueAnswer book client answer = ⊤

-- ---- nothing of an aborted transaction

-- changes of a transaction that a server of a node commits
pub record Given : Type 0 where
  pub tid : Tid
  pub changes : List Op

-- the changes of these, one after the other
abbrev pub changes_given : List Given → List Op
changes_given givens = flat_map (λ (given : Given). given.changes) givens

abbrev pub IsCommitted : BookValue → Tid → Type 0
IsCommitted book tid = cell_of_transaction (find_transaction book tid) ≡ Some cells.Commit

-- the server had just these changes of the transaction pending, or on record, and the transaction is committed
pub record IsGiven (node : NodeValue) (server : ℕ) (book : BookValue) (given : Given) : Type 0 where
  pub held : (given.changes ≡ pending_at node given.tid server) ⊎ (given.changes ≡ changes_of (record_of node given.tid server))
  pub committed : IsCommitted book given.tid

-- The committed files of a node, and the committed notes of its audit, change by changes of committed transactions alone.
pub record TakesCommitted (book : BookValue) (before after : NodeValue) : Type 0 where
  pub files : List Given
  pub audit : List Given
  pub files_given : All (IsGiven before 0 book) files
  pub audit_given : All (IsGiven before 1 book) audit
  pub contents : after.files.contents ≡ fold apply_change before.files.contents (changes_given files)
  pub notes : after.audit.notes ≡ fold apply_note before.audit.notes (changes_given audit)

-- an entry at which committed files and notes may change: a member of the node learns commit, or the node restarts
abbrev pub may_take : Act → Bool
may_take (acts.Learn tid member outcomes.Commit) = true
may_take (acts.Restart inc pend done) = true
may_take act = false

-- the committed files and notes are the same
pub record LeavesCommitted (before after : NodeValue) : Type 0 where
  pub contents : after.files.contents ≡ before.files.contents
  pub notes : after.audit.notes ≡ before.audit.notes
