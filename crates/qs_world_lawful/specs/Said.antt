-- What a log says of contents and changes, and what the machine has of them: committed files and notes are those that the log's
-- Commits leave, and what is on record is what the log's Prepare has.
use Rattle.std.specs.Prelude.{◌≡◌, ℕ, true, false, List, length, None, Option, Some}
use Rattle.qs_base.specs.declared.identifiers.Tid.{Tid}
use Rattle.qs_book_laws.specs.Served.{keeps_contents}
use Rattle.qs_book_machine.specs.Book.{BookValue, crossed_in, find_transaction}
use Rattle.qs_book_machine.specs.Nodes as machine
use Rattle.qs_book_machine.specs.Restart.{count_of, is_among, member_at, put_new_votes, record_at, reopened}
use Rattle.qs_book_machine.specs.declared.state.OnRecord.{OnRecord}
use Rattle.qs_ops.specs.Servers.{files_no}
use Rattle.qs_ops.specs.Table.{TableValue, no_table, applied}
use Rattle.qs_ops.specs.declared.operation.Op.{Op}
use Rattle.qs_restart.specs.Recovery.{Prepared, Recovery, names_transaction}
use Rattle.qs_world_lawful.specs.Logged.{HasCommitted}
use Rattle.qs_world_lawful.specs.Logs.{Every, found_votes}

-- ---- contents

pub record SameContents (table other : TableValue) : Type 0 where
  pub contents : table.contents ≡ other.contents
  pub notes : table.notes ≡ other.notes

-- the machine's table has what these committed changes make of nothing
abbrev pub IsMadeBy : TableValue → List Op → Type 0
IsMadeBy table changes = SameContents table (applied no_table changes)

-- ---- votes

-- on record is what the Prepare has, where the transaction is not crossed at the member; of files the count stands in any case; of a
-- vote with a Commit behind it nothing is asked
pub record IsRecorded (here : ℕ) (book : BookValue) (rec : Option OnRecord) (vote : Prepared) : Type 0 where
  pub changes : crossed_in (find_transaction book vote.tid) (member_at here vote.server.0) ≡ false → machine.changes_of rec ≡ vote.changes
  pub count : vote.server.0 ≡ files_no → count_of rec ≡ length vote.changes

abbrev pub IsAsRecorded : ℕ → BookValue → machine.NodeValue → Prepared → Type 0
IsAsRecorded here book state vote = vote.committed ≡ false → (rec : OnRecord) → machine.record_of state vote.tid vote.server.0 ≡ Some rec → IsRecorded here book (Some rec) vote

-- a Prepare with no Commit behind it has none before it either
abbrev pub IsApart : Recovery → Prepared → Type 0
IsApart log vote = names_transaction vote.tid ≡ true → vote.committed ≡ false → is_among log.committed vote.tid ≡ false

-- what is in doubt at its home is not committed
abbrev pub IsUndone : ℕ → BookValue → Prepared → Type 0
IsUndone here book vote = vote.tid.home.0 ≡ here → names_transaction vote.tid ≡ true → vote.committed ≡ false → HasCommitted book vote.tid → ⊥

-- ---- a node that runs, after a whole step

pub record HoldsSaid (here : ℕ) (book : BookValue) (state : machine.NodeValue) (log : Recovery) : Type 0 where
  pub files : IsMadeBy state.files log.files
  pub audit : IsMadeBy state.audit log.audit
  pub recorded : Every (IsAsRecorded here book state) log.prepared
  pub apart : Every (IsApart log) log.prepared
  pub gone : (tid : Tid) (server : ℕ) → keeps_contents server ≡ true → is_among log.committed tid ≡ true → machine.record_of state tid server ≡ None  -- it was applied
  pub undone : Every (IsUndone here book) log.prepared

-- ---- a node that is down: what its log has that was not applied is applied as it restarts

-- the machine as it puts the votes on record that a restart finds
abbrev pub book_found : ℕ → BookValue → Recovery → BookValue
book_found here book log = put_new_votes here (found_votes log) book

-- a Prepare in doubt will be on record then
abbrev pub IsToBeRecorded : ℕ → BookValue → Recovery → Prepared → Type 0
IsToBeRecorded here book log vote = names_transaction vote.tid ≡ true → vote.committed ≡ false → IsRecorded here book (record_at here (book_found here book log) vote.tid vote.server.0) vote

pub record HoldsLeft (here : ℕ) (book : BookValue) (state : machine.NodeValue) (log : Recovery) : Type 0 where
  pub files : IsMadeBy (applied state.files (reopened here 0 (found_votes log) log.committed (book_found here book log)).files) log.files
  pub audit : IsMadeBy (applied state.audit (reopened here 0 (found_votes log) log.committed (book_found here book log)).audit) log.audit
  pub recorded : Every (IsToBeRecorded here book log) log.prepared
  pub apart : Every (IsApart log) log.prepared
  pub undone : Every (IsUndone here book) log.prepared
