-- How many changes files have pending of a transaction that began in the run: each counts as an operation, of which a server takes so many at most,
-- so a note can tell their count. Of what stood in a log as the run opened nothing is said: its changes may be any.
use Rattle.std.specs.Prelude.{◌≡◌, ℕ, ◌==◌, ◌≤◌, ◌<◌, ◌^◌, ⊤, true, false, List, Some, is_some, length}
use Rattle.qs_base.specs.declared.identifiers.Tid.{Tid}
use Rattle.qs_book_journal.specs.declared.entry.Entry.{Entry}
use Rattle.qs_book_machine.specs.Book.{find_transaction}
use Rattle.qs_book_machine.specs.Lawful.{IsLawful, book_after}
use Rattle.qs_book_machine.specs.Transaction.{TransactionValue}
use Rattle.qs_ops.specs.Servers.{files_no}
use Rattle.qs_ops.specs.Table.{TableValue}
use Rattle.qs_ops.specs.declared.share.Share.{Share}
use Rattle.qs_record.specs.declared.record.Record.{Record}
use Rattle.qs_record.specs.declared.record.Record.TheVariants as records
use Rattle.qs_tm.specs.declared.manager.Manager.{Manager}
use Rattle.qs_tm.specs.declared.participant.Participant.{Participant}
use Rattle.qs_world.specs.Histories.{book_of}
use Rattle.qs_world.specs.Moves.{Move, may_move, moved}
use Rattle.qs_world.specs.Openings.{IsOpening, is_earlier}
use Rattle.qs_world.specs.World.{Host, Opening, World}
use Rattle.qs_world_lawful.specs.Logs.{Every}
use Rattle.qs_world_runs.specs.Stores.{Store}

-- ---- at files of one node, of the transactions of T

pub record IsFew (share : Share) : Type 0 where
  pub counted : length share.changes ≤ share.operations
  pub few : share.operations < 2 ^ 64

abbrev pub IsFewOf : (Tid → Type 0) → Tid × Share → Type 0
IsFewOf T entry = T entry.0 → IsFew entry.1

abbrev pub AreFew : (Tid → Type 0) → TableValue → Type 0
AreFew T table = Every (IsFewOf T) table.shares

-- a vote of files has so few changes
abbrev pub IsFewVote : (Tid → Type 0) → Record → Type 0
IsFewVote T (records.Prepare tid server covers changes) = T tid → (server.0 == files_no) ≡ true → length changes < 2 ^ 64
IsFewVote T rec = ⊤

-- in the middle of a step
pub record HasRoom (T : Tid → Type 0) (s : Store) : Type 0 where
  pub shares : AreFew T s.servers.files.table
  pub records : Every (IsFewVote T) s.records

-- ---- commit was asked for of none but those

abbrev pub IsAskedOf : (Tid → Type 0) → Tid × Participant → Type 0
IsAskedOf T entry = entry.1.asked ≡ true → T entry.0

abbrev pub AreAsked : (Tid → Type 0) → Manager → Type 0
AreAsked T manager = Every (IsAskedOf T) manager.known

-- ---- at all nodes of a world, whether they run or not, and in their logs

-- no log of the opening can name it
abbrev pub IsOfRun : Opening → Tid → Type 0
IsOfRun o tid = is_earlier o tid ≡ false

-- so it is of what has an owner, and of what commit was asked for
abbrev pub OwnedOfRun : Type 0
OwnedOfRun = (o : Opening) → IsOpening o → (history : List Entry) → IsLawful (book_of o) history → (tid : Tid) (tx : TransactionValue) → find_transaction (book_after (book_of o) history) tid ≡ Some tx
    → is_some tx.owner ≡ true → IsOfRun o tid

abbrev pub AskedOfRun : Type 0
AskedOfRun = (o : Opening) → IsOpening o → (history : List Entry) → IsLawful (book_of o) history → (tid : Tid) (tx : TransactionValue) → find_transaction (book_after (book_of o) history) tid ≡ Some tx
    → is_some tx.asked ≡ true → IsOfRun o tid

pub record HostHasRoom (T : Tid → Type 0) (host : Host) : Type 0 where
  pub shares : AreFew T host.node.servers.files.table
  pub logged : Every (IsFewVote T) host.log
  pub waits : Every (IsFewVote T) host.waiting

abbrev pub RoomsAt : Opening → World → Type 0
RoomsAt o world = (n : ℕ) → n < world.size → HostHasRoom (IsOfRun o) (world.hosts n)

abbrev pub RoomsStay : Type 0
RoomsStay = (o : Opening) (world : World) (move : Move) → may_move world move ≡ true → RoomsAt o world → RoomsAt o (moved move world)
