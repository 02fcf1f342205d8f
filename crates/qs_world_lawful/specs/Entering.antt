-- The entries of a step so far are lawful, and the machine after them holds what the node has in the middle of its step.
use Rattle.std.specs.Prelude.{◌≡◌, ℕ, true, List, Some}
use Rattle.qs_book_journal.specs.declared.entry.Entry.{Entry}
use Rattle.qs_base.specs.declared.identifiers.Tid.{Tid}
use Rattle.qs_book_machine.specs.Book.{BookValue, find_transaction}
use Rattle.qs_book_machine.specs.Transaction.{TransactionValue, is_abort}
use Rattle.qs_book_machine.specs.Lawful.{IsLawful, book_after}
use Rattle.qs_world.specs.Posting.{entries_of}
use Rattle.qs_node_step.specs.State.{Work, here}
use Rattle.qs_world_lawful.specs.Holds.{Holds}

-- the entries of the step so far
abbrev pub entries_so_far : ℕ → Work → List Entry
entries_so_far stamp work = entries_of (here work).0 stamp work.out.entries

-- the machine after them
abbrev pub book_at : ℕ → BookValue → Work → BookValue
book_at stamp before work = book_after before (entries_so_far stamp work)

pub record HoldsWork (stamp : ℕ) (before : BookValue) (work : Work) : Type 0 where
  pub lawful : IsLawful before (entries_so_far stamp work)
  pub holds : Holds stamp (book_at stamp before work) work.node

-- the machine has the transaction aborted
pub record IsAborted (stamp : ℕ) (before : BookValue) (work : Work) (tid : Tid) : Type 0 where
  pub tx : TransactionValue
  pub found : find_transaction (book_at stamp before work) tid ≡ Some tx
  pub aborted : is_abort tx.cell ≡ true
