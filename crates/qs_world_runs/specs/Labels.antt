-- The labels that a node keeps of transactions of its own: what began under one has its label there, as its owner's; and of what stood as the
-- run opened, which has no owner, nothing is issued.
use Rattle.std.specs.Prelude.{◌≡◌, Bool, true, ◌&&◌, List, [], Some, None, is_some}
use Rattle.std.specs.List.{list_any}
use Rattle.qs_base.specs.declared.identifiers.NodeNo.{NodeNo}
use Rattle.qs_base.specs.declared.identifiers.Tid.{Tid}
use Rattle.qs_book_journal.specs.declared.entry.Entry.{Entry}
use Rattle.qs_node_kept.specs.Keeping.{is_label_of}
use Rattle.qs_node_kept.specs.declared.kept.KeptLabel.{KeptLabel}
use Rattle.qs_book_machine.specs.Book.{BookValue, find_transaction}
use Rattle.qs_book_machine.specs.Lawful.{IsLawful, book_after}
use Rattle.qs_book_machine.specs.Transaction.{TransactionValue}
use Rattle.qs_world.specs.Histories.{book_of}
use Rattle.qs_world.specs.Openings.{IsOpening}
use Rattle.qs_world.specs.World.{Opening}
use Rattle.qs_world_lawful.specs.Logs.{Every}

-- ---- of one node

abbrev pub is_owned_as : Tid → KeptLabel → Bool
is_owned_as tid begun = is_some begun.owner && is_label_of tid begun

-- one of the labels is the owner's
abbrev pub is_owned_in : List KeptLabel → Tid → Bool
is_owned_in labels tid = list_any (is_owned_as tid) labels

-- a label that a node keeps of a transaction of its own it keeps too as its owner's
abbrev pub AreOwned : NodeNo → List KeptLabel → KeptLabel → Type 0
AreOwned here labels begun = (tid : Tid) → begun.tid ≡ Some tid → tid.home ≡ here → is_owned_in labels tid ≡ true

pub record HoldsLabels (book : BookValue) (here : NodeNo) (labels : List KeptLabel) : Type 0 where
  pub owned : Every (AreOwned here labels) labels
  pub begun : (tid : Tid) (tx : TransactionValue) → find_transaction book tid ≡ Some tx → is_some tx.owner ≡ true → tid.home ≡ here → is_owned_in labels tid ≡ true

-- ---- of the machine

-- what commit was asked for, or has a request, began in the run: nothing is done of what stood as it opened, which has no owner
abbrev pub RequestsOwned : Type 0
RequestsOwned = (o : Opening) → IsOpening o → (history : List Entry) → IsLawful (book_of o) history → (tid : Tid) (tx : TransactionValue) → find_transaction (book_after (book_of o) history) tid ≡ Some tx
    → tx.owner ≡ None → (tx.asked ≡ None) × (tx.requests ≡ [])
