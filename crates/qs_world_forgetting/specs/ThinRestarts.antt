-- A restart that finds less than the whole log of its node had: nothing of what is over.
use Rattle.std.specs.Prelude.{◌≡◌, ℕ, Bool, true, false, not, List, Some, None, slice_get}
use Rattle.std.specs.List.{filter}
use Rattle.qs_base.specs.declared.identifiers.Tid.{Tid}
use Rattle.qs_book_journal.specs.declared.entry.Found.{Found}
use Rattle.qs_book_machine.specs.Book.{BookValue, find_transaction}
use Rattle.qs_book_machine.specs.Nodes.{NodeValue, record_of}
use Rattle.qs_book_machine.specs.Restart.{broken_restart, is_among, is_new_vote, is_open_here, restart}

-- the votes of what is not over
abbrev pub left_of : (Tid → Bool) → List Found → List Found
left_of over pend = filter (λ (found : Found). not (over found.tid)) pend

-- of what is over nothing is on record at the node, no cell is open there, and no vote is new
pub record AreOver (here : ℕ) (book : BookValue) (node : NodeValue) (over : Tid → Bool) : Type 0 where
  pub unrecorded : (tid : Tid) (server : ℕ) → over tid ≡ true → record_of node tid server ≡ None
  pub closed : (tid : Tid) → over tid ≡ true → is_open_here here tid (find_transaction book tid) ≡ false
  pub stale : (vote : Found) → over vote.tid ≡ true → is_new_vote here node (find_transaction book vote.tid) vote ≡ false

-- no Commit is found that the whole log has not, and all are that are not over; of what is over the whole log has each Commit
pub record IsThinner (over : Tid → Bool) (done fewer : List Tid) : Type 0 where
  pub within : (tid : Tid) → is_among fewer tid ≡ true → is_among done tid ≡ true
  pub same : filter (λ (tid : Tid). not (over tid)) fewer ≡ filter (λ (tid : Tid). not (over tid)) done
  pub whole : (tid : Tid) → over tid ≡ true → is_among done tid ≡ true

-- it is lawful where the restart that finds all is, and does the same
abbrev pub EachThinRestart : Type 0
EachThinRestart = (here : ℕ) (book : BookValue) (node : NodeValue) (over : Tid → Bool) (inc : ℕ) (pend : List Found) (done fewer : List Tid) → slice_get book.nodes here ≡ Some node
    → AreOver here book node over → IsThinner over done fewer → broken_restart here book node inc pend done ≡ None
    → (broken_restart here book node inc (left_of over pend) fewer ≡ None) × (restart here inc (left_of over pend) fewer book ≡ restart here inc pend done book)
