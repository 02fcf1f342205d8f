-- That a request stood open as the machine tells it from what it counts: the form in which the steps are followed.
use Rattle.qs_book_laws.proofs.Words.{◌≡◌, ℕ, ◌<◌, Bool, true, false, List, ◌++◌, Option, Some, None, NodeNo, Tid, Entry, TransactionValue, is_open_to, BookValue, find_transaction, inc_at, book_after}

abbrev pub is_open_in : NodeNo → Option TransactionValue → Bool
is_open_in node None = false
is_open_in node (Some tx) = is_open_to tx node

-- a request of the transaction to the node is open
abbrev pub is_open_at : BookValue → Tid → NodeNo → Bool
is_open_at book tid node = is_open_in node (find_transaction book tid)

-- at some moment, when the node had restarted from that incarnation, a request to it was open
pub record OpenThen (first : BookValue) (history : List Entry) (tid : Tid) (node : NodeNo) (gone : ℕ) : Type 0 where
  pub early : List Entry
  pub late : List Entry
  pub parts : history ≡ early ++ late
  pub restarted : gone < inc_at (book_after first early) node
  pub open_then : is_open_at (book_after first early) tid node ≡ true
