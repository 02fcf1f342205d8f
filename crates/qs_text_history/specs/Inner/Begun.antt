-- Whom a word names, as the reader finds it.
use Rattle.std.specs.Prelude.{ℕ, Bool, List, Option, Some, None, if◌then◌else◌}
use Rattle.std.specs.List.{list_any}
use Rattle.std.specs.BTreeMap.{is_at}
use Rattle.std.specs.Map.{lookup}
use Rattle.qs_base.specs.Order.{bytes_cmp, tid_cmp}
use Rattle.qs_base.specs.declared.identifiers.Tid.{Tid}
use Rattle.qs_text_history.specs.Inner.Words.{tid_of}
use Rattle.qs_text_history.specs.Begun.{or_else}

-- ---- whom a word names

-- the transaction, where it was not begun
abbrev pub unbegun : (Tid → Bool) → Option Tid → Option Tid
unbegun begun None = None
unbegun begun (Some tid) = if begun tid then None else Some tid

-- the transaction of that label, or else of that identifier where it was not begun under a label
abbrev pub holder_in : (List ℕ → Option Tid) → (Tid → Bool) → List ℕ → Option Tid
holder_in first begun word = or_else (first word) (unbegun begun (tid_of word))

-- ---- as maps keep it

-- the labels with their transactions, and the transactions
pub record BegunValue : Type 0 where
  pub labels : List (List ℕ × Tid)
  pub tids : List Tid

-- the transaction of a label
abbrev pub label_in : BegunValue → List ℕ → Option Tid
label_in begun label = lookup (is_at (bytes_cmp label)) begun.labels

-- the transaction was begun
abbrev pub tid_in : BegunValue → Tid → Bool
tid_in begun tid = list_any (is_at (tid_cmp tid)) begun.tids

-- the transaction that a busy answer names by this word
unfoldable pub holder_by : BegunValue → List ℕ → Option Tid
holder_by begun word = holder_in (label_in begun) (tid_in begun) word
