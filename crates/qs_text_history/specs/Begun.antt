-- The transactions that were begun under labels.
use Rattle.std.specs.Prelude.{ℕ, Bool, false, List, [], ◌∷◌, Option, Some, None, if◌then◌else◌}
use Rattle.std.specs.List.{list_any}
use Rattle.qs_base.specs.Order.{same_bytes, same_tid}
use Rattle.qs_base.specs.declared.identifiers.Tid.{Tid}
use Rattle.qs_book_journal.specs.declared.entry.Act.{Act}
use Rattle.qs_book_journal.specs.declared.entry.Act.TheVariants as acts
use Rattle.qs_book_journal.specs.declared.entry.Entry.{Entry}

-- ---- what entries began

abbrev pub or_else : Option Tid → Option Tid → Option Tid
or_else (Some tid) other = Some tid
or_else None other = other

abbrev pub begun_with : List ℕ → Tid → List ℕ → Option Tid
begun_with label tid other = if same_bytes label other then Some tid else None

-- the transaction that the act begins under this label
abbrev pub begun_as : List ℕ → Act → Option Tid
begun_as label (acts.Begin tid other client) = begun_with other tid label
begun_as label _ = None

-- the transaction of the first begin with this label
abbrev pub first_begun : List ℕ → List Entry → Option Tid
first_begun label [] = None
first_begun label (entry ∷ entries) = or_else (begun_as label entry.act) (first_begun label entries)

abbrev pub begins_by : Tid → Act → Bool
begins_by tid (acts.Begin other label client) = same_tid other tid
begins_by tid _ = false

abbrev pub begins : Tid → Entry → Bool
begins tid entry = begins_by tid entry.act

-- one of the entries begins the transaction
abbrev pub is_begun : Tid → List Entry → Bool
is_begun tid entries = list_any (begins tid) entries
