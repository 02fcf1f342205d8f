-- The journal of a run, from the journals of its nodes: by stamp, then by node, then as they stand.
use Rattle.std.specs.Prelude.{List}
use Rattle.std.specs.List.{flat_map}
use Rattle.std.specs.List.Sorted.{IsPermutation, IsSorted, IsStable}
use Rattle.std.specs.Ordering.{nat_cmp, ordering_then}
use Rattle.std.specs.declared.cmp.Ordering.{Ordering}
use Rattle.qs_book_journal.specs.declared.entry.Entry.{Entry}

-- how two entries stand to each other: by stamp, and where these are one by node
abbrev pub entry_cmp : Entry → Entry → Ordering
entry_cmp x y = ordering_then (nat_cmp x.stamp y.stamp) (nat_cmp x.node.0 y.node.0)

-- the lists one after the other
abbrev pub flat : List (List Entry) → List Entry
flat journals = flat_map (λ entries. entries) journals

-- the entries of all lists, none more and none less; none is below the one before it; and those of one
-- stamp and node stand as they stood
pub record IsMerged (journals : List (List Entry)) (merged : List Entry) : Type 0 where
  pub all : IsPermutation (flat journals) merged
  pub in_order : IsSorted entry_cmp merged
  pub as_they_stood : IsStable entry_cmp (flat journals) merged
