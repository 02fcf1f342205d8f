-- How many bytes the texts under names have, all together.
use Rattle.std.specs.Prelude.{◌≡◌, Bool, false, ◌||◌, is_some, ℕ, ◌+◌, List, [], ◌∷◌, Option, Some, if◌then◌else◌, IfSome}
use Rattle.std.specs.List.{list_any}
use Rattle.std.specs.List.Sorted.{IsStrictlySortedBy}
use Rattle.std.specs.Map.{lookup, keys_of}
use Rattle.std.specs.BTreeMap.{is_at}
use Rattle.qs_base.specs.Order.{bytes_cmp, same_bytes}
use Rattle.qs_base.specs.declared.identifiers.Tid.{Tid}
use Rattle.qs_ops.specs.Table.{is_change_of}
use Rattle.qs_ops.specs.declared.operation.Op.{Op}
use Rattle.qs_files_contents.specs.Slots.{Entries, slot_or_new, seen_at, text_at}
use Rattle.qs_files_contents.specs.Texts.{text_bytes}
use Rattle.qs_files_contents.specs.declared.counting.Count.{Count}
use Rattle.qs_files_contents.specs.declared.slot.FileText.{FileText}

-- ---- sums over all names

abbrev pub sum_under : (List ℕ → FileText → ℕ) → Entries → ℕ
sum_under count [] = 0
sum_under count (e ∷ es) = count e.0 e.1 + sum_under count es

abbrev pub bytes_at : List ℕ → FileText → ℕ
bytes_at name slot = text_bytes (text_at slot)

abbrev pub committed_bytes : Entries → ℕ
committed_bytes slots = sum_under bytes_at slots

-- what is told of the committed bytes
abbrev pub IsCommitted : Entries → Option ℕ → Type 0
IsCommitted slots bytes = IfSome bytes (λ n. n ≡ committed_bytes slots)

-- a sum with one count in place of another
abbrev pub IsReplacedSum : Option ℕ → Option ℕ → Option ℕ → ℕ → Type 0
IsReplacedSum (Some sum) (Some before) (Some after) n = n + before ≡ sum + after
IsReplacedSum sum before after n = ⊥

-- ---- what a transaction sees

-- the transaction sees what is committed under each name but those of its changes
pub record ChangesAlone (tid : Tid) (slots : Entries) (changes : List Op) : Type 0 where
  pub names : IsStrictlySortedBy bytes_cmp (keys_of slots)
  pub others : (q : List ℕ) → list_any (is_change_of q) changes ≡ false → seen_at (slot_or_new slots q) tid ≡ text_at (slot_or_new slots q)

-- where a test passes, the bytes that the transaction sees, else the committed ones
abbrev pub count_at : Tid → (List ℕ → Bool) → List ℕ → FileText → ℕ
count_at tid test name slot = if test name then text_bytes (seen_at slot tid) else text_bytes (text_at slot)

-- a name is counted
abbrev pub has_counted : Count → List ℕ → Bool
has_counted count name = is_some (lookup (is_at (bytes_cmp name)) count.names)

-- the texts under the names that pass a test are counted as the transaction sees them
pub record IsCounted (tid : Tid) (slots : Entries) (test : List ℕ → Bool) (count : Count) : Type 0 where
  pub bytes : count.bytes ≡ sum_under (count_at tid test) slots
  pub names : (q : List ℕ) → has_counted count q ≡ test q

-- and those under the name too
abbrev pub CountsAlso : Tid → Entries → List ℕ → Count → Count → Type 0
CountsAlso tid slots name old new =
    IsStrictlySortedBy bytes_cmp (keys_of slots) → (test : List ℕ → Bool) → IsCounted tid slots test old → IsCounted tid slots (λ q. test q || same_bytes name q) new

-- and that of the change too
abbrev pub CountsOn : Tid → Entries → Op → Count → Count → Type 0
CountsOn tid slots op old new =
    IsStrictlySortedBy bytes_cmp (keys_of slots) → (test : List ℕ → Bool) → IsCounted tid slots test old → IsCounted tid slots (λ q. test q || is_change_of q op) new
