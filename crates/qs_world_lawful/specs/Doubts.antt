-- Names of a node: all that is pending there binds a name, and the machine doubts each name that what is hidden of it binds.
use Rattle.std.specs.Prelude.{◌≡◌, ℕ, Bool, true, false, List, [], unwrap_or}
use Rattle.std.specs.List.{list_all, list_any}
use Rattle.std.specs.Map.{lookup}
use Rattle.std.specs.BTreeMap.{is_at}
use Rattle.qs_base.specs.Order.{same_bytes, tid_cmp}
use Rattle.qs_base.specs.declared.identifiers.Tid.{Tid}
use Rattle.qs_book_machine.specs.Nodes.{bound_names}
use Rattle.qs_ops.specs.Table.{TableValue, share_of}
use Rattle.qs_ops.specs.declared.operation.Op.{Op}
use Rattle.qs_ops.specs.declared.operation.Op.TheVariants.{Bind}

abbrev pub is_bind : Op → Bool
is_bind (Bind name text) = true
is_bind op = false

-- the names that a crossed transaction may have bound, as the machine has it
abbrev pub doubted : List (Tid × List (List ℕ)) → Tid → List (List ℕ)
doubted doubts tid = unwrap_or (lookup (is_at (tid_cmp tid)) doubts) []

abbrev pub has_name : List ℕ → List (List ℕ) → Bool
has_name name names = list_any (same_bytes name) names

abbrev pub names_of : TableValue → Tid → List (List ℕ)
names_of table tid = bound_names (share_of table tid).changes

pub record HoldsDoubts (seen : Tid → Bool) (doubts : List (Tid × List (List ℕ))) (held : TableValue) : Type 0 where
  pub binds : (tid : Tid) → list_all is_bind (share_of held tid).changes ≡ true
  pub hidden : (tid : Tid) → seen tid ≡ false → (name : List ℕ) → has_name name (names_of held tid) ≡ true → has_name name (doubted doubts tid) ≡ true  -- clause 42
