-- Sets of labels.
use Rattle.std.specs.Prelude.{ℕ, Bool, List}
use Rattle.std.specs.List.{list_any}
use Rattle.std.specs.BTreeMap.{is_at}
use Rattle.qs_base.specs.Order.{bytes_cmp}

-- the label is one of these
abbrev pub has_label : List ℕ → List (List ℕ) → Bool
has_label label labels = list_any (is_at (bytes_cmp label)) labels
