-- Texts that are committed or pending.
use Rattle.std.specs.Prelude.{◌≡◌, ℕ, List, Option, Some, None}
use Rattle.std.specs.Map.{lookup}
use Rattle.std.specs.BTreeMap.{is_at}
use Rattle.qs_base.specs.Order.{tid_cmp}
use Rattle.qs_base.specs.declared.identifiers.Tid.{Tid}

-- the pending text where there is one, else the committed one
abbrev pub shadowed : Option (List ℕ) → Option (List ℕ) → Option (List ℕ)
shadowed None before = before
shadowed (Some text) before = Some text

-- nothing is committed, and no transaction has anything pending
pub record IsEmptied (text : Option (List ℕ)) (pending : List (Tid × List ℕ)) : Type 0 where
  pub committed : text ≡ None
  pub staged : (t : Tid) → lookup (is_at (tid_cmp t)) pending ≡ None
