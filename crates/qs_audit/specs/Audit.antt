-- What an audit server holds: the changes that were committed, in order, and what the transactions hold.
use Rattle.std.specs.Prelude.{◌≡◌, ◌≤◌, ℕ, ◌+◌, List, []}
use Rattle.std.specs.List.{fold}
use Rattle.qs_base.specs.declared.identifiers.Tid.{Tid}
use Rattle.qs_ops.specs.Table.{TableValue, apply_change, apply_note}
use Rattle.qs_ops.specs.declared.operation.Op.{Op}
use Rattle.qs_ops.specs.declared.share.Share.{Share}
use Rattle.qs_ops_shares.specs.Shares.{total, change_count}

-- the notes are those that the committed changes make; a log may keep a change to a name too, which makes none
abbrev pub audit_table : List Op → List (Tid × Share) → TableValue
audit_table committed shares = record { contents = fold apply_change [] committed; notes = fold apply_note [] committed; shares = shares }

-- what an audit server keeps: how many changes are pending, and room for all of them among the committed ones
pub record IsKept (shares : List (Tid × Share)) (pending committed capacity : ℕ) : Type 0 where
  pub counted : pending ≡ total change_count shares
  pub room : committed + pending ≤ capacity
