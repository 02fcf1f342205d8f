-- Notes that a log kept among the changes of files.
use Rattle.std.specs.Prelude.{◌≡◌, ◌≤◌, ℕ, ◌+◌, List, sum_by}
use Rattle.qs_base.specs.declared.identifiers.Tid.{Tid}
use Rattle.qs_ops.specs.declared.operation.Op.{Op}
use Rattle.qs_ops.specs.declared.operation.Op.TheVariants.{Note}
use Rattle.qs_ops.specs.declared.share.Share.{Share}
use Rattle.qs_ops_shares.specs.Shares.{total}

-- how many notes a change makes
abbrev pub notes_in : Op → ℕ
notes_in (Note text) = 1
notes_in op = 0

abbrev pub count_notes : List Op → ℕ
count_notes changes = sum_by notes_in changes

-- how many are pending in a share
abbrev pub note_count : Share → ℕ
note_count share = count_notes share.changes

-- so many notes are pending, and there is room for them behind the committed ones
pub record AreNoted (shares : List (Tid × Share)) (waiting committed capacity : ℕ) : Type 0 where
  pub waits : waiting ≡ total note_count shares
  pub room : committed + waiting ≤ capacity
