-- What the transactions hold at a server, each under its identifier, and sums over all of them.
use Rattle.std.specs.Prelude.{◌≡◌, ℕ, ◌+◌, false, List, [], length, sum_by, unwrap_or, if◌then◌else◌}
use Rattle.std.specs.Map.{lookup, values_of}
use Rattle.std.specs.BTreeMap.{is_at}
use Rattle.qs_base.specs.Order.{tid_cmp, same_tid}
use Rattle.qs_base.specs.declared.identifiers.Tid.{Tid}
use Rattle.qs_ops.specs.Table.{nothing_held}
use Rattle.qs_ops.specs.declared.operation.Op.{Op}
use Rattle.qs_ops.specs.declared.share.Share.{Share}

-- what a transaction holds
abbrev pub share_in : List (Tid × Share) → Tid → Share
share_in shares tid = unwrap_or (lookup (is_at (tid_cmp tid)) shares) nothing_held

-- changes that a restart found are all that is held; each counts as one operation
abbrev pub kept_share : List Op → Share
kept_share changes = record { changes = changes; reads = []; operations = length changes; voted = false }

-- a weight of what a transaction holds, summed up over all transactions
abbrev pub total : (Share → ℕ) → List (Tid × Share) → ℕ
total weight shares = sum_by weight (values_of shares)

-- one share took the place of another: each sum is different by just that
abbrev pub IsReplaced : Share → Share → List (Tid × Share) → List (Tid × Share) → Type 0
IsReplaced before after old new =
    (weight : Share → ℕ) → weight nothing_held ≡ 0 → total weight new + weight before ≡ total weight old + weight after

-- one transaction holds this share, and the others hold what they did
abbrev pub IsHeld : Tid → Share → List (Tid × Share) → List (Tid × Share) → Type 0
IsHeld tid share old new = (t : Tid) → share_in new t ≡ (if same_tid tid t then share else share_in old t)

-- how many changes are pending in a share
abbrev pub change_count : Share → ℕ
change_count share = length share.changes
