-- Sums over what all transactions hold, as one share takes the place of another.
use Rattle.std.proofs.Common.{◌≡◌, ℕ, List, Option, Some, None, refl, sym, arith}
use Rattle.std.specs.Prelude.{unwrap_or}
use Rattle.std.specs.Option.{option_map}
use Rattle.std.specs.List.Sorted.{IsStrictlySortedBy}
use Rattle.std.specs.Map.{lookup, remove_entry, keys_of, values_of}
use Rattle.std.specs.BTreeMap.{insert_entry, is_at}
use Rattle.std.proofs.lemmas.Map.Entries.{sum_by-insert_entry, sum_by-remove_entry}
use Rattle.qs_base.specs.Order.{tid_cmp}
use Rattle.qs_base.specs.declared.identifiers.Tid.{Tid}
use Rattle.qs_base.proofs.TidOrder.{tid_total}
use Rattle.qs_ops.specs.Table.{nothing_held}
use Rattle.qs_ops.specs.declared.share.Share.{Share}
use Rattle.qs_ops_shares.specs.Shares.{share_in, total, IsReplaced}

-- the weight of what a transaction holds, or 0 where it holds nothing
weight-held : (weight : Share → ℕ) → weight nothing_held ≡ 0 → (o : Option Share) → unwrap_or (option_map weight o) 0 ≡ weight (unwrap_or o nothing_held)
weight-held weight none None = sym none
weight-held weight none (Some share) = refl

pub sums-insert : (es : List (Tid × Share)) (tid : Tid) (share : Share) → IsStrictlySortedBy tid_cmp (keys_of es) → IsReplaced (share_in es tid) share es (insert_entry tid_cmp es tid share)
sums-insert es tid share sorted weight none =
    omega (arith, sum_by-insert_entry weight tid_total es tid share sorted, weight-held weight none (lookup (is_at (tid_cmp tid)) es))

pub sums-remove : (es : List (Tid × Share)) (tid : Tid) → IsReplaced (share_in es tid) nothing_held es (remove_entry (is_at (tid_cmp tid)) es)
sums-remove es tid weight none =
    omega (arith, sum_by-remove_entry weight (is_at (tid_cmp tid)) es, weight-held weight none (lookup (is_at (tid_cmp tid)) es), none)
