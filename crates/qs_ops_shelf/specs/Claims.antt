-- Who claims a name.
use Rattle.std.specs.Prelude.{Bool, not, ◌&&◌, List, [], Option, Some, None}
use Rattle.std.specs.Map.{keys_of}
use Rattle.qs_base.specs.Order.{same_tid}
use Rattle.qs_base.specs.declared.identifiers.Tid.{Tid}
use Rattle.qs_ops.specs.declared.share.Share.{Share}
use Rattle.qs_ops_shares.specs.Shares.{share_in}
use Rattle.qs_ops_shelf.specs.declared.slot.ShelfText.{ShelfText}

-- another transaction, whose last vote is volatile
abbrev pub is_voter : Tid → List (Tid × Share) → Tid → Bool
is_voter me shares tid = not (same_tid me tid) && (share_in shares tid).voted

-- the transactions that have a text pending there
abbrev pub holders_of : Option ShelfText → List Tid
holders_of None = []
holders_of (Some slot) = keys_of slot.pending.entries
