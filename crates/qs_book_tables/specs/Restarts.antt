-- What the changes that a log kept leave in the shares.
use Rattle.std.specs.Prelude.{false, List, [], length}
use Rattle.std.specs.BTreeMap.{insert_entry}
use Rattle.std.specs.List.{fold}
use Rattle.qs_base.specs.Order.{tid_cmp}
use Rattle.qs_base.specs.declared.identifiers.Tid.{Tid}
use Rattle.qs_ops.specs.declared.share.Share.{Share}
use Rattle.qs_ops.specs.declared.share.KeptChanges.{KeptChanges}

-- what a transaction holds whose changes are kept
abbrev pub kept_share : KeptChanges → Share
kept_share k = record { changes = k.changes; reads = []; operations = length k.changes; voted = false }

abbrev pub keep_share : List (Tid × Share) → KeptChanges → List (Tid × Share)
keep_share shares k = insert_entry tid_cmp shares k.tid (kept_share k)

-- what is held after a restart
abbrev pub kept_shares : List KeptChanges → List (Tid × Share)
kept_shares keeps = fold keep_share [] keeps
