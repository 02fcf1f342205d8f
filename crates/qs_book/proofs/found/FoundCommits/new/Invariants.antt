use Rattle.std.proofs.Common.{◌≡◌, take}
use Rattle.std.specs.List.{list_any}
use Rattle.std.specs.BTreeMap.{is_at}
use Rattle.qs_base.specs.Order.{tid_cmp}
use Rattle.qs_base.specs.declared.identifiers.Tid.{Tid}
use Rattle.qs_book_machine.specs.Restart.{is_among}
use Rattle.qs_book.proofs.found.FoundCommits.new.Given as goal

abbrev pub invariant-loop-tid : goal.invariant-loop-tid
invariant-loop-tid l = record {
  items : l.items.items ≡ take l.tid-index l.tids;
  set : (tid : Tid) → list_any (is_at (tid_cmp tid)) l.set.keys ≡ is_among (take l.tid-index l.tids) tid;
}
