use Rattle.std.proofs.Common.{◌≡◌, [], take}
use Rattle.std.specs.List.{fold, list_any}
use Rattle.std.specs.BTreeMap.{is_at}
use Rattle.qs_base.specs.Order.{tid_cmp}
use Rattle.qs_base.specs.declared.identifiers.Tid.{Tid}
use Rattle.qs_book_machine.specs.Restart.{add_commit, is_among}
use Rattle.qs_book.proofs.book.reviving.commits_found.Given as goal

abbrev pub invariant-loop-tid : goal.invariant-loop-tid
invariant-loop-tid l = record {
  tids : l.tids ≡ fold (add_commit l.here.0 l.book) [] (take l.tid-index l.done);
  set : (other : Tid) → list_any (is_at (tid_cmp other)) l.set.keys ≡ is_among l.tids other;
}
