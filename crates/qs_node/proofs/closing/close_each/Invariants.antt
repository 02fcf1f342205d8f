use Rattle.std.proofs.Common.{◌≡◌, take}
use Rattle.qs_node_kept.specs.Keeping.{with_now}
use Rattle.qs_node.specs.Closed.{closed_by}
use Rattle.qs_node.proofs.closing.close_each.Given as goal

abbrev pub invariant-loop-tid : goal.invariant-loop-tid
invariant-loop-tid l = record {
  done : l.kept ≡ with_now (closed_by l.node l.committed (take l.tid-index l.tids)) l.initial.kept;
  saved : l.kept.saved ≡ l.initial.kept.saved;
}
