use Rattle.std.proofs.Common.{◌≡◌, take, fold}
use Rattle.qs_node_step.specs.Settling.{settle_tid}
use Rattle.qs_node_settling.proofs.settling.settle_each.Given as goal

abbrev pub invariant-loop-tid : goal.invariant-loop-tid
invariant-loop-tid g l = record {
  done : l.work ≡ fold (settle_tid) l.initial.work (take l.tid-index l.tids);
  saved : l.work.node.kept.saved ≡ l.initial.work.node.kept.saved;
}
