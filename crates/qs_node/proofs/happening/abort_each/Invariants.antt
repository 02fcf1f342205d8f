use Rattle.std.proofs.Common.{◌≡◌, take, fold}
use Rattle.qs_node_step.specs.Step.{abort_old}
use Rattle.qs_node.proofs.happening.abort_each.Given as goal

abbrev pub invariant-loop-tid : goal.invariant-loop-tid
invariant-loop-tid g l = record {
  done : l.work ≡ fold (abort_old l.age) l.initial.work (take l.tid-index l.tids);
  saved : l.work.node.kept.saved ≡ l.initial.work.node.kept.saved;
}
