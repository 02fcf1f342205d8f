use Rattle.std.proofs.Common.{◌≡◌, take, fold}
use Rattle.qs_node_step.specs.Restarts.{notice_tid}
use Rattle.qs_node.proofs.restarting.notice_each.Given as goal

abbrev pub invariant-loop-tid : goal.invariant-loop-tid
invariant-loop-tid g l = record {
  done : l.work ≡ fold (notice_tid l.peer l.old l.new) l.initial.work (take l.tid-index l.tids);
  saved : l.work.node.kept.saved ≡ l.initial.work.node.kept.saved;
}
