use Rattle.std.proofs.Common.{◌≡◌, take, fold}
use Rattle.qs_node_step.specs.Deciding.{learn_member}
use Rattle.qs_node_settling.proofs.deciding.learn_each.Given as goal

abbrev pub invariant-loop-server : goal.invariant-loop-server
invariant-loop-server g l = record {
  done : l.work ≡ fold (learn_member l.tid l.outcome) l.initial.work (take l.server-index l.servers);
  saved : l.work.node.kept.saved ≡ l.initial.work.node.kept.saved;
}
