use Rattle.std.proofs.Common.{◌≡◌, take, fold}
use Rattle.qs_node_step.specs.Bringing.{send_next}
use Rattle.qs_node_work.proofs.sending.send_each.Given as goal

abbrev pub invariant-loop-node : goal.invariant-loop-node
invariant-loop-node g l = record {
  done : l.work ≡ fold (send_next l.message) l.initial.work (take l.node-index l.nodes);
  saved : l.work.node.kept.saved ≡ l.initial.work.node.kept.saved;
}
