use Rattle.std.proofs.Common.{◌≡◌, take, fold}
use Rattle.qs_node_step.specs.Step.{wait_on}
use Rattle.qs_node.proofs.waiting.wait_each.Given as goal

abbrev pub invariant-loop-client : goal.invariant-loop-client
invariant-loop-client g l = record {
  done : l.work ≡ fold (wait_on) l.initial.work (take l.client-index l.clients);
  saved : l.work.node.kept.saved ≡ l.initial.work.node.kept.saved;
}
