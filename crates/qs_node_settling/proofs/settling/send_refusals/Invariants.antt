use Rattle.std.proofs.Common.{◌≡◌, take, fold}
use Rattle.qs_node_step.specs.Settling.{send_refusal}
use Rattle.qs_node_settling.proofs.settling.send_refusals.Given as goal

abbrev pub invariant-loop-cause : goal.invariant-loop-cause
invariant-loop-cause g l = record {
  done : l.work ≡ fold (send_refusal l.tid l.to) l.initial.work (take l.cause-index l.causes);
  saved : l.work.node.kept.saved ≡ l.initial.work.node.kept.saved;
}
