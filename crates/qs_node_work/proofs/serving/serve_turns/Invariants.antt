use Rattle.std.proofs.Common.{◌≡◌, take, fold}
use Rattle.qs_node_step.specs.Serving.{serve_next}
use Rattle.qs_node_work.proofs.serving.serve_turns.Given as goal

abbrev pub invariant-loop-server : goal.invariant-loop-server
invariant-loop-server g l = record {
  done : l.work ≡ fold serve_next l.initial.work (take l.server-index l.turns);
  saved : l.work.node.kept.saved ≡ l.initial.work.node.kept.saved;
}
