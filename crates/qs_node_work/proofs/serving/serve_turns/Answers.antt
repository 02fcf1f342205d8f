use Rattle.std.proofs.Common.{◌∙◌}
use Rattle.qs_base_map.proofs.Loops.{one_more}
use Rattle.qs_node_step.specs.Serving.{serve_next}
use Rattle.qs_node_work.proofs.serving.serve_turns.Goals as goal

pub loop-server-preserved : goal.loop-server-preserved
loop-server-preserved g c = record {
  done = one_more serve_next c.args.work.now c.args.turns.now c.loop-server.server-index _ c.loop-server-test.true c.loop-server.work c.serve_next.new.work c.loop-server.invariant.done c.in_ok-serve_next.ensures.ok;
  saved = c.serve_next.ensures.saved ∙ c.loop-server.invariant.saved;
}
