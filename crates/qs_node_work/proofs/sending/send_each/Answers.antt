use Rattle.std.proofs.Common.{◌∙◌}
use Rattle.qs_base_map.proofs.Loops.{one_more}
use Rattle.qs_node_step.specs.Bringing.{send_next}
use Rattle.qs_node_work.proofs.sending.send_each.Goals as goal

pub loop-node-preserved : goal.loop-node-preserved
loop-node-preserved g c = record {
  done = one_more (send_next c.args.message.now) c.args.work.now c.args.nodes.now c.loop-node.node-index _ c.loop-node-test.true c.loop-node.work c.send_next.new.work c.loop-node.invariant.done c.in_ok-send_next.ensures.ok;
  saved = c.send_next.ensures.saved ∙ c.loop-node.invariant.saved;
}
