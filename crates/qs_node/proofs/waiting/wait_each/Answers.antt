use Rattle.std.proofs.Common.{◌∙◌}
use Rattle.qs_base_map.proofs.Loops.{one_more}
use Rattle.qs_node_step.specs.Step.{wait_on}
use Rattle.qs_node.proofs.waiting.wait_each.Goals as goal

pub loop-client-preserved : goal.loop-client-preserved
loop-client-preserved g c = record {
  done = one_more (wait_on) c.args.work.now c.args.clients.now c.loop-client.client-index _ c.loop-client-test.true c.loop-client.work c.wait_on.new.work c.loop-client.invariant.done c.in_ok-wait_on.ensures.ok;
  saved = c.wait_on.ensures.saved ∙ c.loop-client.invariant.saved;
}
