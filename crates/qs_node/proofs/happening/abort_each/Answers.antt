use Rattle.std.proofs.Common.{◌∙◌}
use Rattle.qs_base_map.proofs.Loops.{one_more}
use Rattle.qs_node_step.specs.Step.{abort_old}
use Rattle.qs_node.proofs.happening.abort_each.Goals as goal

pub loop-tid-preserved : goal.loop-tid-preserved
loop-tid-preserved g c = record {
  done = one_more (abort_old c.args.age) c.args.work.now c.args.tids.now c.loop-tid.tid-index _ c.loop-tid-test.true c.loop-tid.work c.abort_old.new.work c.loop-tid.invariant.done c.in_ok-abort_old.ensures.ok;
  saved = c.abort_old.ensures.saved ∙ c.loop-tid.invariant.saved;
}
