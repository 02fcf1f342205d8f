use Rattle.std.proofs.Common.{◌∙◌}
use Rattle.qs_base_map.proofs.Loops.{one_more}
use Rattle.qs_node_step.specs.Settling.{settle_tid}
use Rattle.qs_node_settling.proofs.settling.settle_each.Goals as goal

pub loop-tid-preserved : goal.loop-tid-preserved
loop-tid-preserved g c = record {
  done = one_more (settle_tid) c.args.work.now c.args.tids.now c.loop-tid.tid-index _ c.loop-tid-test.true c.loop-tid.work c.settle_tid.new.work c.loop-tid.invariant.done c.in_ok-settle_tid.ensures.ok;
  saved = c.settle_tid.ensures.saved ∙ c.loop-tid.invariant.saved;
}
