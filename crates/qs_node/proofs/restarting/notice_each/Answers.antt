use Rattle.std.proofs.Common.{◌∙◌}
use Rattle.qs_base_map.proofs.Loops.{one_more}
use Rattle.qs_node_step.specs.Restarts.{notice_tid}
use Rattle.qs_node.proofs.restarting.notice_each.Goals as goal

pub loop-tid-preserved : goal.loop-tid-preserved
loop-tid-preserved g c = record {
  done = one_more (notice_tid c.args.peer c.args.old c.args.new) c.args.work.now c.args.tids.now c.loop-tid.tid-index _ c.loop-tid-test.true c.loop-tid.work c.notice_tid.new.work c.loop-tid.invariant.done c.in_ok-notice_tid.ensures.ok;
  saved = c.notice_tid.ensures.saved ∙ c.loop-tid.invariant.saved;
}
