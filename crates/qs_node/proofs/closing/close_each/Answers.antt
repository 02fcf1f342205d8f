use Rattle.std.proofs.Common.{◌∙◌}
use Rattle.qs_node.proofs.ClosedOutcomes.{closed_more}
use Rattle.qs_node.proofs.closing.close_each.Goals as goal

pub loop-tid-preserved : goal.loop-tid-preserved
loop-tid-preserved c = record {
  done = closed_more c.args.node c.args.committed.now c.args.kept.now c.args.tids.now c.loop-tid.tid-index _ c.loop-tid-test.true c.loop-tid.kept c.close_tid.new.kept c.loop-tid.invariant.done c.in_ok-close_tid.ensures.ok;
  saved = c.close_tid.ensures.saved ∙ c.loop-tid.invariant.saved;
}
