use Rattle.std.proofs.Common.{◌∙◌}
use Rattle.qs_base_map.proofs.Loops.{one_more}
use Rattle.qs_node_step.specs.Restarts.{resume_tid}
use Rattle.qs_node.proofs.resuming.resume_each.Goals as goal

pub loop-tid-preserved : goal.loop-tid-preserved
loop-tid-preserved g c = record {
  done = one_more (resume_tid) c.args.work.now c.args.tids.now c.loop-tid.tid-index _ c.loop-tid-test.true c.loop-tid.work c.resume_tid.new.work c.loop-tid.invariant.done c.in_ok-resume_tid.ensures.ok;
  saved = c.resume_tid.ensures.saved ∙ c.loop-tid.invariant.saved;
}
