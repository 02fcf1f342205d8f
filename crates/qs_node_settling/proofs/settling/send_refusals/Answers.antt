use Rattle.std.proofs.Common.{◌∙◌, ap}
use Rattle.qs_base_map.proofs.Loops.{one_more}
use Rattle.qs_node_step.specs.Settling.{send_refusal}
use Rattle.qs_node_settling.proofs.settling.send_refusals.Goals as goal

pub loop-cause-preserved : goal.loop-cause-preserved
loop-cause-preserved g c = record {
  done = one_more (send_refusal c.args.tid c.args.to) c.args.work.now c.args.causes.now c.loop-cause.cause-index c.cause-item.result c.loop-cause-test.true c.loop-cause.work c.send_refusal.new.work c.loop-cause.invariant.done
      (c.in_ok-send_refusal.ensures.ok ∙ ap (send_refusal c.args.tid c.args.to c.loop-cause.work) c.cause-item.is);
  saved = c.send_refusal.ensures.saved ∙ c.loop-cause.invariant.saved;
}
