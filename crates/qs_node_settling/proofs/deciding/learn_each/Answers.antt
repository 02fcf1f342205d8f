use Rattle.std.proofs.Common.{◌∙◌}
use Rattle.qs_base_map.proofs.Loops.{one_more}
use Rattle.qs_node_step.specs.Deciding.{learn_member}
use Rattle.qs_node_settling.proofs.deciding.learn_each.Goals as goal

pub loop-server-preserved : goal.loop-server-preserved
loop-server-preserved g c = record {
  done = one_more (learn_member c.args.tid c.args.outcome) c.args.work.now c.args.servers.now c.loop-server.server-index _ c.loop-server-test.true c.loop-server.work c.learn_member.new.work c.loop-server.invariant.done c.in_ok-learn_member.ensures.ok;
  saved = c.learn_member.ensures.saved ∙ c.loop-server.invariant.saved;
}
