use Rattle.std.proofs.Common.{◌∙◌}
use Rattle.qs_base_map.proofs.Loops.{one_more}
use Rattle.qs_node_step.specs.Deciding.{end_member}
use Rattle.qs_node_settling.proofs.deciding.end_each.Goals as goal

pub loop-server-preserved : goal.loop-server-preserved
loop-server-preserved g c = record {
  done = one_more (end_member c.args.tid) c.args.work.now c.args.servers.now c.loop-server.server-index _ c.loop-server-test.true c.loop-server.work c.end_member.new.work c.loop-server.invariant.done c.in_ok-end_member.ensures.ok;
  saved = c.end_member.ensures.saved ∙ c.loop-server.invariant.saved;
}
