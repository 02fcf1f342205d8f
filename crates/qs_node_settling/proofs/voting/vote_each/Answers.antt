use Rattle.std.proofs.Common.{◌∙◌}
use Rattle.qs_base_map.proofs.Loops.{one_more}
use Rattle.qs_node_step.specs.Voting.{vote_next}
use Rattle.qs_node_settling.proofs.voting.vote_each.Goals as goal

pub loop-server-preserved : goal.loop-server-preserved
loop-server-preserved g c = record {
  done = one_more (vote_next c.args.tid) c.args.work.now c.args.servers.now c.loop-server.server-index _ c.loop-server-test.true c.loop-server.work c.vote_next.new.work c.loop-server.invariant.done c.in_ok-vote_next.ensures.ok;
  saved = c.vote_next.ensures.saved ∙ c.loop-server.invariant.saved;
}
