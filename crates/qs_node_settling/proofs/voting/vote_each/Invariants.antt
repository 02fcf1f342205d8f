use Rattle.std.proofs.Common.{◌≡◌, take, fold}
use Rattle.qs_node_step.specs.Voting.{vote_next}
use Rattle.qs_node_settling.proofs.voting.vote_each.Given as goal

abbrev pub invariant-loop-server : goal.invariant-loop-server
invariant-loop-server g l = record {
  done : l.work ≡ fold (vote_next l.tid) l.initial.work (take l.server-index l.servers);
  saved : l.work.node.kept.saved ≡ l.initial.work.node.kept.saved;
}
