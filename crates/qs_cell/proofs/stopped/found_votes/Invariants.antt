use Rattle.std.proofs.Common.{◌≡◌, map, take}
use Rattle.qs_cell.specs.Restart.{found_of}
use Rattle.qs_cell.proofs.stopped.found_votes.Given as goal

abbrev pub invariant-loop-vote : goal.invariant-loop-vote
invariant-loop-vote l = l.found ≡ map found_of (take l.vote-index l.votes)
