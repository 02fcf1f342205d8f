use Rattle.qs_world_runs.proofs.CommitsFirst.{commits_so}
use Rattle.qs_world_runs.proofs.UnanimousEarlier.{stood_earlier, unanimous_earlier}
use Rattle.qs_world_runs.proofs.VotesFirst.{steps_vote_first}
use Rattle.qs_world_runs.proofs.joined_runs.steps_commit_first.Goals as goal

pub returns : goal.returns
returns c = record { first = commits_so; unanimous = unanimous_earlier; stood = stood_earlier; votes = steps_vote_first }
