use Rattle.qs_world_agree_ends.proofs.TellingLaws.{commit_may_be_told, told_may_answer, learnt_is_answered}
use Rattle.qs_world_agree_ends.proofs.laws.commits_are_told.Goals as goal

pub returns : goal.returns
returns c = record { told = commit_may_be_told; answers = told_may_answer; learnt = learnt_is_answered }
