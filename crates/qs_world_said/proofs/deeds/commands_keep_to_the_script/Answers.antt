use Rattle.qs_world_said.proofs.Issues.{issues_away_keep, issues_here_keep}
use Rattle.qs_world_said.proofs.LoanDeeds.{yields_keep}
use Rattle.qs_world_said.proofs.Makes.{aborts_keep, asks_keep}
use Rattle.qs_world_said.proofs.deeds.commands_keep_to_the_script.Goals as goal

pub returns : goal.returns
returns c = record { yields = yields_keep; asks = asks_keep; aborts = aborts_keep; here = issues_here_keep; away = issues_away_keep }
