use Rattle.qs_world_course.proofs.Borrows.{lends_go, yields_are_answered}
use Rattle.qs_world_course.proofs.Stays.{client_stays, issues_go}
use Rattle.qs_world_course.proofs.clients.loans_and_issues_go.Goals as goal

pub returns : goal.returns
returns c = record { yields = yields_are_answered; issues = issues_go; lends = lends_go; stays = client_stays }
