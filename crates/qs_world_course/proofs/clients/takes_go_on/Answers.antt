use Rattle.qs_world_course.proofs.Borrows.{takes_are_answered}
use Rattle.qs_world_course.proofs.Closes.{answers_go, plain_are_answered}
use Rattle.qs_world_course.proofs.clients.takes_go_on.Goals as goal

pub returns : goal.returns
returns c = record { answers = answers_go; plain = plain_are_answered; takes = takes_are_answered }
