use Rattle.qs_world_course.proofs.LoansGo.{loans_go, next_is_next, present_is_present, takes_go, yields_go}
use Rattle.qs_world_course.proofs.LoansStay.{others_stay}
use Rattle.qs_world_course.proofs.clients.loans_go_together.Goals as goal

pub returns : goal.returns
returns c = record { next = next_is_next; present = present_is_present; takes = takes_go; yields = yields_go; loans = loans_go; others = others_stay }
