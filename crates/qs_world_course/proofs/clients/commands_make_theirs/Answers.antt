use Rattle.qs_world_course.proofs.MadeLaws.{abort_is_kept, ask_is_kept, begin_is_kept, borrower_may_issue, borrower_may_yield, owner_may_issue}
use Rattle.qs_world_course.proofs.Stays.{made_goes}
use Rattle.qs_world_course.proofs.clients.commands_make_theirs.Goals as goal

pub returns : goal.returns
returns c = record { begins = begin_is_kept; asks = ask_is_kept; aborts = abort_is_kept; owner = owner_may_issue; borrower = borrower_may_issue; yields = borrower_may_yield; made = made_goes }
