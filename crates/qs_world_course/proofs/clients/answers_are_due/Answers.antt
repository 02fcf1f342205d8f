use Rattle.qs_world_course.proofs.Borrows.{yield_is_due}
use Rattle.qs_world_course.proofs.DueLaws.{begin_is_due, borrower_is_replied, due_is_kept, ended_is_due, not_begun_is_due, not_yours_is_due, owner_is_ended, owner_is_replied, owner_is_told, refusal_is_due, take_is_due}
use Rattle.qs_world_course.proofs.clients.answers_are_due.Goals as goal

pub returns : goal.returns
returns c = record {
  kept = due_is_kept;
  begins = begin_is_due;
  refusals = refusal_is_due;
  not_begun = not_begun_is_due;
  told = owner_is_told;
  ended = owner_is_ended;
  replied = owner_is_replied;
  takes = take_is_due;
  yields = yield_is_due;
  not_yours = not_yours_is_due;
  borrower_ended = ended_is_due;
  borrower_replied = borrower_is_replied;
}
