use Rattle.qs_book_machine.specs.Restart.{voter_of}
use Rattle.qs_book.proofs.book.restarting.is_first.Goals as goal

pub returns-clause-seen : goal.returns-clause-seen
returns-clause-seen c = λ other. c.in_ok-insert.ensures.updates.0 (voter_of other)
