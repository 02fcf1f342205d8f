use Rattle.qs_book.proofs.found.add_tid.Goals as goal

pub returns : goal.returns
returns c = λ other. c.in_ok-insert.ensures.updates.0 other
