use Rattle.std.proofs.Common.{◌∙◌}
use Rattle.qs_book_machine.proofs.CauseOrder.{among_causes}
use Rattle.qs_book_machine.proofs.causes.Causes.has.Goals as goal

pub returns : goal.returns
returns c = rw (← c.self.view_is) (c.contains.ensures ∙ among_causes c.args.cause.now c.self.inside.set.keys)
