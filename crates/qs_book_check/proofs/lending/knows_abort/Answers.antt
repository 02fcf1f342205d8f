use Rattle.std.proofs.Common.{◌∙◌, ap}
use Rattle.std.specs.Prelude.{ℕ}
use Rattle.qs_book_machine.specs.Transaction.{learnt_abort}
use Rattle.qs_book_check.proofs.lending.knows_abort.Goals as goal

pub returns : goal.returns
returns c = c.learnt_abort.ensures ∙ ap (λ (inc : ℕ). learnt_abort c.args.tx.now c.args.here inc) c.inc_at.ensures
