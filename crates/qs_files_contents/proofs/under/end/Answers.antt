use Rattle.std.proofs.Common.{◌∙◌, sym}
use Rattle.qs_files_contents.proofs.Sums.{told_removed}
use Rattle.qs_files_contents.proofs.under.end.Goals as goal

pub returns-then-end_slot-clause-committed : goal.returns-then-end_slot-clause-committed
returns-then-end_slot-clause-committed c = λ told.
    told_removed c.args.tid c.args.name.now c.end_slot.new.names c.remove.new.self c.end_slot.new.committed (c.end_slot.ensures.committed told) (sym c.end_slot.ensures.empty ∙ c.if-end_slot.true) c.remove.ensures
