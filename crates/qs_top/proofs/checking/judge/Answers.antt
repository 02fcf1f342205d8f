use Rattle.qs_top.proofs.VerdictLemmas.{numbers_fit}
use Rattle.qs_top.proofs.checking.judge.Goals as goal

pub check-requires : goal.check-requires
check-requires c =
    numbers_fit c.args.text.now c.in-Ok.journal.opened c.in-Ok.journal.entries c.in-Ok.journal.first c.in-Ok.ensures.ok c.in-Ok.ensures.limit c.in-Ok.ensures.first
