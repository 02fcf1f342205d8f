use Rattle.std.proofs.Common.{◌≡◌, OnOk, List, subst, sym}
use Rattle.qs_base.specs.declared.identifiers.Tid.{Tid}
use Rattle.qs_book_journal.specs.declared.entry.Act.{Act}
use Rattle.qs_book_journal.specs.declared.entry.Found.{Found}
use Rattle.qs_book_machine.specs.Lawful.{effect_act}
use Rattle.qs_book_machine.specs.Restart.{restart}
use Rattle.qs_book.proofs.book.Book.take_act.Goals as goal

pub returns-in-Restart : goal.returns-in-Restart
returns-in-Restart c =
    subst (λ (act : Act). OnOk c.restart.result (c.restart.new.self ≡ effect_act c.args.stamp c.args.here.0 act c.args.self.now)) (sym c.in-Restart.is)
    (subst (λ (done : List Tid). OnOk c.restart.result (c.restart.new.self ≡ restart c.args.here.0 c.in-Restart.inc c.in-Restart.pend done c.args.self.now)) c.as_slice-in-Restart.ensures
    (subst (λ (pend : List Found). OnOk c.restart.result (c.restart.new.self ≡ restart c.args.here.0 c.in-Restart.inc pend c.as_slice-in-Restart.result.now c.args.self.now)) c.as_slice.ensures
    c.restart.ensures))
