use Rattle.qs_base.specs.declared.identifiers.Tid.{Tid}
use Rattle.qs_book_machine.specs.Restart.{changes_at}
use Rattle.qs_book.proofs.Loops.{gathered}
use Rattle.qs_book.proofs.book.reviving.changes_found.Goals as goal

abbrev no_tid : Tid
no_tid = record { home = record { 0 = 0 }; inc = 0; seq = 0 }

pub loop-tid-preserved : goal.loop-tid-preserved
loop-tid-preserved c =
    gathered (changes_at c.args.here.0 c.args.book.now c.args.server.0) c.args.done.now c.loop-tid.tid-index no_tid
    c.loop-tid.changes c.add_changes.new.changes c.loop-tid-test.true c.loop-tid.invariant c.in_ok-add_changes.ensures
