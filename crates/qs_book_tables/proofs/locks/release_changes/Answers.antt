use Rattle.std.proofs.Common.{take}
use Rattle.std.specs.List.{list_any}
use Rattle.qs_ops.specs.Table.{is_change_of}
use Rattle.qs_book_tables.proofs.IndexSteps.{without_tid-more, list_any-take_more}
use Rattle.qs_book_tables.proofs.locks.release_changes.Goals as goal

-- one more change that is taken out
pub loop-change-preserved : goal.loop-change-preserved
loop-change-preserved c =
    without_tid-more c.args.tid c.args.changers.now.names.entries c.loop-change.changers.names.entries c.release_change.new.changers.names.entries
    (λ name. list_any (is_change_of name) (take c.loop-change.change-index c.args.changes.now))
    (λ name. is_change_of name c.change-item.result)
    _
    c.loop-change.invariant
    c.release_change.ensures
    (λ name. list_any-take_more (is_change_of name) c.args.changes.now c.loop-change.change-index c.change-item.result c.loop-change-test.true c.change-item.is)
