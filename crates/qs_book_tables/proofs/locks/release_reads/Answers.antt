use Rattle.std.proofs.Common.{take, ap, ◌∙◌}
use Rattle.std.specs.Prelude.{Bool, ◌||◌}
use Rattle.std.specs.List.{list_any}
use Rattle.std.specs.Cmp.Lexicographic.{nat_list_eq_equiv}
use Rattle.qs_base.specs.Order.{same_bytes}
use Rattle.qs_book_tables.proofs.IndexSteps.{without_tid-more, list_any-take_more}
use Rattle.qs_book_tables.proofs.locks.release_reads.Goals as goal

-- one more name that is taken out
pub loop-name-preserved : goal.loop-name-preserved
loop-name-preserved c =
    without_tid-more c.args.tid c.args.readers.now.names.entries c.loop-name.readers.names.entries c.remove.new.self.names.entries
    (λ name. list_any (same_bytes name) (take c.loop-name.name-index c.args.names.now))
    (λ name. same_bytes c.name-item.result name)
    _
    c.loop-name.invariant
    c.remove.ensures
    (λ name. list_any-take_more (same_bytes name) c.args.names.now c.loop-name.name-index c.name-item.result c.loop-name-test.true c.name-item.is
    ∙ ap (λ (b : Bool). list_any (same_bytes name) (take c.loop-name.name-index c.args.names.now) || b) (nat_list_eq_equiv.symm name c.name-item.result))
