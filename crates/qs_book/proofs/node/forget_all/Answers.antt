use Rattle.std.proofs.Common.{◌∙◌, ap, sym, slice_index_or}
use Rattle.std.proofs.lemmas.List.Sums.{fold_more}
use Rattle.qs_base.specs.declared.identifiers.Tid.{Tid}
use Rattle.qs_book_machine.specs.Nodes.{NodeValue}
use Rattle.qs_book_machine.specs.Restart.{without_records}
use Rattle.qs_book.proofs.node.forget_all.Goals as goal

abbrev no_tid : Tid
no_tid = record { home = record { 0 = 0 }; inc = 0; seq = 0 }

pub loop-tid-preserved : goal.loop-tid-preserved
loop-tid-preserved c =
    c.forget.ensures
    ∙ ap (λ (n : NodeValue). without_records n (slice_index_or c.args.done.now c.loop-tid.tid-index no_tid)) c.loop-tid.invariant
    ∙ sym (fold_more without_records c.args.node.now c.args.done.now c.loop-tid.tid-index no_tid c.loop-tid-test.true)
