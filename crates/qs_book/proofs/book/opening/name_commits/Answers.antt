use Rattle.std.proofs.Common.{◌∙◌, ap, sym, slice_index_or}
use Rattle.std.proofs.lemmas.List.Sums.{fold_more}
use Rattle.qs_base.specs.declared.identifiers.Tid.{Tid}
use Rattle.qs_book_machine.specs.Book.{BookValue}
use Rattle.qs_book_machine.specs.Opening.{name_transaction}
use Rattle.qs_book.proofs.book.opening.name_commits.Goals as goal

abbrev no_tid : Tid
no_tid = record { home = record { 0 = 0 }; inc = 0; seq = 0 }

pub loop-tid-preserved : goal.loop-tid-preserved
loop-tid-preserved c =
    c.in_ok-name_transaction.ensures
    ∙ ap (λ (b : BookValue). name_transaction b (slice_index_or c.args.committed.now c.loop-tid.tid-index no_tid)) c.loop-tid.invariant
    ∙ sym (fold_more name_transaction c.args.book.now c.args.committed.now c.loop-tid.tid-index no_tid c.loop-tid-test.true)
