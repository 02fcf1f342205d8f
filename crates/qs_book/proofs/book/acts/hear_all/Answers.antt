use Rattle.std.proofs.Common.{◌∙◌, ap, sym}
use Rattle.std.proofs.lemmas.List.Sums.{fold_more}
use Rattle.std.specs.Prelude.{slice_index_or}
use Rattle.qs_book_machine.specs.Book.{BookValue, hear}
use Rattle.qs_book_machine.specs.declared.state.Asking.{Asking}
use Rattle.qs_book.proofs.book.acts.hear_all.Goals as goal

abbrev nobody : Asking
nobody = record { tid = record { home = record { 0 = 0 }; inc = 0; seq = 0 }; node = record { 0 = 0 } }

pub loop-asking-preserved : goal.loop-asking-preserved
loop-asking-preserved c =
    c.hear_one.ensures
    ∙ ap (λ (b : BookValue). hear b (slice_index_or c.args.waiting.now c.loop-asking.asking-index nobody)) c.loop-asking.invariant
    ∙ sym (fold_more hear c.args.book.now c.args.waiting.now c.loop-asking.asking-index nobody c.loop-asking-test.true)
