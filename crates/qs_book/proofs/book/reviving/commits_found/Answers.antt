use Rattle.std.proofs.Common.{◌∙◌, ap, sym, List, [], slice_index_or}
use Rattle.std.proofs.lemmas.List.Sums.{fold_more}
use Rattle.qs_base.specs.declared.identifiers.Tid.{Tid}
use Rattle.qs_book_machine.specs.Restart.{add_commit}
use Rattle.qs_book.proofs.book.reviving.commits_found.Goals as goal

abbrev no_tid : Tid
no_tid = record { home = record { 0 = 0 }; inc = 0; seq = 0 }

pub loop-tid-preserved : goal.loop-tid-preserved
loop-tid-preserved c = record {
  tids = c.in_ok-add_commit.ensures.tids
      ∙ ap (λ (tids : List Tid). add_commit c.args.here.0 c.args.book.now tids (slice_index_or c.args.done.now c.loop-tid.tid-index no_tid)) c.loop-tid.invariant.tids
      ∙ sym (fold_more (add_commit c.args.here.0 c.args.book.now) [] c.args.done.now c.loop-tid.tid-index no_tid c.loop-tid-test.true);
  set = c.in_ok-add_commit.ensures.set;
}
