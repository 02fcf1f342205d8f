use Rattle.qs_book_tables.proofs.Sizes.{staged_more, counted_more}
use Rattle.qs_book_tables.proofs.staged.stage.Goals as goal

pub loop-change-preserved : goal.loop-change-preserved
loop-change-preserved c = record {
  staged = staged_more c.args.files.now c.args.changes.now c.loop-change.change-index c.change-item.result c.loop-change.texts.entries c.stage_counted.new.texts.entries
      c.loop-change-test.true c.change-item.is c.loop-change.invariant.staged c.in_ok-count.ensures.staged;
  counted = counted_more c.args.files.now c.args.changes.now c.loop-change.change-index c.change-item.result c.loop-change.texts.entries c.loop-change.count _
      c.loop-change-test.true c.change-item.is c.requires.order c.loop-change.invariant.staged c.loop-change.invariant.counted c.in_ok-count.ensures.counted;
}
