use Rattle.std.proofs.Common.{arith}
use Rattle.qs_book_tables.proofs.Texts.{names-more}
use Rattle.qs_book_tables.proofs.views.names_in_view.Goals as goal

pub loop-change-preserved : goal.loop-change-preserved
loop-change-preserved c = record {
  names = names-more c.args.files.now c.loop-change.hollow.items c.change_names.new.hollow.items c.args.changes.now c.loop-change.change-index c.change-item.result
      c.loop-change-test.true c.change-item.is c.loop-change.invariant.names c.in_ok-change_names.ensures.value;
  order = c.change_names.ensures.order;
  room = omega (arith, c.loop-change.invariant.room, c.change_names.ensures.len, c.change_names.ensures.capacity);
}
