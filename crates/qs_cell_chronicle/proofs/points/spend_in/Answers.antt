use Rattle.std.proofs.Common.{◌∙◌, sym}
use Rattle.qs_cell_chronicle.proofs.Spent.{spent_here}
use Rattle.qs_cell_chronicle.proofs.points.spend_in.Goals as goal

pub returns-then-stops_before : goal.returns-then-stops_before
returns-then-stops_before c =
    rw c.loop-watched.invariant.same (spent_here c.args.kept.now.now.labels c.args.entries.now c.args.points.now c.loop-watched.watched-index c.watched-item.result
    c.loop-watched-test.true c.loop-watched.invariant.so_far (rw c.loop-watched.invariant.same at (sym c.stops_before.ensures ∙ c.if-stops_before.true)))
