use Rattle.std.proofs.Common.{◌≡◌, ◌++◌, map, take, drop}
use Rattle.qs_cell_chronicle.specs.Points.{after_entries}
use Rattle.qs_cell_chronicle.proofs.points.pass.Given as goal

abbrev pub invariant-loop-watched : goal.invariant-loop-watched
invariant-loop-watched l =
    l.watched-items ≡ map (after_entries l.kept.now.labels l.entries) (take l.watched-index l.initial.watched-items) ++ drop l.watched-index l.initial.watched-items
