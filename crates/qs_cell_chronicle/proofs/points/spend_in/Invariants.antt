use Rattle.std.proofs.Common.{◌≡◌, ◌++◌, take, drop}
use Rattle.qs_cell_chronicle.specs.Points.{spent}
use Rattle.qs_cell_chronicle.proofs.points.spend_in.Given as goal

-- none so far stops it
abbrev pub invariant-loop-watched : goal.invariant-loop-watched
invariant-loop-watched l = record {
  same : l.points ≡ l.initial.points;
  so_far : spent l.kept.now.labels l.entries l.initial.points ≡ take l.watched-index l.initial.points ++ spent l.kept.now.labels l.entries (drop l.watched-index l.initial.points);
}
