use Rattle.std.proofs.Common.{◌≡◌, length}
use Rattle.qs_disk.specs.Disk.{Matches}
use Rattle.qs_disk.proofs.cells.draw.Given as goal

abbrev pub invariant-loop-at : goal.invariant-loop-at
invariant-loop-at l = record {
  image : Matches l.stable l.loose l.content.items;
  long : length l.content.items ≡ length l.initial.content.items;
}
