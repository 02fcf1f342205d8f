use Rattle.std.proofs.Common.{◌≡◌, take}
use Rattle.std.specs.List.{flat_map}
use Rattle.qs_cell.proofs.opened.pending_of.Given as goal
use Rattle.qs_world.specs.Histories.{pending_of}

abbrev pub invariant-loop-rec : goal.invariant-loop-rec
invariant-loop-rec l = l.pending ≡ flat_map pending_of (take l.rec-index l.in_doubt)
