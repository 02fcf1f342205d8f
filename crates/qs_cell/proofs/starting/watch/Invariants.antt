use Rattle.std.proofs.Common.{◌≡◌, map}
use Rattle.qs_cell.specs.Starts.{watched_of}
use Rattle.qs_cell.proofs.starting.watch.Given as goal

abbrev pub invariant-loop-point : goal.invariant-loop-point
invariant-loop-point l = l.watched.items ≡ map watched_of l.yielded
