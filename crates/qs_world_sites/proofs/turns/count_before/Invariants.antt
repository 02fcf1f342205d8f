use Rattle.std.proofs.Common.{◌≡◌, ◌≤◌, length}
use Rattle.qs_world_rounds.specs.Seats.{seated_below}
use Rattle.qs_world_sites.proofs.turns.count_before.Given as goal

abbrev pub invariant-loop-number : goal.invariant-loop-number
invariant-loop-number l = record {
  count : l.count ≡ length (seated_below l.node l.seats l.number);
  few : l.count ≤ l.number;
}
