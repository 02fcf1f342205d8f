use Rattle.std.proofs.Common.{◌≡◌, map}
use Rattle.qs_world_rounds.specs.Seats.{AreSeated, number_of, seated_below}
use Rattle.qs_world_rounds.proofs.seating.seat_all.Given as goal

abbrev pub invariant-loop-number : goal.invariant-loop-number
invariant-loop-number l = record {
  seats : AreSeated l.script l.all.clients.items l.all.ends.items;
  numbers : map number_of l.all.clients.items ≡ seated_below l.node l.script.seats l.number;
}
