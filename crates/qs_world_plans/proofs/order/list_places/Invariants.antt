use Rattle.std.proofs.Common.{◌≡◌, length}
use Rattle.qs_world_plans.specs.Order.{places_below}
use Rattle.qs_world_plans.proofs.order.list_places.Given as goal

abbrev pub invariant-loop-place : goal.invariant-loop-place
invariant-loop-place l = record {
  places : l.places.items ≡ places_below l.place;
  count : length l.places.items ≡ l.place;
}
