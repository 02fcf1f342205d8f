use Rattle.std.proofs.Common.{◌≡◌, ◌-◌, length}
use Rattle.qs_world_plans.specs.Order.{shuffled}
use Rattle.qs_world_plans.proofs.order.shuffle.Given as goal

abbrev pub invariant-loop-back : goal.invariant-loop-back
invariant-loop-back l = record {
  drawn : shuffled (length l.places.items - l.back) l.rng l.places.items ≡ shuffled (length l.initial.places.items - 1) l.initial.rng l.initial.places.items;
  long : length l.places.items ≡ length l.initial.places.items;
}
