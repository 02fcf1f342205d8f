use Rattle.std.proofs.Common.{arith, ◌+◌, ◌-◌, ◌∙◌, length}
use Rattle.qs_world_plans.proofs.Shuffles.{drawn_on, ended}
use Rattle.qs_world_plans.proofs.order.shuffle.Goals as goal

-- src/order.rt:54:5
pub loop-back-preserved : goal.loop-back-preserved
loop-back-preserved c = record {
  drawn = drawn_on (length c.swap_drawn.new.places.items - (c.loop-back.back + 1)) (length c.loop-back.places.items - c.loop-back.back) c.loop-back.rng c.swap_drawn.new.rng c.loop-back.places.items c.swap_drawn.new.places.items
      (omega (arith, c.swap_drawn.ensures.long, c.loop-back.invariant.long, c.loop-back-test.true, c.loop-back.auto.back-end))
      c.swap_drawn.ensures.rng c.swap_drawn.ensures.places ∙ c.loop-back.invariant.drawn;
  long = c.swap_drawn.ensures.long ∙ c.loop-back.invariant.long;
}

-- src/order.rt:51:1
pub returns : goal.returns
returns c = ended (length c.loop-back.places.items - c.loop-back.back) c.loop-back.rng c.loop-back.places.items
    (omega (arith, c.loop-back.invariant.long, c.loop-back-test.false, c.loop-back.auto.back-end)) ∙ c.loop-back.invariant.drawn
