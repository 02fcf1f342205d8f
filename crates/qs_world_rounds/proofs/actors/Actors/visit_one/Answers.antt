use Rattle.std.proofs.Common.{arith}
use Rattle.qs_world_rounds.proofs.actors.Actors.visit_one.Goals as goal

pub invariant_of-self : goal.invariant_of-self
invariant_of-self g c = record {
  each = c.visit_client.ensures.each c.self.inside.node.seat.ends c.self.invariant.each;
  few = omega arith;
}
