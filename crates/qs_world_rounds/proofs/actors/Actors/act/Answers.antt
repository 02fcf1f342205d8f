use Rattle.qs_world_rounds.proofs.Joining.{all_stay}
use Rattle.qs_world_rounds.proofs.actors.Actors.act.Goals as goal

pub invariant_of-self : goal.invariant_of-self
invariant_of-self g c = record {
  each = all_stay c.self.inside.node.seat.ends c.act_in_burst.new.node.seat.ends c.self.inside.clients.items c.act_in_burst.ensures.joined c.self.invariant.each;
  few = c.self.invariant.few;
}
