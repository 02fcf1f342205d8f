use Rattle.std.proofs.Common.{ap, arith}
use Rattle.qs_cell_peers.proofs.Linked.{linked_as}
use Rattle.qs_world_rounds.proofs.Joining.{all_stay}
use Rattle.qs_world_rounds.proofs.actors.Actors.visit.Goals as goal

pub invariant_of-self : goal.invariant_of-self
invariant_of-self g c = record {
  each = all_stay c.self.inside.node.seat.ends c.visit_node.new.node.seat.ends c.self.inside.clients.items c.visit_node.ensures.joined c.self.invariant.each;
  few = c.self.invariant.few;
}

pub invariant_of-self-in_err-did : goal.invariant_of-self-in_err-did
invariant_of-self-in_err-did g c = record {
  each = c.visit_client.ensures.each c.self.inside.node.seat.ends c.self.invariant.each;
  few = omega arith;
}

pub invariant_of-self-2 : goal.invariant_of-self-2
invariant_of-self-2 g c = record {
  each = c.visit_client.ensures.each c.self.inside.node.seat.ends c.self.invariant.each;
  few = omega arith;
}

pub returns-in_err-did-clause-linked : goal.returns-in_err-did-clause-linked
returns-in_err-did-clause-linked g c = linked_as c.args.self.now.node.links c.self.inside.node.links (ap (λ cast. cast.node.links) c.self.view_is)

pub returns-clause-linked : goal.returns-clause-linked
returns-clause-linked g c = linked_as c.args.self.now.node.links c.self.inside.node.links (ap (λ cast. cast.node.links) c.self.view_is)
