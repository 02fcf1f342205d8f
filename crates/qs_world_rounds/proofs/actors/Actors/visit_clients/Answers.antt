use Rattle.std.proofs.Common.{◌≡◌, ◌∙◌, ◌+◌, ap, arith, length, map, refl, subst, suc, sym}
use Rattle.qs_world_rounds.specs.Rounds.{VisitAll, VisitAt}
use Rattle.qs_world_plans.specs.Order.{places_below}
use Rattle.qs_world_rounds.proofs.Turning.{client_more}
use Rattle.qs_world_rounds.proofs.actors.Actors.visit_clients.Goals as goal

pub loop-at-init : goal.loop-at-init
loop-at-init g c = record { visits = (refl, refl); node = refl; count = refl }

pub loop-at-preserved : goal.loop-at-preserved
loop-at-preserved g c = record {
  visits = subst (λ did. VisitAll g.D.Disk.told g.D.Disk.state g.D.Disk.fault_count g.D.Disk.byte_count (map suc (places_below (c.loop-at.at + 1))) c.args.self.now c.visit_one.new.self did) (sym c.either-did.ensures)
      (client_more (VisitAt g.D.Disk.told g.D.Disk.state g.D.Disk.fault_count g.D.Disk.byte_count) c.loop-at.at c.args.self.now c.loop-at.self c.visit_one.new.self c.loop-at.did c.in_ok-more.more c.loop-at.invariant.visits c.in_ok-more.ensures.visits);
  node = c.visit_one.ensures.node ∙ c.loop-at.invariant.node;
  count = c.visit_one.ensures.count ∙ c.loop-at.invariant.count;
}

pub returns-clause-visits : goal.returns-clause-visits
returns-clause-visits g c =
    let all : c.loop-at.at ≡ length c.args.self.now.clients = let same = ap (λ cast. length cast.clients) c.self.view_is in omega (arith, same) in
    subst (λ n. VisitAll g.D.Disk.told g.D.Disk.state g.D.Disk.fault_count g.D.Disk.byte_count (map suc (places_below n)) c.args.self.now c.loop-at.self c.loop-at.did) all c.loop-at.invariant.visits
