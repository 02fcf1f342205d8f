use Rattle.std.proofs.Common.{◌+◌, arith, length, refl, rules, subst, sym, take}
use Rattle.qs_world_rounds.proofs.Repeats.{visits_more, visits_until}
use Rattle.qs_world_sites.proofs.Staying.{each_on, each_same, goes_none, goes_on}
use Rattle.qs_world_sites.proofs.Visiting.{late_on, rises_on, rises_zero, risen_on}
use Rattle.qs_world_sites.specs.Breaks.{FailsAt, RefusedAt}
use Rattle.qs_world_sites.specs.Late.{RisesBy}
use Rattle.qs_world_sites.specs.Rounds.{VisitAll, VisitAt}
use Rattle.qs_world_sites.specs.Sites.{GoesOn}
use Rattle.qs_world_sites.proofs.sites.Sites.visit_all.Goals as goal

pub loop-place-init : goal.loop-place-init
loop-place-init g c = record { visits = (refl, refl); rises = each_same (RisesBy 0) rises_zero c.args.self.now.sites; stays = each_same GoesOn goes_none c.args.self.now.sites }

pub loop-place-preserved : goal.loop-place-preserved
loop-place-preserved g c = record {
  visits = subst (λ did. VisitAll g.D.Disk.told g.D.Disk.state g.D.Disk.fault_count g.D.Disk.byte_count (take (c.loop-place.place-index + 1) c.args.order.now) c.args.self.now c.visit.new.self did) (sym c.either-did.ensures)
      (visits_more (VisitAt g.D.Disk.told g.D.Disk.state g.D.Disk.fault_count g.D.Disk.byte_count) c.args.order.now c.loop-place.place-index _ _ c.args.self.now c.loop-place.self c.visit.new.self c.loop-place.did c.in_ok-more.more c.loop-place-test.true refl c.loop-place.invariant.visits c.in_ok-more.ensures.visits);
  rises = each_on (RisesBy c.loop-place.place-index) (RisesBy 1) (RisesBy (c.loop-place.place-index + 1)) (rises_on c.loop-place.place-index 1) c.args.self.now.sites c.loop-place.self.sites c.visit.new.self.sites c.loop-place.invariant.rises c.in_ok-more.ensures.rises;
  stays = each_on GoesOn GoesOn GoesOn goes_on c.args.self.now.sites c.loop-place.self.sites c.visit.new.self.sites c.loop-place.invariant.stays c.visit.ensures.stays;
}

pub returns-in_err-more-clause-broken : goal.returns-in_err-more-clause-broken
returns-in_err-more-clause-broken g c = λ node is.
    let fails = c.in_err-more.ensures.broken node (search rules) in
    visits_until (VisitAt g.D.Disk.told g.D.Disk.state g.D.Disk.fault_count g.D.Disk.byte_count) (FailsAt g.D.Disk.told g.D.Disk.state g.D.Disk.fault_count g.D.Disk.byte_count node) c.args.order.now c.loop-place.place-index _ _ c.args.self.now c.loop-place.self c.visit.new.self c.loop-place.did c.loop-place-test.true refl c.loop-place.invariant.visits fails

pub returns-in_err-more-clause-rose : goal.returns-in_err-more-clause-rose
returns-in_err-more-clause-rose g c = λ node is.
    let risen = c.in_err-more.ensures.rose node (search rules) in
    risen_on g.D.Disk.fault_count node c.args.self.now.sites c.loop-place.self.sites c.visit.new.self.sites c.loop-place.invariant.stays risen

pub returns-in_err-more-clause-refused : goal.returns-in_err-more-clause-refused
returns-in_err-more-clause-refused g c = λ is.
    let comes = c.in_err-more.ensures.refused (search rules) in
    visits_until (VisitAt g.D.Disk.told g.D.Disk.state g.D.Disk.fault_count g.D.Disk.byte_count) (RefusedAt g.D.Disk.told g.D.Disk.state g.D.Disk.fault_count g.D.Disk.byte_count) c.args.order.now c.loop-place.place-index _ _ c.args.self.now c.loop-place.self c.visit.new.self c.loop-place.did c.loop-place-test.true refl c.loop-place.invariant.visits comes

pub returns-in_err-more-clause-damaged : goal.returns-in_err-more-clause-damaged
returns-in_err-more-clause-damaged g c = λ told is.
    let late = c.in_err-more.ensures.damaged told (search rules) in
    late_on c.loop-place.place-index 0 (length c.args.order.now) c.args.self.now.sites c.loop-place.self.sites c.loop-place.invariant.rises (let less = c.loop-place-test.true in omega arith) late

pub returns-in_err-more-clause-stays : goal.returns-in_err-more-clause-stays
returns-in_err-more-clause-stays g c = each_on GoesOn GoesOn GoesOn goes_on c.args.self.now.sites c.loop-place.self.sites c.visit.new.self.sites c.loop-place.invariant.stays c.visit.ensures.stays
