use Rattle.std.proofs.Common.{arith, length, rules}
use Rattle.qs_world_sites.proofs.Staying.{each_is, each_on, goes_on}
use Rattle.qs_world_sites.proofs.Visiting.{late_on, rises_behind, risen_on, same_rises}
use Rattle.qs_world_sites.specs.Late.{RisesBy}
use Rattle.qs_world_sites.specs.Sites.{GoesOn, HasSameCell}
use Rattle.qs_world_sites.proofs.sites.Sites.round.Goals as goal

pub returns-in_err-did-clause-broken : goal.returns-in_err-did-clause-broken
returns-in_err-did-clause-broken g c = λ node is. record {
  carried = c.carry.new.self;
  carries = c.in_ok-carry.ensures.carries;
  turns = c.carry.ensures.turns;
  visits = c.in_err-did.ensures.broken node (search rules);
  rose = risen_on g.D.Disk.fault_count node c.args.self.now.sites c.carry.new.self.sites c.visit_all.new.self.sites (each_is HasSameCell GoesOn (λ a b same. same.stays.goes_on) c.args.self.now.sites c.carry.new.self.sites c.carry.ensures.cells) (c.in_err-did.ensures.rose node (search rules));
}

pub returns-in_err-carry-clause-stays : goal.returns-in_err-carry-clause-stays
returns-in_err-carry-clause-stays g c = each_is HasSameCell GoesOn (λ a b same. same.stays.goes_on) c.args.self.now.sites c.carry.new.self.sites c.carry.ensures.cells

pub returns-in_err-did-clause-damaged : goal.returns-in_err-did-clause-damaged
returns-in_err-did-clause-damaged g c = λ told is.
    let late = c.in_err-did.ensures.damaged told (search rules) in
    late_on 0 (length c.args.order.now) (length c.args.order.now) c.args.self.now.sites c.carry.new.self.sites (each_is HasSameCell (RisesBy 0) same_rises c.args.self.now.sites c.carry.new.self.sites c.carry.ensures.cells) (omega arith) late

pub returns-in_err-did-clause-stays : goal.returns-in_err-did-clause-stays
returns-in_err-did-clause-stays g c = each_on GoesOn GoesOn GoesOn goes_on c.args.self.now.sites c.carry.new.self.sites c.visit_all.new.self.sites (each_is HasSameCell GoesOn (λ a b same. same.stays.goes_on) c.args.self.now.sites c.carry.new.self.sites c.carry.ensures.cells) c.visit_all.ensures.stays

pub returns-clause-rises : goal.returns-clause-rises
returns-clause-rises g c = each_on (RisesBy 0) (RisesBy (length c.args.order.now)) (RisesBy (length c.args.order.now)) (rises_behind (length c.args.order.now)) c.args.self.now.sites c.carry.new.self.sites c.visit_all.new.self.sites (each_is HasSameCell (RisesBy 0) same_rises c.args.self.now.sites c.carry.new.self.sites c.carry.ensures.cells) c.in_ok-did.ensures.rises

pub returns-clause-stays : goal.returns-clause-stays
returns-clause-stays g c = each_on GoesOn GoesOn GoesOn goes_on c.args.self.now.sites c.carry.new.self.sites c.visit_all.new.self.sites (each_is HasSameCell GoesOn (λ a b same. same.stays.goes_on) c.args.self.now.sites c.carry.new.self.sites c.carry.ensures.cells) c.visit_all.ensures.stays
