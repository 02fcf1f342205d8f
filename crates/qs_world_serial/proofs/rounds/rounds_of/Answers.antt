use Rattle.std.proofs.Common.{◌+◌, ◌∙◌, refl, rules}
use Rattle.qs_world_plans.specs.Budget.{most_budget}
use Rattle.qs_world_plans.specs.Order.{drawn_order, seeded}
use Rattle.qs_world_rounds.proofs.Repeats.{rounds_more}
use Rattle.qs_world_serial.proofs.Repeating.{cut_at, ending_with, late_after, refused_at, rises_more, round_turns}
use Rattle.qs_world_serial.proofs.Spending.{budget_least, budget_most, lt_le_on, more_on, most_on, rises_none}
use Rattle.qs_world_sites.proofs.Staying.{each_on, each_same, goes_none, goes_on}
use Rattle.qs_world_sites.specs.Endings.{budget_of}
use Rattle.qs_world_sites.specs.Rounds.{IsRound}
use Rattle.qs_world_sites.specs.Sites.{GoesOn, count_of}
use Rattle.qs_world_serial.proofs.rounds.rounds_of.Goals as goal

pub loop-rounds-init : goal.loop-rounds-init
loop-rounds-init g c = record {
  made = (refl, search rules);
  more = budget_least c.args.script.now c.args.sites.now;
  most = search rules;
  turns = refl;
  rises = rises_none (count_of c.args.sites.now) c.args.sites.now.sites;
  stays = each_same GoesOn goes_none c.args.sites.now.sites;
}

pub returns-in_err-end-clause-cut : goal.returns-in_err-end-clause-cut
returns-in_err-end-clause-cut g c = λ node is.
    cut_at g.D.Disk.told g.D.Disk.state g.D.Disk.fault_count g.D.Disk.byte_count c.args.seed c.loop-rounds.rounds node c.args.sites.now c.loop-rounds.sites
    c.next_round.new.sites c.loop-rounds.orders.rng c.loop-rounds.invariant.made c.loop-rounds.invariant.stays (c.in_err-end.ensures.broken node (search rules))

pub returns-in_err-end-clause-refused : goal.returns-in_err-end-clause-refused
returns-in_err-end-clause-refused g c = λ is.
    refused_at g.D.Disk.told g.D.Disk.state g.D.Disk.fault_count g.D.Disk.byte_count c.args.seed c.loop-rounds.rounds c.args.sites.now c.loop-rounds.sites
    c.next_round.new.sites c.loop-rounds.orders.rng c.loop-rounds.invariant.made (c.in_err-end.ensures.refused (search rules))

pub returns-in_err-end-clause-damaged : goal.returns-in_err-end-clause-damaged
returns-in_err-end-clause-damaged g c = λ told is.
    late_after c.loop-rounds.rounds (most_budget c.args.script.now) (count_of c.args.sites.now) c.args.sites.now c.loop-rounds.sites c.loop-rounds.invariant.turns refl
    c.loop-rounds.invariant.rises
    (lt_le_on c.loop-rounds.rounds (budget_of c.args.script.now c.loop-rounds.sites) (most_budget c.args.script.now) c.loop-rounds.invariant.more
    (budget_most c.args.script.now c.loop-rounds.sites)) (c.in_err-end.ensures.damaged told (search rules))

pub returns-in_err-end-clause-stays : goal.returns-in_err-end-clause-stays
returns-in_err-end-clause-stays g c =
    each_on GoesOn GoesOn GoesOn goes_on c.args.sites.now.sites c.loop-rounds.sites.sites c.next_round.new.sites.sites c.loop-rounds.invariant.stays c.next_round.ensures.stays

pub ending_of-requires : goal.ending_of-requires
ending_of-requires g c =
    most_on c.args.script.now c.loop-rounds.most c.loop-rounds.sites c.next_round.new.sites c.loop-rounds.invariant.most c.next_round.ensures.stays

pub returns-in-Some-clause-ending : goal.returns-in-Some-clause-ending
returns-in-Some-clause-ending g c =
    ending_with g.D.Disk.told g.D.Disk.state g.D.Disk.fault_count g.D.Disk.byte_count c.args.script.now c.args.seed c.loop-rounds.rounds c.args.sites.now
    c.loop-rounds.sites c.next_round.new.sites c.loop-rounds.orders.rng c.in_ok-end.end.quiet c.in-Some.ending c.loop-rounds.invariant.made
    c.in_ok-end.ensures.round c.in-Some.ensures.over
    (more_on c.args.script.now c.loop-rounds.rounds c.loop-rounds.sites c.next_round.new.sites c.loop-rounds.invariant.more c.next_round.ensures.stays)

pub returns-in-Some-clause-stays : goal.returns-in-Some-clause-stays
returns-in-Some-clause-stays g c =
    each_on GoesOn GoesOn GoesOn goes_on c.args.sites.now.sites c.loop-rounds.sites.sites c.next_round.new.sites.sites c.loop-rounds.invariant.stays c.next_round.ensures.stays

pub loop-rounds-preserved : goal.loop-rounds-preserved
loop-rounds-preserved g c = record {
  made = rounds_more drawn_order count_of (IsRound g.D.Disk.told g.D.Disk.state g.D.Disk.fault_count g.D.Disk.byte_count) (seeded c.args.seed) c.loop-rounds.rounds c.args.sites.now
      c.loop-rounds.sites c.next_round.new.sites c.loop-rounds.orders.rng c.next_round.new.orders.rng c.in_ok-end.end.quiet c.loop-rounds.invariant.made
      c.in_ok-end.ensures.round c.in_ok-end.ensures.drawn;
  more = lt_le_on (c.loop-rounds.rounds + 1) c.ending_of.new.most (budget_of c.args.script.now c.next_round.new.sites)
      (c.ending_of.ensures.more c.in_default.is) c.ending_of.ensures.most;
  most = c.ending_of.ensures.most;
  turns = round_turns g.D.Disk.told g.D.Disk.state g.D.Disk.fault_count g.D.Disk.byte_count _ c.loop-rounds.sites c.next_round.new.sites c.in_ok-end.end.quiet
      c.in_ok-end.ensures.round ∙ c.loop-rounds.invariant.turns;
  rises = rises_more c.loop-rounds.rounds (count_of c.args.sites.now) c.args.sites.now c.loop-rounds.sites c.next_round.new.sites c.loop-rounds.invariant.turns refl
      c.loop-rounds.invariant.rises c.in_ok-end.ensures.rises;
  stays = each_on GoesOn GoesOn GoesOn goes_on c.args.sites.now.sites c.loop-rounds.sites.sites c.next_round.new.sites.sites c.loop-rounds.invariant.stays
      c.next_round.ensures.stays;
}
