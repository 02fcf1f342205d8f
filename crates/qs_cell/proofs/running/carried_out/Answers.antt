use Rattle.std.proofs.Common.{ℕ, Err, ap, subst, sym}
use Rattle.qs_cell.proofs.Happening.{has_stepped, told_cause, cut_short, stands_on, disk_left}
use Rattle.qs_cell.specs.Cell.{IfStands, IsOutcome, StandsAfter}
use Rattle.qs_node_host.specs.Roomy.{LacksRoom}
use Rattle.qs_cell.specs.Outcomes.{outcome_of}
use Rattle.qs_cell.specs.Within.{running_with}
use Rattle.qs_cell.specs.declared.running.Fate.{Fate}
use Rattle.qs_cell.proofs.running.carried_out.Goals as goal

pub returns-in-Ok-clause-outcome : goal.returns-in-Ok-clause-outcome
returns-in-Ok-clause-outcome g c = λ size old sessions is_size work.
    c.whole.ensures.outcome size old sessions
    (has_stepped size c.args.occasion old c.args.host.now c.carry_out.new.self sessions c.args.carried.now c.args.out c.args.put work c.in-Ok.ensures.node c.in-Ok.ensures.log
    c.carry_out.ensures.leads)

pub returns-in-Err-clause-outcome : goal.returns-in-Err-clause-outcome
returns-in-Err-clause-outcome g c = λ size old sessions is_size work.
    subst (λ (fate : Fate). IsOutcome g.D.Disk.fault_count size c.args.occasion old (outcome_of fate (running_with c.carry_out.new.self sessions c.cut_off.new.carried))) (sym c.cut_off.ensures.fate)
    (cut_short g.D.Disk.fault_count size c.args.occasion old c.args.host.now c.carry_out.new.self sessions c.args.carried.now c.cut_off.new.carried c.args.out c.args.put c.in-Err.why c.cut_cause-cause.result
    c.is_full.result work c.in-Err.ensures.kept c.cut_off.ensures.crashed c.carry_out.ensures.leads c.cut_cause-cause.ensures.memory c.cut_cause-cause.ensures.full c.is_full.ensures
    (λ is. subst (λ (n : ℕ). LacksRoom n c.args.host.now.log c.args.out.records) (sym is_size) (c.in-Err.ensures.full (ap Err is)))
    (λ is. told_cause g.D.Disk.fault_count c.args.host.now.log.disk c.carry_out.new.self.log.disk c.disk.result.now c.disk-2.result.now c.disk-in-Err.result.now c.trips-trips.result
    c.own_faults-own.result c.cut_cause-cause.result c.disk.ensures c.disk-2.ensures c.disk-in-Err.ensures c.trips-trips.ensures c.own_faults-own.ensures (c.cut_cause-cause.ensures.fault is))
    (λ is. c.in-Err.ensures.batch (ap Err is)) (λ is. c.in-Err.ensures.cause (ap Err is)))

pub returns-in-Ok-clause-stands : goal.returns-in-Ok-clause-stands
returns-in-Ok-clause-stands g c = λ told sessions.
    stands_on {F = g.row.F.Denot} {X = g.row.X.Denot} g.D.Disk.state (outcome_of c.whole.result (running_with c.carry_out.new.self sessions c.whole.new.carried)) c.args.out c.args.host.now.log c.carry_out.new.self.log
    c.in-Ok.ensures.log (disk_left c.whole.result (running_with c.carry_out.new.self sessions c.whole.new.carried)) (c.in-Ok.ensures.stands told)

pub returns-in-Err-clause-stands : goal.returns-in-Err-clause-stands
returns-in-Err-clause-stands g c = λ told sessions.
    subst (λ (fate : Fate). IfStands (outcome_of fate (running_with {F = g.row.F.Denot} {X = g.row.X.Denot} c.carry_out.new.self sessions c.cut_off.new.carried))
    (λ disk. StandsAfter c.args.out c.args.host.now.log disk (g.D.Disk.state disk.disk))) (sym c.cut_off.ensures.fate) tt
