use Rattle.std.proofs.Common.{◌∙◌, ap, refl, sym, inl, inr, true, false, Err}
use Rattle.qs_cell.specs.Cell.{may_make}
use Rattle.qs_book_journal.specs.declared.entry.CrashCause.TheVariants as causes
use Rattle.qs_cell.specs.Outcomes.{outcome_of, stopped_of}
use Rattle.qs_cell.specs.Within.{running_with}
use Rattle.qs_cell.proofs.Happening.{sent_as, past_last, not_past_last, header_as, untouched, untouched_header, stops_as, planned_by, spent_as, replaced_by, unsent, begun_on, worked, stands_as, moments_as}
use Rattle.qs_cell.proofs.running.worked_out.Goals as goal
use Rattle.qs_cell_chronicle.specs.Occasions.{event_of}
use Rattle.qs_node_host.specs.Host.{effects_at, worked_node}

pub returns-in_default-clause-moments : goal.returns-in_default-clause-moments
returns-in_default-clause-moments g c = λ told.
    untouched (effects_at (g.D.Disk.byte_count c.args.host.now.log.disk.disk) c.args.host.now (event_of c.args.occasion)) c.args.host.now.log g.D.Disk.state c.work_out.new.host.log.disk
    (ap (λ log. log.disk) c.work_out.ensures.log) (c.requires.stands told)

pub returns-then-any_stops_before-clause-moments : goal.returns-then-any_stops_before-clause-moments
returns-then-any_stops_before-clause-moments g c = λ told.
    untouched (effects_at (g.D.Disk.byte_count c.args.host.now.log.disk.disk) c.args.host.now (event_of c.args.occasion)) c.args.host.now.log g.D.Disk.state c.work_out.new.host.log.disk
    (ap (λ log. log.disk) c.work_out.ensures.log) (c.requires.stands told)

pub returns-then-is_err-clause-moments : goal.returns-then-is_err-clause-moments
returns-then-is_err-clause-moments g c = λ told.
    untouched (effects_at (g.D.Disk.byte_count c.args.host.now.log.disk.disk) c.args.host.now (event_of c.args.occasion)) c.args.host.now.log g.D.Disk.state c.work_out.new.host.log.disk
    (ap (λ log. log.disk) c.work_out.ensures.log) (c.requires.stands told)

pub returns-then-any_stops_before-clause-outcome : goal.returns-then-any_stops_before-clause-outcome
returns-then-any_stops_before-clause-outcome g c = λ old same same_sessions begun none.
    let size = g.D.Disk.byte_count c.args.host.now.log.disk.disk in
    let out_is = c.in-Ok.ensures.effects ∙ ap (λ h. effects_at size h (event_of c.args.occasion)) same in
    let node_is = c.in-Ok.ensures.node ∙ ap (λ h. worked_node size h (event_of c.args.occasion)) same in
    let may = ap (λ h. may_make h.node c.args.occasion) (sym same) ∙ (sym c.may_make.ensures ∙ c.if-not-may_make.false) in
    let crash = c.replaced-then-any_stops_before.ensures.crashed in
    replaced_by g.D.Disk.fault_count size c.args.occasion old c.work_out.new.host c.args.sessions.now (record c.args.carried.now { points = c.spend.new.points }) c.replaced-then-any_stops_before.new.carried causes.Plan c.replaced-then-any_stops_before.result
    (c.work_out.ensures.log ∙ ap (λ h. h.log) same) (c.work_out.ensures.saved ∙ ap (λ h. h.node.kept.saved) same) crash begun.told begun.crashes begun.setting c.replaced-then-any_stops_before.ensures.fate
    (inr (inl (record {
      cause = planned_by size c.args.occasion old true may none
          (sym (stops_as size c.args.occasion old c.kept.result.now.now.labels c.in-Ok.out c.as_slice.result.now c.as_slice-2.result.now c.any_stops_before.result
          (ap (λ k. k.now.labels) c.kept.ensures ∙ ap (λ n. n.kept.now.labels) node_is) out_is c.as_slice.ensures (c.as_slice-2.ensures.value ∙ begun.points) c.any_stops_before.ensures)
          ∙ c.if-any_stops_before.true);
      commands = crash.commands ∙ begun.commands;
      points = crash.points ∙ (c.spend.ensures ∙ spent_as size c.args.occasion old c.kept-then-any_stops_before.result.now.now.labels c.in-Ok.out c.as_slice-then-any_stops_before.result.now c.args.carried.now.points.items
          (ap (λ k. k.now.labels) c.kept-then-any_stops_before.ensures ∙ ap (λ n. n.kept.now.labels) node_is) out_is c.as_slice-then-any_stops_before.ensures begun.points may none);
    })))

pub returns-in-Err-clause-outcome : goal.returns-in-Err-clause-outcome
returns-in-Err-clause-outcome g c = λ old same same_sessions begun none.
    let size = g.D.Disk.byte_count c.args.host.now.log.disk.disk in
    let out_is = c.in-Ok.ensures.effects ∙ ap (λ h. effects_at size h (event_of c.args.occasion)) same in
    let node_is = c.in-Ok.ensures.node ∙ ap (λ h. worked_node size h (event_of c.args.occasion)) same in
    let may = ap (λ h. may_make h.node c.args.occasion) (sym same) ∙ (sym c.may_make.ensures ∙ c.if-not-may_make.false) in
    let crash = c.replaced-in-Err.ensures.crashed in
    replaced_by g.D.Disk.fault_count size c.args.occasion old c.work_out.new.host c.send.new.sessions c.args.carried.now c.replaced-in-Err.new.carried c.cause_of.result c.replaced-in-Err.result
    (c.work_out.ensures.log ∙ ap (λ h. h.log) same) (c.work_out.ensures.saved ∙ ap (λ h. h.node.kept.saved) same) crash begun.told begun.crashes begun.setting c.replaced-in-Err.ensures.fate
    (unsent size c.args.occasion old (stopped_of c.cause_of.result false (running_with {F = g.row.F.Denot} {X = g.row.X.Denot} c.work_out.new.host c.send.new.sessions c.replaced-in-Err.new.carried)) c.in-Err.fault
    (planned_by size c.args.occasion old false may none
    (sym (stops_as size c.args.occasion old c.kept.result.now.now.labels c.in-Ok.out c.as_slice.result.now c.as_slice-2.result.now c.any_stops_before.result
    (ap (λ k. k.now.labels) c.kept.ensures ∙ ap (λ n. n.kept.now.labels) node_is) out_is c.as_slice.ensures (c.as_slice-2.ensures.value ∙ begun.points) c.any_stops_before.ensures)
    ∙ c.if-any_stops_before.false))
    c.cause_of.ensures (crash.commands ∙ begun.commands) (crash.points ∙ begun.points)
    (λ value is. let last = c.in-Err.ensures.last value (ap (λ f. Err f) is) in (last.0, past_last size c.args.occasion old c.args.sessions.now c.in-Ok.out same_sessions out_is last.1)))

pub returns-clause-outcome : goal.returns-clause-outcome
returns-clause-outcome g c = λ old same same_sessions begun none.
    let size = g.D.Disk.byte_count c.args.host.now.log.disk.disk in
    let out_is = c.in-Ok.ensures.effects ∙ ap (λ h. effects_at size h (event_of c.args.occasion)) same in
    let node_is = c.in-Ok.ensures.node ∙ ap (λ h. worked_node size h (event_of c.args.occasion)) same in
    let may = ap (λ h. may_make h.node c.args.occasion) (sym same) ∙ (sym c.may_make.ensures ∙ c.if-not-may_make.false) in
    c.carried_out.ensures.outcome size old c.send.new.sessions (ap (λ log. g.D.Disk.byte_count log.disk.disk) (sym c.work_out.ensures.log))
    (worked size c.args.occasion old c.args.host.now c.work_out.new.host c.send.new.sessions c.args.carried.now (record c.args.carried.now { chronicle = c.make_room.new.self }) c.in-Ok.out c.in-Ok-send.put same
    c.in-Ok.ensures.node c.work_out.ensures.saved c.work_out.ensures.log c.in-Ok.ensures.effects
    (begun_on c.args.occasion old.carried c.args.carried.now (record c.args.carried.now { chronicle = c.make_room.new.self }) begun c.make_room.ensures.told refl refl refl refl)
    (planned_by size c.args.occasion old false may none
    (sym (stops_as size c.args.occasion old c.kept.result.now.now.labels c.in-Ok.out c.as_slice.result.now c.as_slice-2.result.now c.any_stops_before.result
    (ap (λ k. k.now.labels) c.kept.ensures ∙ ap (λ n. n.kept.now.labels) node_is) out_is c.as_slice.ensures (c.as_slice-2.ensures.value ∙ begun.points) c.any_stops_before.ensures)
    ∙ c.if-any_stops_before.false))
    (sent_as size c.args.occasion old c.args.sessions.now c.send.new.sessions c.stamp.result c.in-Ok.out c.in-Ok-send.put same_sessions (c.stamp.ensures.stamp ∙ ap (λ t. t.stamp) begun.told) out_is c.in-Ok-send.ensures.sent)
    (not_past_last size c.args.occasion old c.args.sessions.now c.in-Ok.out same_sessions out_is c.in-Ok-send.ensures.numbered))

pub returns-clause-stands : goal.returns-clause-stands
returns-clause-stands g c = λ told.
    stands_as g.D.Disk.state (outcome_of c.carried_out.result (running_with {F = g.row.F.Denot} {X = g.row.X.Denot} c.carried_out.new.host c.send.new.sessions c.carried_out.new.carried)) c.in-Ok.out (effects_at (g.D.Disk.byte_count c.args.host.now.log.disk.disk) c.args.host.now (event_of c.args.occasion))
    c.work_out.new.host.log c.args.host.now.log c.in-Ok.ensures.effects c.work_out.ensures.log
    (c.carried_out.ensures.stands told c.send.new.sessions)

pub returns-clause-moments : goal.returns-clause-moments
returns-clause-moments g c = λ told.
    moments_as g.D.Disk.state c.carried_out.new.host.log.disk c.in-Ok.out (effects_at (g.D.Disk.byte_count c.args.host.now.log.disk.disk) c.args.host.now (event_of c.args.occasion))
    c.work_out.new.host.log c.args.host.now.log c.in-Ok.ensures.effects c.work_out.ensures.log
    (c.carried_out.ensures.moments told)

pub returns-in_default-clause-header : goal.returns-in_default-clause-header
returns-in_default-clause-header g c = λ told.
    untouched_header c.args.host.now.log g.D.Disk.state c.work_out.new.host.log.disk (ap (λ log. log.disk) c.work_out.ensures.log) (c.requires.stands told)

pub returns-then-any_stops_before-clause-header : goal.returns-then-any_stops_before-clause-header
returns-then-any_stops_before-clause-header g c = λ told.
    untouched_header c.args.host.now.log g.D.Disk.state c.work_out.new.host.log.disk (ap (λ log. log.disk) c.work_out.ensures.log) (c.requires.stands told)

pub returns-then-is_err-clause-header : goal.returns-then-is_err-clause-header
returns-then-is_err-clause-header g c = λ told.
    untouched_header c.args.host.now.log g.D.Disk.state c.work_out.new.host.log.disk (ap (λ log. log.disk) c.work_out.ensures.log) (c.requires.stands told)

pub returns-clause-header : goal.returns-clause-header
returns-clause-header g c = λ told.
    header_as g.D.Disk.state c.carried_out.new.host.log.disk c.work_out.new.host.log c.args.host.now.log c.work_out.ensures.log (c.carried_out.ensures.header told)

pub returns-then-not-may_make-clause-moments : goal.returns-then-not-may_make-clause-moments
returns-then-not-may_make-clause-moments g c = λ told.
    untouched (effects_at (g.D.Disk.byte_count c.args.host.now.log.disk.disk) c.args.host.now (event_of c.args.occasion)) c.args.host.now.log g.D.Disk.state c.args.host.now.log.disk refl (c.requires.stands told)

pub returns-then-not-may_make-clause-header : goal.returns-then-not-may_make-clause-header
returns-then-not-may_make-clause-header g c = λ told. untouched_header c.args.host.now.log g.D.Disk.state c.args.host.now.log.disk refl (c.requires.stands told)

pub returns-in-Err-clause-moments : goal.returns-in-Err-clause-moments
returns-in-Err-clause-moments g c = λ told.
    untouched (effects_at (g.D.Disk.byte_count c.args.host.now.log.disk.disk) c.args.host.now (event_of c.args.occasion)) c.args.host.now.log g.D.Disk.state c.work_out.new.host.log.disk
    (ap (λ log. log.disk) c.work_out.ensures.log) (c.requires.stands told)

pub returns-in-Err-clause-header : goal.returns-in-Err-clause-header
returns-in-Err-clause-header g c = λ told.
    untouched_header c.args.host.now.log g.D.Disk.state c.work_out.new.host.log.disk (ap (λ log. log.disk) c.work_out.ensures.log) (c.requires.stands told)
