use Rattle.std.proofs.Common.{◌∙◌, false, inl, inr, refl, sym}
use Rattle.qs_cell.specs.Outcomes.{outcome_of}
use Rattle.qs_cell.specs.declared.running.Fate.TheVariants as fates
use Rattle.qs_cell.specs.declared.state.CellState.TheVariants as states
use Rattle.qs_cell.proofs.Rooms.{node_roomy}
use Rattle.qs_cell.proofs.Standing.{left_down, makes_by, stands_made}
use Rattle.qs_cell.proofs.state.CellState.event.Goals as goal

pub returns-in-Whole-clause-makes : goal.returns-in-Whole-clause-makes
returns-in-Whole-clause-makes g c =
    makes_by g.D.Disk.told g.D.Disk.state g.D.Disk.fault_count g.D.Disk.byte_count c.args.occasion c.args.self.now (states.Up c.event-fate.new.self) c.in-Up.running c.event-fate.new.self
    (fates.Whole c.in-Whole.answers) c.in-Whole.answers c.in-Up.is c.in-Whole.ensures.outcome refl refl c.in-Whole.ensures.stands c.event-fate.ensures.moments c.event-fate.ensures.header c.event-fate.ensures.size

pub returns-in-Whole-clause-stands : goal.returns-in-Whole-clause-stands
returns-in-Whole-clause-stands g c = λ told.
    stands_made g.D.Disk.state g.D.Disk.fault_count (g.D.Disk.byte_count c.in-Up.running.host.log.disk.disk) c.args.occasion c.in-Up.running
    (outcome_of (fates.Whole c.in-Whole.answers) c.event-fate.new.self) c.in-Whole.ensures.outcome (c.in-Whole.ensures.stands told)

pub returns-in-Followed-clause-makes : goal.returns-in-Followed-clause-makes
returns-in-Followed-clause-makes g c =
    makes_by g.D.Disk.told g.D.Disk.state g.D.Disk.fault_count g.D.Disk.byte_count c.args.occasion c.args.self.now c.stop.new.self c.in-Up.running c.event-fate.new.self
    (fates.Followed c.in-Followed.answers) c.in-Followed.answers c.in-Up.is c.in-Followed.ensures.outcome c.stop.ensures refl c.in-Followed.ensures.stands c.event-fate.ensures.moments c.event-fate.ensures.header c.event-fate.ensures.size

pub returns-in-Replaced-clause-makes : goal.returns-in-Replaced-clause-makes
returns-in-Replaced-clause-makes g c =
    let left = left_down c.event-fate.result c.in-Replaced.cause false c.event-fate.new.self (inl (c.in-Replaced.is, refl)) in
    makes_by g.D.Disk.told g.D.Disk.state g.D.Disk.fault_count g.D.Disk.byte_count c.args.occasion c.args.self.now c.stop-in-Replaced.new.self c.in-Up.running c.event-fate.new.self
    c.event-fate.result c.new-in-Replaced.result c.in-Up.is c.event-fate.ensures.outcome (c.stop-in-Replaced.ensures ∙ sym left.0) (c.new-in-Replaced.ensures ∙ sym left.1)
    c.event-fate.ensures.stands c.event-fate.ensures.moments c.event-fate.ensures.header c.event-fate.ensures.size

pub returns-in-CutOff-clause-makes : goal.returns-in-CutOff-clause-makes
returns-in-CutOff-clause-makes g c =
    let left = left_down c.event-fate.result c.in-CutOff.cause c.in-CutOff.is_full c.event-fate.new.self (inr c.in-CutOff.is) in
    makes_by g.D.Disk.told g.D.Disk.state g.D.Disk.fault_count g.D.Disk.byte_count c.args.occasion c.args.self.now c.stop-in-CutOff.new.self c.in-Up.running c.event-fate.new.self
    c.event-fate.result c.new-in-CutOff.result c.in-Up.is c.event-fate.ensures.outcome (c.stop-in-CutOff.ensures ∙ sym left.0) (c.new-in-CutOff.ensures ∙ sym left.1)
    c.event-fate.ensures.stands c.event-fate.ensures.moments c.event-fate.ensures.header c.event-fate.ensures.size

-- ---- room

pub returns-in-Whole-clause-rooms : goal.returns-in-Whole-clause-rooms
returns-in-Whole-clause-rooms g c = λ keep.
    node_roomy keep g.D.Disk.byte_count c.args.occasion c.args.self.now (states.Up c.event-fate.new.self) c.in-Up.running c.event-fate.new.self (fates.Whole c.in-Whole.answers)
    c.in-Up.is refl c.in-Whole.ensures.rooms

pub returns-in-Followed-clause-rooms : goal.returns-in-Followed-clause-rooms
returns-in-Followed-clause-rooms g c = λ keep.
    node_roomy keep g.D.Disk.byte_count c.args.occasion c.args.self.now c.stop.new.self c.in-Up.running c.event-fate.new.self (fates.Followed c.in-Followed.answers)
    c.in-Up.is c.stop.ensures c.in-Followed.ensures.rooms

pub returns-in-Replaced-clause-rooms : goal.returns-in-Replaced-clause-rooms
returns-in-Replaced-clause-rooms g c = λ keep.
    let left = left_down c.event-fate.result c.in-Replaced.cause false c.event-fate.new.self (inl (c.in-Replaced.is, refl)) in
    node_roomy keep g.D.Disk.byte_count c.args.occasion c.args.self.now c.stop-in-Replaced.new.self c.in-Up.running c.event-fate.new.self c.event-fate.result
    c.in-Up.is (c.stop-in-Replaced.ensures ∙ sym left.0) c.event-fate.ensures.rooms

pub returns-in-CutOff-clause-rooms : goal.returns-in-CutOff-clause-rooms
returns-in-CutOff-clause-rooms g c = λ keep.
    let left = left_down c.event-fate.result c.in-CutOff.cause c.in-CutOff.is_full c.event-fate.new.self (inr c.in-CutOff.is) in
    node_roomy keep g.D.Disk.byte_count c.args.occasion c.args.self.now c.stop-in-CutOff.new.self c.in-Up.running c.event-fate.new.self c.event-fate.result
    c.in-Up.is (c.stop-in-CutOff.ensures ∙ sym left.0) c.event-fate.ensures.rooms
