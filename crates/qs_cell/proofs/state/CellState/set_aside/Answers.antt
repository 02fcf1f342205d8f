use Rattle.std.proofs.Common.{◌∙◌, ap, sym}
use Rattle.std.specs.Prelude.{Some}
use Rattle.qs_cell.specs.Asides.{aside_outcome}
use Rattle.qs_cell.specs.State.{answers_of, state_of}
use Rattle.qs_cell.specs.declared.state.CellState.TheVariants as states
use Rattle.qs_cell.proofs.Hearing.{set_by, set_stands}
use Rattle.qs_cell.proofs.state.CellState.set_aside.Goals as goal

pub returns-clause-sets : goal.returns-clause-sets
returns-clause-sets g c =
    set_by c.args.packet c.args.self.now c.stop.new.self c.in-Up.running c.set_aside-cause.new.self (Some c.in-Some.cause) c.new-2.result c.in-Up.is c.in-Some.ensures.outcome c.stop.ensures c.new-2.ensures

pub returns-clause-stands : goal.returns-clause-stands
returns-clause-stands g c = λ told stands. set_stands g.D.Disk.state c.args.packet c.args.self.now c.stop.new.self c.new-2.result (returns-clause-sets g c) stands

pub returns-in_default-clause-sets : goal.returns-in_default-clause-sets
returns-in_default-clause-sets g c =
    set_by c.args.packet c.args.self.now (states.Up c.set_aside-cause.new.self) c.in-Up.running c.set_aside-cause.new.self c.set_aside-cause.result c.new-in_default.result c.in-Up.is c.set_aside-cause.ensures.outcome
    (ap (λ cause. state_of (aside_outcome cause c.set_aside-cause.new.self)) (sym c.in_default.is))
    (c.new-in_default.ensures ∙ ap (λ cause. answers_of (aside_outcome cause c.set_aside-cause.new.self)) (sym c.in_default.is))

pub returns-in_default-clause-stands : goal.returns-in_default-clause-stands
returns-in_default-clause-stands g c = λ told stands.
    set_stands g.D.Disk.state c.args.packet c.args.self.now (states.Up c.set_aside-cause.new.self) c.new-in_default.result (returns-in_default-clause-sets g c) stands
