use Rattle.std.proofs.Common.{◌∙◌, ap, drop, length}
use Rattle.qs_cell.proofs.Rings.{joined_carried_out}
use Rattle.qs_cell.proofs.Written.{carried_out}
use Rattle.qs_cell.proofs.cell.NodeCell.carry_answers.Goals as goal

pub returns-clause-carries : goal.returns-clause-carries
returns-clause-carries g c =
    carried_out c.args.client c.args.to.now c.carry_out.new.to c.as_mut_slice.result.now c.args.self.now.seat.ends c.carry_out.new.ends
    (drop (length c.carry_out.new.ends) c.self.inside.ends.items) c.self.inside.ends.len c.carry_out.result
    (c.as_mut_slice.ensures.value ∙ ap (λ cell. cell.seat.ends) c.self.view_is) (c.carry_out.auto.ends ∙ c.as_mut_slice.ensures.len) c.carry_out.ensures

pub returns-clause-joined : goal.returns-clause-joined
returns-clause-joined g c =
    joined_carried_out c.args.client c.args.to.now c.carry_out.new.to c.args.self.now.seat.ends _ c.carry_out.result (returns-clause-carries g c)
