use Rattle.std.proofs.Common.{◌∙◌, ap, drop, length}
use Rattle.qs_cell.proofs.Rings.{joined_carried_in}
use Rattle.qs_cell.proofs.Written.{carried_in}
use Rattle.qs_cell.proofs.cell.NodeCell.carry_commands.Goals as goal

pub returns-clause-carries : goal.returns-clause-carries
returns-clause-carries g c =
    carried_in c.args.client c.args.from.now c.carry_in.new.from c.as_mut_slice.result.now c.args.self.now.seat.ends c.carry_in.new.ends
    (drop (length c.carry_in.new.ends) c.self.inside.ends.items) c.self.inside.ends.len c.carry_in.result
    (c.as_mut_slice.ensures.value ∙ ap (λ cell. cell.seat.ends) c.self.view_is) (c.carry_in.auto.ends ∙ c.as_mut_slice.ensures.len) c.carry_in.ensures

pub returns-clause-joined : goal.returns-clause-joined
returns-clause-joined g c =
    joined_carried_in c.args.client c.args.from.now c.carry_in.new.from c.args.self.now.seat.ends _ c.carry_in.result (returns-clause-carries g c)
