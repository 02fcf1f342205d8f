use Rattle.std.proofs.Common.{◌≡◌, ◌∙◌, false, Bool, subst, sym}
use Rattle.qs_cell_peers.proofs.Linked.{linked_as}
use Rattle.qs_world_rounds.specs.Breaks.{NodeRefusedIf}
use Rattle.qs_world_rounds.specs.Rounds.{is_up}
use Rattle.qs_world_rounds.proofs.visits.visit_node.Goals as goal

pub returns-then-not-is_up-clause-refused : goal.returns-then-not-is_up-clause-refused
returns-then-not-is_up-clause-refused g c = λ is.
    let down : is_up c.args.node.now ≡ false = sym c.is_up.ensures ∙ c.if-not-is_up.true in
    subst (λ (b : Bool). NodeRefusedIf b g.D.Disk.told g.D.Disk.state g.D.Disk.fault_count g.D.Disk.byte_count c.args.node.now c.restart.new.node) (sym down) (c.restart.ensures.refused is)

pub returns-then-not-is_up-clause-linked : goal.returns-then-not-is_up-clause-linked
returns-then-not-is_up-clause-linked g c = linked_as c.args.node.now.links c.restart.new.node.links c.restart.ensures.links
