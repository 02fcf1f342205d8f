use Rattle.qs_cell.specs.Acts.{in_act_as}
use Rattle.qs_world.specs.Histories.{opened_with}
use Rattle.qs_cell.proofs.Reopening.{act_begins}
use Rattle.qs_cell.proofs.Standing.{sound_seen}
use Rattle.qs_cell.proofs.cell.NodeCell.begin_act.Goals as goal

pub invariant_of-self : goal.invariant_of-self
invariant_of-self g c = sound_seen g.D.Disk.told g.D.Disk.state (opened_with c.self.inside.first c.self.inside.found) in_act_as c.self.inside.state c.begin_act.new.self act_begins c.begin_act.ensures c.self.invariant
