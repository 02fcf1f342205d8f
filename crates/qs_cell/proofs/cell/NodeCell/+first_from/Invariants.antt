use Rattle.std.proofs.Common.{◌-◌}
use Rattle.qs_cell.proofs.cell.NodeCell.+first_from.Given as goal

abbrev pub decreases-first_from : goal.decreases-first_from
decreases-first_from g l = l.end - l.at
