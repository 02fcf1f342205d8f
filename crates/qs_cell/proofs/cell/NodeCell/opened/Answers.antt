use Rattle.std.proofs.Common.{◌≡◌, subst}
use Rattle.std.specs.Prelude.{IfOk}
use Rattle.qs_cell.proofs.cell.NodeCell.opened.Goals as goal

pub returns : goal.returns
returns g c = subst (λ cell. IfOk c.opened_with.result (λ opened. opened ≡ cell.opened)) c.self.view_is c.opened_with.ensures
