use Rattle.std.proofs.Common.{ap, subst, sym}
use Rattle.qs_world.specs.Histories.{opened_with}
use Rattle.qs_cell.specs.Logged.{IsLogged}
use Rattle.qs_cell.proofs.Logging.{has_log}
use Rattle.qs_cell.proofs.cell.NodeCell.into_parts.Goals as goal

pub returns-clause-records : goal.returns-clause-records
returns-clause-records g c = λ is_told.
    subst (λ opened. IsLogged opened (g.D.Disk.state c.into_parts.result.0.disk).now) (ap (λ cell. cell.opened) c.self.view_is)
    (subst (λ d. IsLogged (opened_with c.self.inside.first c.self.inside.found) (g.D.Disk.state d.disk).now) (sym c.into_parts.ensures.disk) (c.self.invariant.logged is_told))

pub returns-clause-logged : goal.returns-clause-logged
returns-clause-logged g c = λ is_told. has_log c.args.self.opened (g.D.Disk.state c.into_parts.result.0.disk).now (returns-clause-records g c is_told)
