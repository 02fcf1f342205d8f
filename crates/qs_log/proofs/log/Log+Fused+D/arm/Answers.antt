use Rattle.std.proofs.Common.{sym, ap, subst}
use Rattle.qs_disk.specs.Fuse.{FusedValue}
use Rattle.qs_log.specs.Log.{LogValue, Stands}
use Rattle.qs_log.proofs.Holding.{view_of, stands_same}
use Rattle.qs_log.proofs.log.«Log+Fused+D».arm.Goals as goal

pub returns-clause-stands : goal.returns-clause-stands
returns-clause-stands g c = λ told stands.
    let here = subst (λ (v : LogValue (FusedValue g.row.D.Denot)). Stands c.args.self.now (g.D.Disk.state v.disk.disk)) (sym c.self.view_is) stands in
    stands_same c.args.self.now (view_of c.arm.new.self c.self.inside.slots c.self.inside.records c.self.inside.forced c.self.inside.used) (g.D.Disk.state c.arm.new.self.disk)
    (subst (λ (d : g.row.D.Denot). Stands c.args.self.now (g.D.Disk.state d)) (sym c.arm.ensures.disk) here)
    (ap (λ (v : LogValue (FusedValue g.row.D.Denot)). v.slots) c.self.view_is) (ap (λ (v : LogValue (FusedValue g.row.D.Denot)). v.forced) c.self.view_is)
    (ap (λ (v : LogValue (FusedValue g.row.D.Denot)). v.used) c.self.view_is)
