use Rattle.std.proofs.Common.{◌≡◌, ℕ, List}
use Rattle.qs_disk.proofs.Moments.{read_keeps}
use Rattle.qs_log.proofs.opening.read_area.Goals as goal

pub returns-in_err-read-clause-moments : goal.returns-in_err-read-clause-moments
returns-in_err-read-clause-moments g c = λ told.
    read_keeps (λ (d : List ℕ). d ≡ (g.D.Disk.state c.args.disk.now).content) _ _ _ (g.D.Disk.state c.args.disk.now) (g.D.Disk.state c.read.new.self)
    (c.requires.still told) (c.read.ensures.state told)

pub returns-clause-moments : goal.returns-clause-moments
returns-clause-moments g c = λ told.
    read_keeps (λ (d : List ℕ). d ≡ (g.D.Disk.state c.args.disk.now).content) _ _ _ (g.D.Disk.state c.args.disk.now) (g.D.Disk.state c.read.new.self)
    (c.requires.still told) (c.read.ensures.state told)
