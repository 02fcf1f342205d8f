use Rattle.std.proofs.Common.{◌≤◌, ◌+◌, length, subst, sym}
use Rattle.qs_disk.proofs.Moments.{wrote, wrote_through}
use Rattle.qs_disk.proofs.through.write_through.Goals as goal

pub returns-in_err-write-clause-moments : goal.returns-in_err-write-clause-moments
returns-in_err-write-clause-moments g c = λ told.
    wrote c.args.at c.args.bytes.now _ (g.D.Disk.state c.args.disk.now) (g.D.Disk.state c.write.new.self) (c.requires.still told) (c.write.ensures.state told)

pub returns-clause-moments : goal.returns-clause-moments
returns-clause-moments g c = λ told.
    wrote_through c.args.at c.args.bytes.now _ (g.D.Disk.state c.args.disk.now) (g.D.Disk.state c.write.new.self) (g.D.Disk.state c.sync.new.self) (c.requires.still told)
    (subst (λ n. c.args.at + length c.args.bytes.now ≤ n) (sym (g.met.D.Disk.sized c.args.disk.now told)) c.requires.in_range)
    (c.in_ok-write.ensures.state told) (c.sync.ensures.state told)
