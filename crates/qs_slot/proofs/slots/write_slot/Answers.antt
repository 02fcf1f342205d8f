use Rattle.qs_slot.proofs.WritingLemmas.{closing_keeps, filling_keeps, opening_keeps}
use Rattle.qs_slot.proofs.slots.write_slot.Goals as goal

pub returns-in_err-write_through-clause-moments : goal.returns-in_err-write_through-clause-moments
returns-in_err-write_through-clause-moments g c = λ told.
    closing_keeps c.args.place c.args.closing.now c.args.body.now (g.D.Disk.state c.args.disk.now) (g.D.Disk.state c.write_through.new.disk)
    (c.write_through.ensures.moments told)

pub returns-in_err-write_through-2-clause-moments : goal.returns-in_err-write_through-2-clause-moments
returns-in_err-write_through-2-clause-moments g c = λ told.
    filling_keeps c.args.place c.args.closing.now c.args.body.now (g.D.Disk.state c.args.disk.now) (g.D.Disk.state c.write_through.new.disk) (g.D.Disk.state c.write_through-2.new.disk)
    (c.write_through.ensures.moments told) (c.in_ok-write_through.ensures.written told) (c.write_through-2.ensures.moments told)

pub returns-clause-moments : goal.returns-clause-moments
returns-clause-moments g c = λ told.
    opening_keeps c.args.place c.args.closing.now c.args.body.now (g.D.Disk.state c.args.disk.now) (g.D.Disk.state c.write_through.new.disk) (g.D.Disk.state c.write_through-2.new.disk) (g.D.Disk.state c.write_through-3.new.disk)
    (c.write_through.ensures.moments told) (c.in_ok-write_through.ensures.written told) (c.write_through-2.ensures.moments told)
    (c.in_ok-write_through-2.ensures.written told) (c.write_through-3.ensures.moments told)
