use Rattle.qs_cell.proofs.Hearing.{heard_stands}
use Rattle.qs_cell.proofs.state.CellState.hear.Goals as goal

pub event-requires-clause-stands : goal.event-requires-clause-stands
event-requires-clause-stands g c = λ told. heard_stands g.D.Disk.state c.args.packet c.args.self.now c.take_in.new.self c.take_in.result c.take_in.ensures (c.requires.stands told)

pub event-requires-in-Restarted-clause-stands : goal.event-requires-in-Restarted-clause-stands
event-requires-in-Restarted-clause-stands g c = λ told. heard_stands g.D.Disk.state c.args.packet c.args.self.now c.take_in.new.self c.take_in.result c.take_in.ensures (c.requires.stands told)

pub returns-in-Aside-clause-stands : goal.returns-in-Aside-clause-stands
returns-in-Aside-clause-stands g c = λ told.
    c.set_aside.ensures.stands told (heard_stands g.D.Disk.state c.args.packet c.args.self.now c.take_in.new.self c.take_in.result c.take_in.ensures (c.requires.stands told))

pub returns-in-Strange-clause-stands : goal.returns-in-Strange-clause-stands
returns-in-Strange-clause-stands g c = λ told.
    heard_stands g.D.Disk.state c.args.packet c.args.self.now c.take_in.new.self c.take_in.result c.take_in.ensures (c.requires.stands told)
