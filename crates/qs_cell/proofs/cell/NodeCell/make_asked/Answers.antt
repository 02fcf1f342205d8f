use Rattle.qs_cell.proofs.Rings.{rings_none}
use Rattle.qs_cell_peers.proofs.Linked.{linked_none}
use Rattle.qs_cell.proofs.cell.NodeCell.make_asked.Goals as goal

pub returns-in-None-clause-rings : goal.returns-in-None-clause-rings
returns-in-None-clause-rings g c = rings_none c.args.self.now.seat.ends

pub returns-in-None-clause-linked : goal.returns-in-None-clause-linked
returns-in-None-clause-linked g c = linked_none c.args.self.now.links
