use Rattle.std.proofs.Common.{◌∙◌, ap, refl}
use Rattle.qs_cell.specs.Starts.{post_of}
use Rattle.qs_cell.proofs.HearingTurns.{below_breaks, below_more}
use Rattle.qs_cell_peers.proofs.Linked.{linked_none, linked_on}
use Rattle.qs_cell.proofs.Rings.{rings_none, rings_on}
use Rattle.qs_cell.proofs.Turning.{on_err_all}
use Rattle.qs_cell.proofs.cell.NodeCell.hear_all.Goals as goal

pub loop-from-init : goal.loop-from-init
loop-from-init g c = record { hears = refl; linked = linked_none c.args.self.now.links; opened = refl; faults = refl; rings = rings_none c.args.self.now.seat.ends }

pub loop-from-preserved : goal.loop-from-preserved
loop-from-preserved g c = record {
  hears = below_more g.D.Disk.told g.D.Disk.state g.D.Disk.fault_count g.D.Disk.byte_count c.loop-from.from (post_of c.args.self.now) (post_of c.loop-from.self) (post_of c.hear_from.new.self)
      c.loop-from.invariant.hears c.in_ok-hear_from.ensures.hears;
  linked = linked_on c.args.self.now.links c.loop-from.self.links c.hear_from.new.self.links c.loop-from.invariant.linked c.hear_from.ensures.linked;
  opened = c.hear_from.ensures.opened ∙ c.loop-from.invariant.opened;
  faults = c.hear_from.ensures.faults ∙ c.loop-from.invariant.faults;
  rings = rings_on c.args.self.now.seat.ends c.loop-from.self.seat.ends c.hear_from.new.self.seat.ends c.loop-from.invariant.rings c.hear_from.ensures.rings;
}

pub returns-in_err-hear_from-clause-breaks : goal.returns-in_err-hear_from-clause-breaks
returns-in_err-hear_from-clause-breaks g c = on_err_all c.from_residual.result
    (below_breaks g.D.Disk.told g.D.Disk.state g.D.Disk.fault_count g.D.Disk.byte_count c.args.self.now.links.size c.loop-from.from c.count-from-end.result (post_of c.args.self.now) (post_of c.loop-from.self) (post_of c.hear_from.new.self)
    (c.count-from-end.ensures.count ∙ ap (λ cell. cell.links.size) c.self.view_is) c.loop-from-test.true c.loop-from.invariant.hears c.in_err-hear_from.ensures.breaks)

pub returns-in_err-hear_from-clause-linked : goal.returns-in_err-hear_from-clause-linked
returns-in_err-hear_from-clause-linked g c = linked_on c.args.self.now.links c.loop-from.self.links c.hear_from.new.self.links c.loop-from.invariant.linked c.hear_from.ensures.linked

pub returns-in_err-hear_from-clause-rings : goal.returns-in_err-hear_from-clause-rings
returns-in_err-hear_from-clause-rings g c = rings_on c.args.self.now.seat.ends c.loop-from.self.seat.ends c.hear_from.new.self.seat.ends c.loop-from.invariant.rings c.hear_from.ensures.rings
