use Rattle.std.proofs.Common.{◌∙◌, ap, refl}
use Rattle.qs_cell.specs.Starts.{post_of}
use Rattle.qs_cell_peers.specs.Links.{carried_from}
use Rattle.qs_cell.proofs.HearingTurns.{from_breaks, peer_by, peer_still, times_more}
use Rattle.qs_cell_peers.proofs.Linked.{linked_none, linked_on}
use Rattle.qs_cell.proofs.Rings.{rings_none, rings_on}
use Rattle.qs_cell.proofs.Turning.{on_err_all}
use Rattle.qs_cell.proofs.cell.NodeCell.hear_from.Goals as goal

pub loop-init : goal.loop-init
loop-init g c = record { hears = refl; linked = linked_none c.args.self.now.links; opened = refl; faults = refl; rings = rings_none c.args.self.now.seat.ends }

pub hear_next-requires : goal.hear_next-requires
hear_next-requires g c =
    peer_still c.args.self.now.links c.loop.self.links c.args.from c.loop.invariant.linked.same
    (peer_by c.args.self.now.links c.args.from c.carried_from-count.result c.loop.counter (c.carried_from-count.ensures ∙ ap (λ cell. carried_from cell.links c.args.from) c.self.view_is) c.loop-test.true)

pub loop-preserved : goal.loop-preserved
loop-preserved g c = record {
  hears = times_more g.D.Disk.told g.D.Disk.state g.D.Disk.fault_count g.D.Disk.byte_count c.args.from c.loop.counter (post_of c.args.self.now) (post_of c.loop.self) (post_of c.hear_next.new.self)
      c.loop.invariant.hears c.in_ok-hear_next.ensures.hears;
  linked = linked_on c.args.self.now.links c.loop.self.links c.hear_next.new.self.links c.loop.invariant.linked c.hear_next.ensures.linked;
  opened = c.hear_next.ensures.opened ∙ c.loop.invariant.opened;
  faults = c.hear_next.ensures.faults ∙ c.loop.invariant.faults;
  rings = rings_on c.args.self.now.seat.ends c.loop.self.seat.ends c.hear_next.new.self.seat.ends c.loop.invariant.rings c.hear_next.ensures.rings;
}

pub returns-in_err-hear_next-clause-breaks : goal.returns-in_err-hear_next-clause-breaks
returns-in_err-hear_next-clause-breaks g c = on_err_all c.from_residual.result
    (from_breaks g.D.Disk.told g.D.Disk.state g.D.Disk.fault_count g.D.Disk.byte_count c.args.from c.loop.counter c.carried_from-count.result (post_of c.args.self.now) (post_of c.loop.self) (post_of c.hear_next.new.self)
    (c.carried_from-count.ensures ∙ ap (λ cell. carried_from cell.links c.args.from) c.self.view_is) c.loop-test.true c.loop.invariant.hears c.in_err-hear_next.ensures.breaks)

pub returns-in_err-hear_next-clause-linked : goal.returns-in_err-hear_next-clause-linked
returns-in_err-hear_next-clause-linked g c = linked_on c.args.self.now.links c.loop.self.links c.hear_next.new.self.links c.loop.invariant.linked c.hear_next.ensures.linked

pub returns-in_err-hear_next-clause-rings : goal.returns-in_err-hear_next-clause-rings
returns-in_err-hear_next-clause-rings g c = rings_on c.args.self.now.seat.ends c.loop.self.seat.ends c.hear_next.new.self.seat.ends c.loop.invariant.rings c.hear_next.ensures.rings
