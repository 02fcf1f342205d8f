use Rattle.std.proofs.Common.{◌≡◌, ap, length, subst, sym}
use Rattle.qs_cell_peers.specs.Links.{LinksValue, StayLinked}
use Rattle.qs_cell_peers.proofs.Linked.{linked_on}
use Rattle.qs_cell.specs.Joined.{HaveSameRings}
use Rattle.qs_cell.specs.Starts.{post_of}
use Rattle.qs_cell.proofs.Rings.{joined_rings, rings_on}
use Rattle.qs_cell.proofs.Turning.{on_err_all}
use Rattle.qs_cell.proofs.Visiting.{break_grows, breaks_heard, breaks_put, breaks_turned, visit_grows, visits_all}
use Rattle.qs_cell.proofs.cell.NodeCell.visit.Goals as goal

pub returns-in_err-hear_all-clause-breaks : goal.returns-in_err-hear_all-clause-breaks
returns-in_err-hear_all-clause-breaks g c = on_err_all c.from_residual.result
    (breaks_heard g.D.Disk.told g.D.Disk.state g.D.Disk.fault_count g.D.Disk.byte_count c.args.self.now c.begin_round.new.self
    (record { round = c.begin_round.ensures.node; ends = c.begin_round.ensures.ends; links = c.begin_round.ensures.links }) c.hear_all.new.self c.in_err-hear_all.ensures.breaks)

pub returns-in_err-hear_all-clause-grows : goal.returns-in_err-hear_all-clause-grows
returns-in_err-hear_all-clause-grows g c = break_grows g.D.Disk.told g.D.Disk.state g.D.Disk.fault_count g.D.Disk.byte_count (post_of c.args.self.now) (post_of c.hear_all.new.self)
    (breaks_heard g.D.Disk.told g.D.Disk.state g.D.Disk.fault_count g.D.Disk.byte_count c.args.self.now c.begin_round.new.self
    (record { round = c.begin_round.ensures.node; ends = c.begin_round.ensures.ends; links = c.begin_round.ensures.links }) c.hear_all.new.self c.in_err-hear_all.ensures.breaks)

pub returns-in_err-hear_all-clause-joined : goal.returns-in_err-hear_all-clause-joined
returns-in_err-hear_all-clause-joined g c =
    joined_rings c.args.self.now.seat.ends c.hear_all.new.self.seat.ends (subst (λ ends. HaveSameRings ends c.hear_all.new.self.seat.ends) c.begin_round.ensures.ends c.hear_all.ensures.rings)

pub returns-in_err-turn_all-clause-breaks : goal.returns-in_err-turn_all-clause-breaks
returns-in_err-turn_all-clause-breaks g c = on_err_all c.from_residual-in_err-turn_all.result
    (breaks_turned g.D.Disk.told g.D.Disk.state g.D.Disk.fault_count g.D.Disk.byte_count c.args.self.now c.begin_round.new.self
    (record { round = c.begin_round.ensures.node; ends = c.begin_round.ensures.ends; links = c.begin_round.ensures.links }) c.hear_all.new.self c.in_ok-hear_all.ensures.hears c.hear_all.ensures.rings
    c.turn_all.new.self c.in_err-turn_all.ensures.breaks)

pub returns-in_err-turn_all-clause-grows : goal.returns-in_err-turn_all-clause-grows
returns-in_err-turn_all-clause-grows g c = break_grows g.D.Disk.told g.D.Disk.state g.D.Disk.fault_count g.D.Disk.byte_count (post_of c.args.self.now) (post_of c.turn_all.new.self)
    (breaks_turned g.D.Disk.told g.D.Disk.state g.D.Disk.fault_count g.D.Disk.byte_count c.args.self.now c.begin_round.new.self
    (record { round = c.begin_round.ensures.node; ends = c.begin_round.ensures.ends; links = c.begin_round.ensures.links }) c.hear_all.new.self c.in_ok-hear_all.ensures.hears c.hear_all.ensures.rings
    c.turn_all.new.self c.in_err-turn_all.ensures.breaks)

pub returns-in_err-turn_all-clause-rings : goal.returns-in_err-turn_all-clause-rings
returns-in_err-turn_all-clause-rings g c = rings_on c.args.self.now.seat.ends c.hear_all.new.self.seat.ends c.turn_all.new.self.seat.ends
    (subst (λ ends. HaveSameRings ends c.hear_all.new.self.seat.ends) c.begin_round.ensures.ends c.hear_all.ensures.rings) c.turn_all.ensures.rings

pub returns-in_err-turn_all-clause-joined : goal.returns-in_err-turn_all-clause-joined
returns-in_err-turn_all-clause-joined g c = joined_rings c.args.self.now.seat.ends c.turn_all.new.self.seat.ends (returns-in_err-turn_all-clause-rings g c)

pub returns-in_err-sent-clause-breaks : goal.returns-in_err-sent-clause-breaks
returns-in_err-sent-clause-breaks g c = on_err_all c.from_residual-in_err-sent.result
    (breaks_put g.D.Disk.told g.D.Disk.state g.D.Disk.fault_count g.D.Disk.byte_count c.args.self.now c.begin_round.new.self
    (record { round = c.begin_round.ensures.node; ends = c.begin_round.ensures.ends; links = c.begin_round.ensures.links }) c.hear_all.new.self c.in_ok-hear_all.ensures.hears c.hear_all.ensures.rings
    c.turn_all.new.self c.in_ok-turn_all.ensures.turns c.turn_all.ensures.links (length c.trace-steps.result.now) (ap length c.trace-steps.ensures) c.put_since.new.self c.put_since.ensures.seat c.in_err-sent.ensures.some)

pub returns-in_err-sent-clause-grows : goal.returns-in_err-sent-clause-grows
returns-in_err-sent-clause-grows g c = break_grows g.D.Disk.told g.D.Disk.state g.D.Disk.fault_count g.D.Disk.byte_count (post_of c.args.self.now) (post_of c.put_since.new.self)
    (breaks_put g.D.Disk.told g.D.Disk.state g.D.Disk.fault_count g.D.Disk.byte_count c.args.self.now c.begin_round.new.self
    (record { round = c.begin_round.ensures.node; ends = c.begin_round.ensures.ends; links = c.begin_round.ensures.links }) c.hear_all.new.self c.in_ok-hear_all.ensures.hears c.hear_all.ensures.rings
    c.turn_all.new.self c.in_ok-turn_all.ensures.turns c.turn_all.ensures.links (length c.trace-steps.result.now) (ap length c.trace-steps.ensures) c.put_since.new.self c.put_since.ensures.seat c.in_err-sent.ensures.some)

pub returns-in_err-sent-clause-rings : goal.returns-in_err-sent-clause-rings
returns-in_err-sent-clause-rings g c = subst (λ seat. HaveSameRings c.args.self.now.seat.ends seat.ends) (sym c.put_since.ensures.seat)
    (rings_on c.args.self.now.seat.ends c.hear_all.new.self.seat.ends c.turn_all.new.self.seat.ends
    (subst (λ ends. HaveSameRings ends c.hear_all.new.self.seat.ends) c.begin_round.ensures.ends c.hear_all.ensures.rings) c.turn_all.ensures.rings)

pub returns-in_err-sent-clause-joined : goal.returns-in_err-sent-clause-joined
returns-in_err-sent-clause-joined g c = joined_rings c.args.self.now.seat.ends c.put_since.new.self.seat.ends (returns-in_err-sent-clause-rings g c)

pub returns-clause-visits : goal.returns-clause-visits
returns-clause-visits g c =
    visits_all g.D.Disk.told g.D.Disk.state g.D.Disk.fault_count g.D.Disk.byte_count c.args.self.now c.begin_round.new.self
    (record { round = c.begin_round.ensures.node; ends = c.begin_round.ensures.ends; links = c.begin_round.ensures.links }) c.hear_all.new.self c.in_ok-hear_all.ensures.hears c.hear_all.ensures.rings
    c.turn_all.new.self c.in_ok-turn_all.ensures.turns c.turn_all.ensures.links (length c.trace-steps.result.now) (ap length c.trace-steps.ensures) c.put_since.new.self c.put_since.ensures.seat c.in_ok-sent.ensures.put

pub returns-clause-grows : goal.returns-clause-grows
returns-clause-grows g c = visit_grows g.D.Disk.told g.D.Disk.state g.D.Disk.fault_count g.D.Disk.byte_count (post_of c.args.self.now) (post_of c.put_since.new.self) (returns-clause-visits g c)

pub returns-clause-rings : goal.returns-clause-rings
returns-clause-rings g c = subst (λ seat. HaveSameRings c.args.self.now.seat.ends seat.ends) (sym c.put_since.ensures.seat)
    (rings_on c.args.self.now.seat.ends c.hear_all.new.self.seat.ends c.turn_all.new.self.seat.ends
    (subst (λ ends. HaveSameRings ends c.hear_all.new.self.seat.ends) c.begin_round.ensures.ends c.hear_all.ensures.rings) c.turn_all.ensures.rings)

pub returns-clause-joined : goal.returns-clause-joined
returns-clause-joined g c = joined_rings c.args.self.now.seat.ends c.put_since.new.self.seat.ends (returns-clause-rings g c)

-- the ends that a visit has of its links, up to the turns of its sources
heard_linked : (old begun heard : LinksValue) → begun ≡ old → StayLinked begun heard → StayLinked old heard
heard_linked old begun heard is linked = subst (λ (links : LinksValue). StayLinked links heard) is linked

pub returns-in_err-hear_all-clause-linked : goal.returns-in_err-hear_all-clause-linked
returns-in_err-hear_all-clause-linked g c = heard_linked c.args.self.now.links c.begin_round.new.self.links c.hear_all.new.self.links c.begin_round.ensures.links c.hear_all.ensures.linked

pub returns-in_err-turn_all-clause-linked : goal.returns-in_err-turn_all-clause-linked
returns-in_err-turn_all-clause-linked g c = subst (StayLinked c.args.self.now.links) (sym c.turn_all.ensures.links)
    (heard_linked c.args.self.now.links c.begin_round.new.self.links c.hear_all.new.self.links c.begin_round.ensures.links c.hear_all.ensures.linked)

pub returns-in_err-sent-clause-linked : goal.returns-in_err-sent-clause-linked
returns-in_err-sent-clause-linked g c = linked_on c.args.self.now.links c.turn_all.new.self.links c.put_since.new.self.links
    (subst (StayLinked c.args.self.now.links) (sym c.turn_all.ensures.links)
    (heard_linked c.args.self.now.links c.begin_round.new.self.links c.hear_all.new.self.links c.begin_round.ensures.links c.hear_all.ensures.linked))
    c.put_since.ensures.linked

pub returns-clause-linked : goal.returns-clause-linked
returns-clause-linked g c = linked_on c.args.self.now.links c.turn_all.new.self.links c.put_since.new.self.links
    (subst (StayLinked c.args.self.now.links) (sym c.turn_all.ensures.links)
    (heard_linked c.args.self.now.links c.begin_round.new.self.links c.hear_all.new.self.links c.begin_round.ensures.links c.hear_all.ensures.linked))
    c.put_since.ensures.linked
