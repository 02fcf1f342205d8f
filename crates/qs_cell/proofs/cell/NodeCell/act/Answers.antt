use Rattle.std.proofs.Common.{◌∙◌, ap, length, subst, sym}
use Rattle.qs_cell_peers.specs.Links.{LinksValue, StayLinked}
use Rattle.qs_cell_peers.proofs.Linked.{linked_on}
use Rattle.qs_cell_peers.proofs.Pulling.{pulled_linked, pushed_linked}
use Rattle.qs_cell.specs.Joined.{HaveSameRings}
use Rattle.qs_cell.specs.Starts.{post_of}
use Rattle.qs_cell.specs.Visits.{Seat}
use Rattle.qs_cell.proofs.Acting.{act_grows, acts_all, breaks_made, breaks_pulled, breaks_put, broken_act_grows}
use Rattle.qs_cell.proofs.Rings.{joined_rings, rings_as}
use Rattle.qs_cell.proofs.Turning.{on_err_all}
use Rattle.qs_cell.proofs.cell.NodeCell.act.Goals as goal

-- ---- memory was refused as packets were pulled

pub returns-in_err-pull-clause-breaks : goal.returns-in_err-pull-clause-breaks
returns-in_err-pull-clause-breaks g c = on_err_all c.from_residual.result
    (breaks_pulled g.D.Disk.told g.D.Disk.state g.D.Disk.fault_count g.D.Disk.byte_count c.args.self.now c.begin_act.new.self c.pull.new.self c.begin_act.ensures.node c.begin_act.ensures.ends c.begin_act.ensures.links
    c.pull.ensures.pulls c.pull.ensures.seat)

pub returns-in_err-pull-clause-grows : goal.returns-in_err-pull-clause-grows
returns-in_err-pull-clause-grows g c = broken_act_grows g.D.Disk.told g.D.Disk.state g.D.Disk.fault_count g.D.Disk.byte_count (post_of c.args.self.now) (post_of c.pull.new.self)
    (breaks_pulled g.D.Disk.told g.D.Disk.state g.D.Disk.fault_count g.D.Disk.byte_count c.args.self.now c.begin_act.new.self c.pull.new.self c.begin_act.ensures.node c.begin_act.ensures.ends c.begin_act.ensures.links
    c.pull.ensures.pulls c.pull.ensures.seat)

pub returns-in_err-pull-clause-linked : goal.returns-in_err-pull-clause-linked
returns-in_err-pull-clause-linked g c = subst (λ (l : LinksValue). StayLinked l c.pull.new.self.links) c.begin_act.ensures.links (pulled_linked c.begin_act.new.self.links c.pull.new.self.links c.pull.ensures.pulls)

pub returns-in_err-pull-clause-links : goal.returns-in_err-pull-clause-links
returns-in_err-pull-clause-links g c = (returns-in_err-pull-clause-linked g c).same

pub returns-in_err-pull-clause-joined : goal.returns-in_err-pull-clause-joined
returns-in_err-pull-clause-joined g c = joined_rings c.args.self.now.seat.ends c.pull.new.self.seat.ends
    (rings_as c.args.self.now.seat.ends c.pull.new.self.seat.ends (ap (λ (s : Seat g.row.D.Denot). s.ends) c.pull.ensures.seat ∙ c.begin_act.ensures.ends))

-- ---- in the event

pub returns-in_err-make_asked-clause-breaks : goal.returns-in_err-make_asked-clause-breaks
returns-in_err-make_asked-clause-breaks g c = on_err_all c.from_residual-in_err-make_asked.result
    (breaks_made g.D.Disk.told g.D.Disk.state g.D.Disk.fault_count g.D.Disk.byte_count c.args.self.now c.begin_act.new.self c.pull.new.self c.begin_act.ensures.node c.begin_act.ensures.ends c.begin_act.ensures.links
    c.pull.ensures.pulls c.pull.ensures.seat c.make_asked.new.self c.in_err-make_asked.ensures.breaks)

pub returns-in_err-make_asked-clause-grows : goal.returns-in_err-make_asked-clause-grows
returns-in_err-make_asked-clause-grows g c = broken_act_grows g.D.Disk.told g.D.Disk.state g.D.Disk.fault_count g.D.Disk.byte_count (post_of c.args.self.now) (post_of c.make_asked.new.self)
    (breaks_made g.D.Disk.told g.D.Disk.state g.D.Disk.fault_count g.D.Disk.byte_count c.args.self.now c.begin_act.new.self c.pull.new.self c.begin_act.ensures.node c.begin_act.ensures.ends c.begin_act.ensures.links
    c.pull.ensures.pulls c.pull.ensures.seat c.make_asked.new.self c.in_err-make_asked.ensures.breaks)

pub returns-in_err-make_asked-clause-linked : goal.returns-in_err-make_asked-clause-linked
returns-in_err-make_asked-clause-linked g c = linked_on c.args.self.now.links c.pull.new.self.links c.make_asked.new.self.links
    (subst (λ (l : LinksValue). StayLinked l c.pull.new.self.links) c.begin_act.ensures.links (pulled_linked c.begin_act.new.self.links c.pull.new.self.links c.pull.ensures.pulls)) c.make_asked.ensures.linked

pub returns-in_err-make_asked-clause-links : goal.returns-in_err-make_asked-clause-links
returns-in_err-make_asked-clause-links g c = (returns-in_err-make_asked-clause-linked g c).same

pub returns-in_err-make_asked-clause-joined : goal.returns-in_err-make_asked-clause-joined
returns-in_err-make_asked-clause-joined g c = joined_rings c.args.self.now.seat.ends c.make_asked.new.self.seat.ends
    (subst (λ ends. HaveSameRings ends c.make_asked.new.self.seat.ends) (ap (λ (s : Seat g.row.D.Denot). s.ends) c.pull.ensures.seat ∙ c.begin_act.ensures.ends) c.make_asked.ensures.rings)

-- ---- as what the step put goes to the links

pub returns-in_err-put_since-clause-breaks : goal.returns-in_err-put_since-clause-breaks
returns-in_err-put_since-clause-breaks g c = on_err_all c.from_residual-in_err-put_since.result
    (breaks_put g.D.Disk.told g.D.Disk.state g.D.Disk.fault_count g.D.Disk.byte_count c.args.self.now c.begin_act.new.self c.pull.new.self c.begin_act.ensures.node c.begin_act.ensures.ends c.begin_act.ensures.links
    c.pull.ensures.pulls c.pull.ensures.seat c.in_ok-pull.ensures.emptied c.make_asked.new.self c.in_ok-make_asked.ensures.makes (length c.trace-steps.result.now) (ap length c.trace-steps.ensures) c.put_since.new.self c.put_since.ensures.seat
    c.in_err-put_since.ensures.some)

pub returns-in_err-put_since-clause-grows : goal.returns-in_err-put_since-clause-grows
returns-in_err-put_since-clause-grows g c = broken_act_grows g.D.Disk.told g.D.Disk.state g.D.Disk.fault_count g.D.Disk.byte_count (post_of c.args.self.now) (post_of c.put_since.new.self)
    (breaks_put g.D.Disk.told g.D.Disk.state g.D.Disk.fault_count g.D.Disk.byte_count c.args.self.now c.begin_act.new.self c.pull.new.self c.begin_act.ensures.node c.begin_act.ensures.ends c.begin_act.ensures.links
    c.pull.ensures.pulls c.pull.ensures.seat c.in_ok-pull.ensures.emptied c.make_asked.new.self c.in_ok-make_asked.ensures.makes (length c.trace-steps.result.now) (ap length c.trace-steps.ensures) c.put_since.new.self c.put_since.ensures.seat
    c.in_err-put_since.ensures.some)

pub returns-in_err-put_since-clause-linked : goal.returns-in_err-put_since-clause-linked
returns-in_err-put_since-clause-linked g c = linked_on c.args.self.now.links c.make_asked.new.self.links c.put_since.new.self.links
    (linked_on c.args.self.now.links c.pull.new.self.links c.make_asked.new.self.links
    (subst (λ (l : LinksValue). StayLinked l c.pull.new.self.links) c.begin_act.ensures.links (pulled_linked c.begin_act.new.self.links c.pull.new.self.links c.pull.ensures.pulls)) c.make_asked.ensures.linked)
    c.put_since.ensures.linked

pub returns-in_err-put_since-clause-links : goal.returns-in_err-put_since-clause-links
returns-in_err-put_since-clause-links g c = (returns-in_err-put_since-clause-linked g c).same

pub returns-in_err-put_since-clause-joined : goal.returns-in_err-put_since-clause-joined
returns-in_err-put_since-clause-joined g c = joined_rings c.args.self.now.seat.ends c.put_since.new.self.seat.ends
    (subst (λ (s : Seat g.row.D.Denot). HaveSameRings c.args.self.now.seat.ends s.ends) (sym c.put_since.ensures.seat)
    (subst (λ ends. HaveSameRings ends c.make_asked.new.self.seat.ends) (ap (λ (s : Seat g.row.D.Denot). s.ends) c.pull.ensures.seat ∙ c.begin_act.ensures.ends) c.make_asked.ensures.rings))

-- ---- the whole act

pub returns-clause-acts : goal.returns-clause-acts
returns-clause-acts g c =
    acts_all g.D.Disk.told g.D.Disk.state g.D.Disk.fault_count g.D.Disk.byte_count c.args.self.now c.begin_act.new.self c.pull.new.self c.begin_act.ensures.node c.begin_act.ensures.ends c.begin_act.ensures.links
    c.pull.ensures.pulls c.pull.ensures.seat c.in_ok-pull.ensures.emptied c.make_asked.new.self c.in_ok-make_asked.ensures.makes (length c.trace-steps.result.now) (ap length c.trace-steps.ensures) c.put_since.new.self c.put_since.ensures.seat
    c.in_ok-put_since.ensures.put c.push.new.self c.push.ensures.pushes c.push.ensures.seat

pub returns-clause-grows : goal.returns-clause-grows
returns-clause-grows g c = act_grows g.D.Disk.told g.D.Disk.state g.D.Disk.fault_count g.D.Disk.byte_count (post_of c.args.self.now) (post_of c.push.new.self) (returns-clause-acts g c)

pub returns-clause-linked : goal.returns-clause-linked
returns-clause-linked g c = linked_on c.args.self.now.links c.put_since.new.self.links c.push.new.self.links
    (linked_on c.args.self.now.links c.make_asked.new.self.links c.put_since.new.self.links
    (linked_on c.args.self.now.links c.pull.new.self.links c.make_asked.new.self.links
    (subst (λ (l : LinksValue). StayLinked l c.pull.new.self.links) c.begin_act.ensures.links (pulled_linked c.begin_act.new.self.links c.pull.new.self.links c.pull.ensures.pulls)) c.make_asked.ensures.linked)
    c.put_since.ensures.linked)
    (pushed_linked c.put_since.new.self.links c.push.new.self.links c.push.ensures.pushes)

pub returns-clause-links : goal.returns-clause-links
returns-clause-links g c = (returns-clause-linked g c).same

pub returns-clause-joined : goal.returns-clause-joined
returns-clause-joined g c = joined_rings c.args.self.now.seat.ends c.push.new.self.seat.ends
    (subst (λ (s : Seat g.row.D.Denot). HaveSameRings c.args.self.now.seat.ends s.ends) (sym (c.push.ensures.seat ∙ c.put_since.ensures.seat))
    (subst (λ ends. HaveSameRings ends c.make_asked.new.self.seat.ends) (ap (λ (s : Seat g.row.D.Denot). s.ends) c.pull.ensures.seat ∙ c.begin_act.ensures.ends) c.make_asked.ensures.rings))
