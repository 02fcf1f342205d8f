use Rattle.std.proofs.Common.{◌<◌, arith, length}
use Rattle.qs_world_sites.proofs.Staying.{each_set, linked_set, stays_none}
use Rattle.qs_world_sites.proofs.Visiting.{came, got_here, risen, rises, visited, visited_none}
use Rattle.qs_world_rounds.specs.Breaks as one
use Rattle.qs_world_sites.specs.Breaks.{FailsHere}
use Rattle.qs_world_sites.specs.Sites.{StaysLinked}
use Rattle.qs_world_sites.proofs.visits.visit_turn.Goals as goal

pub returns-then-turn-len-clause-visits : goal.returns-then-turn-len-clause-visits
returns-then-turn-len-clause-visits g c =
    let less : c.args.turn.site < length c.args.sites.now.items = omega arith in
    visited g.D.Disk.told g.D.Disk.state g.D.Disk.fault_count g.D.Disk.byte_count c.args.turn c.args.sites.now.items _ c.index_mut.result.now c.visit.new.self less c.index_mut.ensures.value c.visit.result c.visit.ensures.visits

pub returns-then-turn-len-clause-broken : goal.returns-then-turn-len-clause-broken
returns-then-turn-len-clause-broken g c =
    let less : c.args.turn.site < length c.args.sites.now.items = omega arith in
    λ node is. came g.D.Disk.told g.D.Disk.state g.D.Disk.fault_count g.D.Disk.byte_count c.args.turn c.args.sites.now.items _ c.index_mut.result.now c.visit.new.self less c.index_mut.ensures.value (FailsHere g.D.Disk.told g.D.Disk.state g.D.Disk.fault_count g.D.Disk.byte_count node) (record { fails = c.visit.ensures.broken node is; node_is = c.visit.ensures.named node is })

pub returns-then-turn-len-clause-rose : goal.returns-then-turn-len-clause-rose
returns-then-turn-len-clause-rose g c =
    let less : c.args.turn.site < length c.args.sites.now.items = omega arith in
    λ node is. risen g.D.Disk.told g.D.Disk.state g.D.Disk.fault_count g.D.Disk.byte_count c.args.turn c.args.sites.now.items _ c.index_mut.result.now c.visit.new.self less c.index_mut.ensures.value node c.requires (c.visit.ensures.named node is) (c.visit.ensures.broken node is)

pub returns-then-turn-len-clause-refused : goal.returns-then-turn-len-clause-refused
returns-then-turn-len-clause-refused g c =
    let less : c.args.turn.site < length c.args.sites.now.items = omega arith in
    λ is. came g.D.Disk.told g.D.Disk.state g.D.Disk.fault_count g.D.Disk.byte_count c.args.turn c.args.sites.now.items _ c.index_mut.result.now c.visit.new.self less c.index_mut.ensures.value (one.RefusedAt g.D.Disk.told g.D.Disk.state g.D.Disk.fault_count g.D.Disk.byte_count) (c.visit.ensures.refused is)

pub returns-then-turn-len-clause-damaged : goal.returns-then-turn-len-clause-damaged
returns-then-turn-len-clause-damaged g c =
    let less : c.args.turn.site < length c.args.sites.now.items = omega arith in
    λ told is. record { node = c.args.turn.site; site = c.index_mut.result.now; is = got_here g.D.Disk.told g.D.Disk.state g.D.Disk.fault_count g.D.Disk.byte_count c.args.turn c.args.sites.now.items _ c.index_mut.result.now c.visit.new.self less c.index_mut.ensures.value; late = let late = c.visit.ensures.damaged told is in omega arith }

pub returns-then-turn-len-clause-rises : goal.returns-then-turn-len-clause-rises
returns-then-turn-len-clause-rises g c =
    let less : c.args.turn.site < length c.args.sites.now.items = omega arith in
    rises g.D.Disk.told g.D.Disk.state g.D.Disk.fault_count g.D.Disk.byte_count c.args.turn c.args.sites.now.items _ c.index_mut.result.now c.visit.new.self less c.index_mut.ensures.value c.visit.result c.visit.ensures.visits

pub returns-then-turn-len-clause-stays : goal.returns-then-turn-len-clause-stays
returns-then-turn-len-clause-stays g c =
    let less : c.args.turn.site < length c.args.sites.now.items = omega arith in
    each_set StaysLinked stays_none c.args.sites.now.items c.args.turn.site c.index_mut.result.now c.visit.new.self (got_here g.D.Disk.told g.D.Disk.state g.D.Disk.fault_count g.D.Disk.byte_count c.args.turn c.args.sites.now.items _ c.index_mut.result.now c.visit.new.self less c.index_mut.ensures.value)
    (record { goes_on = record { start = c.visit.ensures.start; grows = c.visit.ensures.grows }; linked = c.visit.ensures.linked })

pub returns-then-turn-len-clause-linked : goal.returns-then-turn-len-clause-linked
returns-then-turn-len-clause-linked g c =
    let less : c.args.turn.site < length c.args.sites.now.items = omega arith in
    linked_set c.args.sites.now.items c.args.turn.site c.index_mut.result.now c.visit.new.self c.requires (got_here g.D.Disk.told g.D.Disk.state g.D.Disk.fault_count g.D.Disk.byte_count c.args.turn c.args.sites.now.items _ c.index_mut.result.now c.visit.new.self less c.index_mut.ensures.value)
    (record { goes_on = record { start = c.visit.ensures.start; grows = c.visit.ensures.grows }; linked = c.visit.ensures.linked })

pub returns-clause-visits : goal.returns-clause-visits
returns-clause-visits g c = visited_none g.D.Disk.told g.D.Disk.state g.D.Disk.fault_count g.D.Disk.byte_count c.args.turn c.args.sites.now.items (omega arith)
