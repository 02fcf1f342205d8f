use Rattle.std.proofs.Common.{arith, ◌<◌, length}
use Rattle.qs_world_rounds.proofs.Joining.{set_joined, visited_at, visited_none}
use Rattle.qs_world_rounds.proofs.visits.visit_client.Goals as goal

pub returns-then-at-len-clause-visits : goal.returns-then-at-len-clause-visits
returns-then-at-len-clause-visits c =
    let less : c.args.at < length c.args.clients.now.items = omega arith in
    visited_at c.args.clients.now.items c.args.at _ c.index_mut.result.now c.visit.new.self c.visit.result less c.index_mut.ensures.value c.visit.ensures.turn
    c.visit.ensures.idle c.visit.ensures.client c.visit.ensures.ring c.visit.ensures.answers_ring

pub returns-then-at-len-clause-each : goal.returns-then-at-len-clause-each
returns-then-at-len-clause-each c = λ ends all.
    let less : c.args.at < length c.args.clients.now.items = omega arith in
    set_joined ends c.args.clients.now.items c.args.at _ c.index_mut.result.now c.visit.new.self less c.index_mut.ensures.value c.visit.ensures.client
    c.visit.ensures.ring c.visit.ensures.answers_ring all

pub returns-clause-visits : goal.returns-clause-visits
returns-clause-visits c = visited_none c.args.clients.now.items c.args.at (omega arith)
