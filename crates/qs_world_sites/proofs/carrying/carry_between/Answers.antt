use Rattle.std.proofs.Common.{◌≡◌, ◌≢◌, ◌≤◌, ◌<◌, ℕ, arith, ◌==◌, ◌&&◌, length, subst, sym}
use Rattle.std.proofs.lemmas.Result.{err_from_is_err_and}
use Rattle.std.specs.Prelude.{Ok}
use Rattle.qs_world_sites.proofs.Between.{one_looked, one_where}
use Rattle.qs_world_sites.proofs.Halves.{back_got, both_set, carried_first, carried_second, front_got, may_its, may_lane, may_peer}
use Rattle.qs_world_sites.proofs.Further.{to_itself}
use Rattle.qs_world_sites.specs.Carrying.{CarriesWhere, WasMet}
use Rattle.qs_world_sites.proofs.carrying.carry_between.Goals as goal

-- the other of two numbers is the lesser
below : (from to long : ℕ) → from ≢ to → to ≤ from → long ≡ from → to < long
below from to long apart less is = omega (arith, apart, less, is)

pub carry_packets-requires-clause-peer : goal.carry_packets-requires-clause-peer
carry_packets-requires-clause-peer g c =
    may_peer c.args.sites.now c.args.from c.args.to _ _ c.requires.linked c.if-from-to.false
    (front_got c.args.sites.now c.split_at_mut-front.result.0.now c.split_at_mut-front.result.1.now c.args.from c.index-front-from.result c.split_at_mut-front.ensures.value (let long = c.split_at_mut-front.ensures.front_len in let less = c.if-from-to-2.true in omega arith))
    (back_got c.args.sites.now c.split_at_mut-front.result.0.now c.split_at_mut-front.result.1.now c.args.to c.index-back-0.result c.split_at_mut-front.ensures.value c.split_at_mut-front.ensures.front_len (let long = c.split_at_mut-front.ensures.back_len in let less = c.requires.to in omega arith))

pub carry_packets-requires-else-from-to-2-clause-peer : goal.carry_packets-requires-else-from-to-2-clause-peer
carry_packets-requires-else-from-to-2-clause-peer g c =
    may_peer c.args.sites.now c.args.from c.args.to _ _ c.requires.linked c.if-from-to.false
    (back_got c.args.sites.now c.split_at_mut-front-else-from-to-2.result.0.now c.split_at_mut-front-else-from-to-2.result.1.now c.args.from c.index-back-0-else-from-to-2.result c.split_at_mut-front-else-from-to-2.ensures.value c.split_at_mut-front-else-from-to-2.ensures.front_len (let long = c.split_at_mut-front-else-from-to-2.ensures.back_len in let less = c.requires.from in omega arith))
    (front_got c.args.sites.now c.split_at_mut-front-else-from-to-2.result.0.now c.split_at_mut-front-else-from-to-2.result.1.now c.args.to c.index-front-to.result c.split_at_mut-front-else-from-to-2.ensures.value (let long = c.split_at_mut-front-else-from-to-2.ensures.front_len in below c.args.from c.args.to (length c.split_at_mut-front-else-from-to-2.result.0.now) c.if-from-to.false c.if-from-to-2.false long))

pub carry_packets-requires-clause-its : goal.carry_packets-requires-clause-its
carry_packets-requires-clause-its g c =
    may_its c.args.sites.now c.args.from c.args.to _ _ c.requires.linked c.if-from-to.false
    (front_got c.args.sites.now c.split_at_mut-front.result.0.now c.split_at_mut-front.result.1.now c.args.from c.index-front-from.result c.split_at_mut-front.ensures.value (let long = c.split_at_mut-front.ensures.front_len in let less = c.if-from-to-2.true in omega arith))
    (back_got c.args.sites.now c.split_at_mut-front.result.0.now c.split_at_mut-front.result.1.now c.args.to c.index-back-0.result c.split_at_mut-front.ensures.value c.split_at_mut-front.ensures.front_len (let long = c.split_at_mut-front.ensures.back_len in let less = c.requires.to in omega arith))

pub carry_packets-requires-else-from-to-2-clause-its : goal.carry_packets-requires-else-from-to-2-clause-its
carry_packets-requires-else-from-to-2-clause-its g c =
    may_its c.args.sites.now c.args.from c.args.to _ _ c.requires.linked c.if-from-to.false
    (back_got c.args.sites.now c.split_at_mut-front-else-from-to-2.result.0.now c.split_at_mut-front-else-from-to-2.result.1.now c.args.from c.index-back-0-else-from-to-2.result c.split_at_mut-front-else-from-to-2.ensures.value c.split_at_mut-front-else-from-to-2.ensures.front_len (let long = c.split_at_mut-front-else-from-to-2.ensures.back_len in let less = c.requires.from in omega arith))
    (front_got c.args.sites.now c.split_at_mut-front-else-from-to-2.result.0.now c.split_at_mut-front-else-from-to-2.result.1.now c.args.to c.index-front-to.result c.split_at_mut-front-else-from-to-2.ensures.value (let long = c.split_at_mut-front-else-from-to-2.ensures.front_len in below c.args.from c.args.to (length c.split_at_mut-front-else-from-to-2.result.0.now) c.if-from-to.false c.if-from-to-2.false long))

pub carry_packets-requires-clause-lane : goal.carry_packets-requires-clause-lane
carry_packets-requires-clause-lane g c =
    may_lane c.args.sites.now c.args.from c.args.to _ _ c.requires.linked c.if-from-to.false
    (front_got c.args.sites.now c.split_at_mut-front.result.0.now c.split_at_mut-front.result.1.now c.args.from c.index-front-from.result c.split_at_mut-front.ensures.value (let long = c.split_at_mut-front.ensures.front_len in let less = c.if-from-to-2.true in omega arith))
    (back_got c.args.sites.now c.split_at_mut-front.result.0.now c.split_at_mut-front.result.1.now c.args.to c.index-back-0.result c.split_at_mut-front.ensures.value c.split_at_mut-front.ensures.front_len (let long = c.split_at_mut-front.ensures.back_len in let less = c.requires.to in omega arith))

pub carry_packets-requires-else-from-to-2-clause-lane : goal.carry_packets-requires-else-from-to-2-clause-lane
carry_packets-requires-else-from-to-2-clause-lane g c =
    may_lane c.args.sites.now c.args.from c.args.to _ _ c.requires.linked c.if-from-to.false
    (back_got c.args.sites.now c.split_at_mut-front-else-from-to-2.result.0.now c.split_at_mut-front-else-from-to-2.result.1.now c.args.from c.index-back-0-else-from-to-2.result c.split_at_mut-front-else-from-to-2.ensures.value c.split_at_mut-front-else-from-to-2.ensures.front_len (let long = c.split_at_mut-front-else-from-to-2.ensures.back_len in let less = c.requires.from in omega arith))
    (front_got c.args.sites.now c.split_at_mut-front-else-from-to-2.result.0.now c.split_at_mut-front-else-from-to-2.result.1.now c.args.to c.index-front-to.result c.split_at_mut-front-else-from-to-2.ensures.value (let long = c.split_at_mut-front-else-from-to-2.ensures.front_len in below c.args.from c.args.to (length c.split_at_mut-front-else-from-to-2.result.0.now) c.if-from-to.false c.if-from-to-2.false long))

pub returns-in_err-carry_packets : goal.returns-in_err-carry_packets
returns-in_err-carry_packets g c =
    let e = err_from_is_err_and c.from_residual.result c.from_residual.ensures.1 in
    rw e.1 (one_looked c.carry_packets.result c.args.from c.args.to c.args.sites.now _ _ _ _ _ c.requires.linked
    (carried_first c.args.sites.now c.args.from c.args.to _ _ c.requires.linked c.if-from-to.false
    (front_got c.args.sites.now c.split_at_mut-front.result.0.now c.split_at_mut-front.result.1.now c.args.from c.index-front-from.result c.split_at_mut-front.ensures.value (let long = c.split_at_mut-front.ensures.front_len in let less = c.if-from-to-2.true in omega arith))
    (back_got c.args.sites.now c.split_at_mut-front.result.0.now c.split_at_mut-front.result.1.now c.args.to c.index-back-0.result c.split_at_mut-front.ensures.value c.split_at_mut-front.ensures.front_len (let long = c.split_at_mut-front.ensures.back_len in let less = c.requires.to in omega arith))
    c.carry_packets.result _ c.carry_packets.new.from c.carry_packets.new.self (both_set c.args.sites.now c.split_at_mut-front.result.0.now c.split_at_mut-front.result.1.now c.args.from c.args.to c.carry_packets.new.from c.carry_packets.new.self c.split_at_mut-front.ensures.value (let long = c.split_at_mut-front.ensures.front_len in let less = c.if-from-to-2.true in omega arith) c.split_at_mut-front.ensures.front_len) c.carry_packets.ensures.carries c.carry_packets.ensures.own c.carry_packets.ensures.its) e.0)

pub returns-in_err-carry_packets-2 : goal.returns-in_err-carry_packets-2
returns-in_err-carry_packets-2 g c =
    let e = err_from_is_err_and c.from_residual-in_err-carry_packets-2.result c.from_residual-in_err-carry_packets-2.ensures.1 in
    rw e.1 (one_looked c.carry_packets-else-from-to-2.result c.args.from c.args.to c.args.sites.now _ _ _ _ _ c.requires.linked
    (carried_second c.args.sites.now c.args.from c.args.to _ _ c.requires.linked c.if-from-to.false
    (back_got c.args.sites.now c.split_at_mut-front-else-from-to-2.result.0.now c.split_at_mut-front-else-from-to-2.result.1.now c.args.from c.index-back-0-else-from-to-2.result c.split_at_mut-front-else-from-to-2.ensures.value c.split_at_mut-front-else-from-to-2.ensures.front_len (let long = c.split_at_mut-front-else-from-to-2.ensures.back_len in let less = c.requires.from in omega arith))
    (front_got c.args.sites.now c.split_at_mut-front-else-from-to-2.result.0.now c.split_at_mut-front-else-from-to-2.result.1.now c.args.to c.index-front-to.result c.split_at_mut-front-else-from-to-2.ensures.value (let long = c.split_at_mut-front-else-from-to-2.ensures.front_len in below c.args.from c.args.to (length c.split_at_mut-front-else-from-to-2.result.0.now) c.if-from-to.false c.if-from-to-2.false long))
    c.carry_packets-else-from-to-2.result _ c.carry_packets-else-from-to-2.new.from c.carry_packets-else-from-to-2.new.self (both_set c.args.sites.now c.split_at_mut-front-else-from-to-2.result.0.now c.split_at_mut-front-else-from-to-2.result.1.now c.args.to c.args.from c.carry_packets-else-from-to-2.new.self c.carry_packets-else-from-to-2.new.from c.split_at_mut-front-else-from-to-2.ensures.value (let long = c.split_at_mut-front-else-from-to-2.ensures.front_len in below c.args.from c.args.to (length c.split_at_mut-front-else-from-to-2.result.0.now) c.if-from-to.false c.if-from-to-2.false long) c.split_at_mut-front-else-from-to-2.ensures.front_len) c.carry_packets-else-from-to-2.ensures.carries c.carry_packets-else-from-to-2.ensures.own c.carry_packets-else-from-to-2.ensures.its) e.0)

pub returns-in_ok-carry_packets : goal.returns-in_ok-carry_packets
returns-in_ok-carry_packets g c = one_where c.carry_packets.result c.args.from c.args.to c.args.sites.now _ _ _ _ _ c.requires.linked
    (carried_first c.args.sites.now c.args.from c.args.to _ _ c.requires.linked c.if-from-to.false
    (front_got c.args.sites.now c.split_at_mut-front.result.0.now c.split_at_mut-front.result.1.now c.args.from c.index-front-from.result c.split_at_mut-front.ensures.value (let long = c.split_at_mut-front.ensures.front_len in let less = c.if-from-to-2.true in omega arith))
    (back_got c.args.sites.now c.split_at_mut-front.result.0.now c.split_at_mut-front.result.1.now c.args.to c.index-back-0.result c.split_at_mut-front.ensures.value c.split_at_mut-front.ensures.front_len (let long = c.split_at_mut-front.ensures.back_len in let less = c.requires.to in omega arith))
    c.carry_packets.result _ c.carry_packets.new.from c.carry_packets.new.self (both_set c.args.sites.now c.split_at_mut-front.result.0.now c.split_at_mut-front.result.1.now c.args.from c.args.to c.carry_packets.new.from c.carry_packets.new.self c.split_at_mut-front.ensures.value (let long = c.split_at_mut-front.ensures.front_len in let less = c.if-from-to-2.true in omega arith) c.split_at_mut-front.ensures.front_len) c.carry_packets.ensures.carries c.carry_packets.ensures.own c.carry_packets.ensures.its)
    c.in_ok-carry_packets.field-0 c.in_ok-carry_packets.was

pub returns-in_ok-carry_packets-2 : goal.returns-in_ok-carry_packets-2
returns-in_ok-carry_packets-2 g c = one_where c.carry_packets-else-from-to-2.result c.args.from c.args.to c.args.sites.now _ _ _ _ _ c.requires.linked
    (carried_second c.args.sites.now c.args.from c.args.to _ _ c.requires.linked c.if-from-to.false
    (back_got c.args.sites.now c.split_at_mut-front-else-from-to-2.result.0.now c.split_at_mut-front-else-from-to-2.result.1.now c.args.from c.index-back-0-else-from-to-2.result c.split_at_mut-front-else-from-to-2.ensures.value c.split_at_mut-front-else-from-to-2.ensures.front_len (let long = c.split_at_mut-front-else-from-to-2.ensures.back_len in let less = c.requires.from in omega arith))
    (front_got c.args.sites.now c.split_at_mut-front-else-from-to-2.result.0.now c.split_at_mut-front-else-from-to-2.result.1.now c.args.to c.index-front-to.result c.split_at_mut-front-else-from-to-2.ensures.value (let long = c.split_at_mut-front-else-from-to-2.ensures.front_len in below c.args.from c.args.to (length c.split_at_mut-front-else-from-to-2.result.0.now) c.if-from-to.false c.if-from-to-2.false long))
    c.carry_packets-else-from-to-2.result _ c.carry_packets-else-from-to-2.new.from c.carry_packets-else-from-to-2.new.self (both_set c.args.sites.now c.split_at_mut-front-else-from-to-2.result.0.now c.split_at_mut-front-else-from-to-2.result.1.now c.args.to c.args.from c.carry_packets-else-from-to-2.new.self c.carry_packets-else-from-to-2.new.from c.split_at_mut-front-else-from-to-2.ensures.value (let long = c.split_at_mut-front-else-from-to-2.ensures.front_len in below c.args.from c.args.to (length c.split_at_mut-front-else-from-to-2.result.0.now) c.if-from-to.false c.if-from-to-2.false long) c.split_at_mut-front-else-from-to-2.ensures.front_len) c.carry_packets-else-from-to-2.ensures.carries c.carry_packets-else-from-to-2.ensures.own c.carry_packets-else-from-to-2.ensures.its)
    c.in_ok-carry_packets-2.field-0 c.in_ok-carry_packets-2.was

pub returns-then-from-to : goal.returns-then-from-to
returns-then-from-to g c = subst (λ k. CarriesWhere (WasMet (Ok tt)) (λ n m. (n == k) && (m == c.args.to)) c.args.sites.now c.args.sites.now) (sym c.if-from-to.true) (to_itself (WasMet (Ok tt)) c.args.to c.args.sites.now)
