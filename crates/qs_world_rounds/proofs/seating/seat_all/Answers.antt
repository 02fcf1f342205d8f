use Rattle.std.proofs.Common.{◌≡◌, ◌∙◌, ap, arith}
use Rattle.qs_world_rounds.specs.Seats.{seated, seated_below}
use Rattle.qs_world_rounds.proofs.Placing.{joined_seats}
use Rattle.qs_world_rounds.proofs.seating.seat_all.Goals as goal

pub returns-clause-numbers : goal.returns-clause-numbers
unfolding seated
returns-clause-numbers c =
    let last : c.loop-number.number ≡ 32 = omega arith in
    c.loop-number.invariant.numbers ∙ ap (λ n. seated_below c.args.node c.args.script.now.seats n) last

pub returns-clause-joined : goal.returns-clause-joined
returns-clause-joined c =
    joined_seats c.args.script.now c.args.node c.loop-number.all.clients.items c.loop-number.all.ends.items c.loop-number.number (omega arith) c.loop-number.invariant.seats
    c.loop-number.invariant.numbers
