use Rattle.qs_world_rounds.proofs.Placing.{seats_after}
use Rattle.qs_world_rounds.proofs.seating.seat_if.Goals as goal

pub returns-in_ok-seat-clause-seats : goal.returns-in_ok-seat-clause-seats
returns-in_ok-seat-clause-seats c = λ all.
    seats_after c.args.script.now c.args.client c.args.all.now.clients.items c.seat.new.all.clients.items c.args.all.now.ends.items c.seat.new.all.ends.items
    c.in_ok-seat.ensures.more all
