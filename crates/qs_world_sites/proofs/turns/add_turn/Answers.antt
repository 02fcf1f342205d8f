use Rattle.std.specs.List.{find}
use Rattle.qs_world_sites.proofs.Turned.{turn_more}
use Rattle.qs_world_sites.specs.Seats.{is_seat_of}
use Rattle.qs_world_sites.proofs.turns.add_turn.Goals as goal

pub returns-in_ok-push-in-Some : goal.returns-in_ok-push-in-Some
returns-in_ok-push-in-Some c = turn_more c.args.client c.args.seats.now (find (is_seat_of c.args.client) c.args.seats.now) c.in-Some.seat.now c.from.result c.count_before.result
    c.args.turns.now.items c.push.new.self.items c.in-Some.ensures c.from.ensures c.count_before.ensures.count c.in_ok-push-in-Some.ensures.items
