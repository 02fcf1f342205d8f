use Rattle.qs_world_rounds.proofs.Placing.{one_more}
use Rattle.qs_world_rounds.proofs.seating.seat.Goals as goal

pub returns : goal.returns
returns c = record {
  more = one_more c.args.script.now c.args.client c.in_ok-lines.lines c.as_slice.result.now c.new.result c.in_ok-commands.commands c.in_ok-from_node.answers
      c.in_ok-commands.to_node c.in_ok-from_node.from_node c.args.all.now.clients.items c.push.new.self.items c.args.all.now.ends.items c.push-2.new.self.items
      c.new.ensures c.in_ok-lines.ensures c.as_slice.ensures c.in_ok-commands.ensures.lane c.in_ok-commands.ensures.empty c.in_ok-from_node.ensures.lane
      c.in_ok-from_node.ensures.empty c.in_ok-push.ensures.items c.in_ok-push-2.ensures.items;
}
