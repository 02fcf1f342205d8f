use Rattle.std.proofs.Common.{◌<◌, ◌∙◌, length, rules, arith}
use Rattle.qs_link.proofs.Planning.{drop_more}
use Rattle.qs_link.proofs.outgoing.drop_due.Goals as goal

pub loop-turn-preserved : goal.loop-turn-preserved
loop-turn-preserved c =
    let lt : c.loop-turn._turn < length c.args.held.now.items = search rules in
    record {
      held = drop_more c.args.number c.loop-turn._turn c.args.held.now.items c.loop-turn.held.items c.drop_if_due.new.held.items lt c.loop-turn.invariant.held c.drop_if_due.ensures.held;
      fewer = omega (arith, c.drop_if_due.ensures.fewer, c.loop-turn.invariant.fewer);
      room = c.drop_if_due.ensures.room ∙ c.loop-turn.invariant.room;
    }
