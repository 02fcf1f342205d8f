use Rattle.std.proofs.Common.{arith}
use Rattle.qs_ops.specs.Table.{after_serve}
use Rattle.qs_ops_shares.specs.Shares.{share_in}
use Rattle.qs_files.proofs.Counted.{noted_inserted, note_count-served}
use Rattle.qs_files.proofs.holdings.Holdings.serve.Goals as goal

pub invariant_of-self-2 : goal.invariant_of-self-2
invariant_of-self-2 c =
    let n = c.self.invariant.noted in
    let share = share_in c.self.inside.shares c.args.tid in
    let same = note_count-served share c.args.op.now c.args.reply.now c.requires in
    record {
      follows = c.serve.ensures.follows;
      counted = c.serve.ensures.counted;
      noted = noted_inserted c.self.inside.shares c.args.tid _ _ _ n c.serve.new.shares (after_serve share c.args.op.now c.args.reply.now) _ _ _ c.in_order.ensures c.in_ok-serve.ensures.shares (omega (arith, same)) n.room;
    }
