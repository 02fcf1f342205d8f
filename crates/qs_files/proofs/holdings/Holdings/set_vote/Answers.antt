use Rattle.std.proofs.Common.{refl}
use Rattle.qs_ops_shares.specs.Shares.{share_in}
use Rattle.qs_files.proofs.Counted.{noted_inserted}
use Rattle.qs_files.proofs.holdings.Holdings.set_vote.Goals as goal

pub invariant_of-self-2 : goal.invariant_of-self-2
invariant_of-self-2 c =
    let n = c.self.invariant.noted in
    record {
      follows = c.set_vote.ensures.follows;
      counted = c.set_vote.ensures.counted;
      noted = noted_inserted c.self.inside.shares c.args.tid _ _ _ n c.set_vote.new.shares (record (share_in c.self.inside.shares c.args.tid) { voted = c.args.voted }) _ _ _ c.in_order.ensures c.in_ok-set_vote.ensures.shares refl n.room;
    }
