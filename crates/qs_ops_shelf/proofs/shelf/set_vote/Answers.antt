use Rattle.std.proofs.Common.{refl}
use Rattle.qs_ops.specs.declared.share.Share.{Share}
use Rattle.qs_ops_shares.specs.Shares.{share_in}
use Rattle.qs_ops_shelf.proofs.Following.{follow_unchanged}
use Rattle.qs_ops_shelf.proofs.shelf.set_vote.Goals as goal

pub returns-clause-follows : goal.returns-clause-follows
returns-clause-follows c =
    let share : Share = record (share_in c.args.shares.now c.args.tid) { voted = c.args.voted } in
    follow_unchanged c.args.slots.now.names.entries c.args.shares.now c.set_vote.new.self c.args.tid share c.requires.follows c.in_ok-set_vote.ensures.held refl
