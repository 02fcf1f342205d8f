use Rattle.qs_ops.specs.Table.{after_serve}
use Rattle.qs_ops_shares.specs.Shares.{share_in}
use Rattle.qs_ops_shelf.proofs.Following.{follow_unchanged, read_changes}
use Rattle.qs_ops_shelf.proofs.shelf.serve_read.Goals as goal

pub returns-clause-follows : goal.returns-clause-follows
returns-clause-follows c =
    let share = share_in c.args.shares.now c.args.tid in
    follow_unchanged c.args.slots.now.names.entries c.args.shares.now c.serve.new.self c.args.tid (after_serve share c.args.op.now c.args.reply.now) c.requires.follows c.in_ok-serve.ensures.held
    (read_changes share c.args.op.now c.args.reply.now c.requires.plain c.requires.reads)
