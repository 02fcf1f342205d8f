use Rattle.qs_ops.specs.Table.{after_serve}
use Rattle.qs_ops_shares.specs.Shares.{share_in}
use Rattle.qs_files.proofs.Replies.{plain-changes, plain-reads}
use Rattle.qs_files.proofs.Serving.{follows-plain}
use Rattle.qs_files.proofs.held.serve_plain.Goals as goal

pub returns-clause-follows : goal.returns-clause-follows
returns-clause-follows c =
    let share = share_in c.args.shares.now c.args.tid in
    follows-plain c.args.slots.now c.args.shares.now c.serve.new.self c.args.tid (after_serve share c.args.op.now c.args.reply.now) c.args.counts.now.committed c.requires.follows c.in_ok-serve.ensures.held
    (plain-changes share c.args.op.now c.args.reply.now c.requires.own c.requires.changes) (plain-reads share c.args.op.now c.args.reply.now c.requires.own c.requires.reads)
