use Rattle.qs_base.proofs.TidOrder.{on_true}
use Rattle.qs_book_tables.proofs.ShareSteps.{follow_served, follow_same, same_locks-taken_back}
use Rattle.qs_book_tables.proofs.serving.serve_locked.Goals as goal

pub returns-in-Ok-clause-follows : goal.returns-in-Ok-clause-follows
returns-in-Ok-clause-follows c =
    rw c.in-Ok.ensures.ok
    (follow_served c.args.locks.now c.add.new.self c.args.shares.now.entries c.args.tid c.args.op.now c.args.reply.now c.in-Ok.ensures.ordered c.requires.follows c.in_ok-fresh.ensures.ok)

pub returns-then-fresh-clause-follows : goal.returns-then-fresh-clause-follows
returns-then-fresh-clause-follows c =
    rw c.in-Err.ensures.err
    (follow_same c.args.locks.now c.remove.new.self c.args.shares.now.entries c.requires.follows
    (same_locks-taken_back c.args.tid c.args.op.now c.args.reply.now c.args.locks.now c.add.new.self c.remove.new.self c.in_ok-fresh.ensures.ok c.remove.ensures
    (on_true c.in_ok-fresh.fresh c.if-fresh.true c.in_ok-fresh.ensures.fresh)))
