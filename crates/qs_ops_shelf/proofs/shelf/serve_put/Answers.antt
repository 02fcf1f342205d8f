use Rattle.std.proofs.Common.{Some, sym, subst}
use Rattle.qs_base.specs.Order.{same_bytes}
use Rattle.qs_ops.specs.Table.{after_serve}
use Rattle.qs_ops_shares.specs.Shares.{share_in}
use Rattle.qs_ops_shelf.specs.Slots.{Follows, IsStaged}
use Rattle.qs_ops_shelf.proofs.Following.{follow_staged, follow_restored, puts_text, put_changes}
use Rattle.qs_ops_shelf.proofs.shelf.serve_put.Goals as goal

pub returns-in-Ok-clause-follows : goal.returns-in-Ok-clause-follows
returns-in-Ok-clause-follows c =
    let old = c.args.slots.now.names.entries in
    let new = c.stage.new.self.names.entries in
    let share = share_in c.args.shares.now c.args.tid in
    follow_staged old new c.args.shares.now c.serve.new.self c.args.tid (after_serve share c.args.op.now c.args.reply.now) c.args.op.now c.args.name.now c.args.text.now
    c.requires.follows c.in-Ok.ensures.held
    (put_changes share c.args.op.now c.args.reply.now c.args.name.now c.args.text.now c.requires.puts)
    (puts_text c.args.op.now c.args.reply.now c.args.name.now c.args.text.now c.requires.puts)
    (subst (λ text. IsStaged (same_bytes c.args.name.now) c.args.tid (Some text) old new) c.in_ok-copy.ensures c.in_ok-before.ensures.staged)

pub returns-in-Err-clause-follows : goal.returns-in-Err-clause-follows
returns-in-Err-clause-follows c =
    let old = c.args.slots.now.names.entries in
    let new = c.restore.new.self.names.entries in
    subst (λ shares. Follows new shares) (sym c.in-Err.ensures.err)
    (follow_restored old c.stage.new.self.names.entries new c.args.shares.now c.args.name.now c.args.tid _ c.in_ok-before.before c.requires.follows
    c.in_ok-before.ensures.staged c.in_ok-before.ensures.before c.restore.ensures.staged)
