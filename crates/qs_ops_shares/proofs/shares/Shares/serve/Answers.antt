use Rattle.std.proofs.Common.{List, sym, subst}
use Rattle.std.proofs.lemmas.Result.{on_ok_weaker}
use Rattle.qs_base.specs.declared.identifiers.Tid.{Tid}
use Rattle.qs_ops.specs.declared.share.Share.{Share}
use Rattle.qs_ops.specs.Table.{after_serve}
use Rattle.qs_ops_shares.specs.Shares.{share_in, IsHeld, IsReplaced}
use Rattle.qs_ops_shares.proofs.Sums.{sums-insert}
use Rattle.qs_ops_shares.proofs.Held.{held-insert}
use Rattle.qs_ops_shares.proofs.shares.Shares.serve.Goals as goal

pub returns-clause-sums : goal.returns-clause-sums
returns-clause-sums c =
    let es = c.self.inside.held.entries in
    let new = c.serve.new.shares.entries in
    let share = after_serve (share_in es c.args.tid) c.args.op.now c.args.reply.now in
    on_ok_weaker c.serve.result
    (λ is. subst (λ (old : List (Tid × Share)). IsReplaced (share_in old c.args.tid) (after_serve (share_in old c.args.tid) c.args.op.now c.args.reply.now) old new) c.self.view_is
    (subst (λ after. IsReplaced (share_in es c.args.tid) share es after) (sym is) (sums-insert es c.args.tid share c.serve.ensures.ordered)))
    c.serve.ensures.ok

pub returns-clause-held : goal.returns-clause-held
returns-clause-held c =
    let es = c.self.inside.held.entries in
    let new = c.serve.new.shares.entries in
    let share = after_serve (share_in es c.args.tid) c.args.op.now c.args.reply.now in
    on_ok_weaker c.serve.result
    (λ is. subst (λ (old : List (Tid × Share)). IsHeld c.args.tid (after_serve (share_in old c.args.tid) c.args.op.now c.args.reply.now) old new) c.self.view_is
    (subst (λ after. IsHeld c.args.tid share es after) (sym is) (held-insert es c.args.tid share)))
    c.serve.ensures.ok
