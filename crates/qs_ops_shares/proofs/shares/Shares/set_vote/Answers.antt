use Rattle.std.proofs.Common.{List, sym, subst}
use Rattle.std.proofs.lemmas.Result.{on_ok_weaker}
use Rattle.qs_base.specs.declared.identifiers.Tid.{Tid}
use Rattle.qs_ops.specs.declared.share.Share.{Share}
use Rattle.qs_ops_shares.specs.Shares.{share_in, IsHeld, IsReplaced}
use Rattle.qs_ops_shares.proofs.Sums.{sums-insert}
use Rattle.qs_ops_shares.proofs.Held.{held-insert}
use Rattle.qs_ops_shares.proofs.shares.Shares.set_vote.Goals as goal

pub returns-clause-sums : goal.returns-clause-sums
returns-clause-sums c =
    let es = c.self.inside.held.entries in
    let new = c.set_vote.new.shares.entries in
    let share : Share = record (share_in es c.args.tid) { voted = c.args.voted } in
    on_ok_weaker c.set_vote.result
    (λ is. subst (λ (old : List (Tid × Share)). IsReplaced (share_in old c.args.tid) (record (share_in old c.args.tid) { voted = c.args.voted }) old new) c.self.view_is
    (subst (λ after. IsReplaced (share_in es c.args.tid) share es after) (sym is) (sums-insert es c.args.tid share c.set_vote.ensures.ordered)))
    c.set_vote.ensures.ok

pub returns-clause-held : goal.returns-clause-held
returns-clause-held c =
    let es = c.self.inside.held.entries in
    let new = c.set_vote.new.shares.entries in
    let share : Share = record (share_in es c.args.tid) { voted = c.args.voted } in
    on_ok_weaker c.set_vote.result
    (λ is. subst (λ (old : List (Tid × Share)). IsHeld c.args.tid (record (share_in old c.args.tid) { voted = c.args.voted }) old new) c.self.view_is
    (subst (λ after. IsHeld c.args.tid share es after) (sym is) (held-insert es c.args.tid share)))
    c.set_vote.ensures.ok
