use Rattle.std.proofs.Common.{List, sym, subst}
use Rattle.qs_base.specs.declared.identifiers.Tid.{Tid}
use Rattle.qs_ops.specs.declared.share.Share.{Share}
use Rattle.qs_ops.specs.Table.{nothing_held}
use Rattle.qs_ops_shares.specs.Shares.{share_in, IsHeld, IsReplaced}
use Rattle.qs_ops_shares.proofs.Sums.{sums-remove}
use Rattle.qs_ops_shares.proofs.Held.{held-remove}
use Rattle.qs_ops_shares.proofs.shares.Shares.release.Goals as goal

pub returns-clause-sums : goal.returns-clause-sums
returns-clause-sums c =
    let es = c.self.inside.held.entries in
    let new = c.remove.new.self.entries in
    subst (λ (old : List (Tid × Share)). IsReplaced (share_in old c.args.tid) nothing_held old new) c.self.view_is
    (subst (λ after. IsReplaced (share_in es c.args.tid) nothing_held es after) (sym c.remove.ensures.entries) (sums-remove es c.args.tid))

pub returns-clause-held : goal.returns-clause-held
returns-clause-held c =
    let es = c.self.inside.held.entries in
    let new = c.remove.new.self.entries in
    subst (λ (old : List (Tid × Share)). IsHeld c.args.tid nothing_held old new) c.self.view_is
    (held-remove es new c.args.tid c.remove.ensures.updates.0)
