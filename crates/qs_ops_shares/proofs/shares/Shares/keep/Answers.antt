use Rattle.std.proofs.Common.{List, sym, subst, ap, ◌∙◌}
use Rattle.std.specs.BTreeMap.{insert_entry}
use Rattle.qs_base.specs.Order.{tid_cmp}
use Rattle.qs_base.specs.declared.identifiers.Tid.{Tid}
use Rattle.qs_ops.specs.declared.share.Share.{Share}
use Rattle.qs_ops_shares.specs.Shares.{share_in, kept_share, IsHeld, IsReplaced}
use Rattle.qs_ops_shares.proofs.Sums.{sums-insert}
use Rattle.qs_ops_shares.proofs.Held.{held-insert}
use Rattle.qs_ops_shares.proofs.shares.Shares.keep.Goals as goal

pub returns-clause-sums : goal.returns-clause-sums
returns-clause-sums c =
    let es = c.self.inside.held.entries in
    let share = kept_share c.args.changes.now in
    let new = c.insert.new.self.entries in
    subst (λ (old : List (Tid × Share)). IsReplaced (share_in old c.args.tid) share old new) c.self.view_is
    (subst (λ after. IsReplaced (share_in es c.args.tid) share es after)
    (sym (c.in_ok-insert.ensures.entries ∙ ap (λ (s : Share). insert_entry tid_cmp es c.args.tid s) c.in_ok-held.ensures))
    (sums-insert es c.args.tid share c.in_ok-insert.ensures.was_ordered))

pub returns-clause-held : goal.returns-clause-held
returns-clause-held c =
    let es = c.self.inside.held.entries in
    let share = kept_share c.args.changes.now in
    let new = c.insert.new.self.entries in
    subst (λ (old : List (Tid × Share)). IsHeld c.args.tid share old new) c.self.view_is
    (subst (λ after. IsHeld c.args.tid share es after)
    (sym (c.in_ok-insert.ensures.entries ∙ ap (λ (s : Share). insert_entry tid_cmp es c.args.tid s) c.in_ok-held.ensures))
    (held-insert es c.args.tid share))
