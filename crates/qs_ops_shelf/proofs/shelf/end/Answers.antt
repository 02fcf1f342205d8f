use Rattle.std.proofs.Common.{List, None, subst, ap, ◌∙◌}
use Rattle.std.specs.List.{list_any}
use Rattle.qs_ops.specs.declared.operation.Op.{Op}
use Rattle.qs_ops.specs.declared.share.Share.{Share}
use Rattle.qs_ops.specs.Table.{is_change_of}
use Rattle.qs_ops_shelf.specs.Slots.{IsStaged}
use Rattle.qs_ops_shelf.proofs.Following.{follow_ended}
use Rattle.qs_ops_shelf.proofs.shelf.end.Goals as goal

pub returns-clause-follows : goal.returns-clause-follows
returns-clause-follows c =
    let old = c.args.slots.now.names.entries in
    let new = c.settle_all.new.self.names.entries in
    follow_ended old new c.args.shares.now c.release-share.new.self c.args.tid c.requires.follows c.release-share.ensures.held
    (subst (λ (ops : List Op). IsStaged (λ q. list_any (is_change_of q) ops) c.args.tid None old new)
    (c.as_slice.ensures ∙ ap (λ (s : Share). s.changes) c.release-share.ensures.value) c.settle_all.ensures.staged)
