use Rattle.std.proofs.Common.{[], sym, ap, ◌∙◌}
use Rattle.qs_ops.specs.Table.{TableValue, committed}
use Rattle.qs_ops_shelf.proofs.Committed.{files-committed, table_is}
use Rattle.qs_ops_shelf.proofs.shelf.Shelf.commit.Goals as goal

pub returns : goal.returns
returns c =
    let old = c.self.inside.slots.names.entries in
    let new = c.end.new.slots.names.entries in
    table_is _ _ _ _ _ _
    (files-committed old new c.self.inside.shares c.args.tid c.in_order.ensures c.in_order-2.ensures c.self.invariant c.end.ensures.settled)
    (sym (c.self.invariant.notes c.args.tid []))
    c.end.ensures.shares
    ∙ ap (λ (table : TableValue). committed table c.args.tid) c.self.view_is
