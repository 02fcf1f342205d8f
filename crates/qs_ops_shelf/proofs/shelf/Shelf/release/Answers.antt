use Rattle.std.proofs.Common.{refl, ap, ◌∙◌}
use Rattle.qs_ops.specs.Table.{TableValue, released}
use Rattle.qs_ops_shelf.proofs.Committed.{files-same, table_is}
use Rattle.qs_ops_shelf.proofs.shelf.Shelf.release.Goals as goal

pub returns : goal.returns
returns c =
    let old = c.self.inside.slots.names.entries in
    let new = c.end.new.slots.names.entries in
    table_is _ _ _ _ _ _ (files-same old new c.in_order.ensures c.in_order-2.ensures c.end.ensures.settled) refl c.end.ensures.shares
    ∙ ap (λ (table : TableValue). released table c.args.tid) c.self.view_is
