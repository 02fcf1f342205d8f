use Rattle.std.proofs.Common.{refl, ap, ◌∙◌}
use Rattle.qs_ops.specs.Table.{TableValue, served}
use Rattle.qs_ops_shelf.proofs.Committed.{files-same, table_is, on_err_always}
use Rattle.qs_ops_shelf.proofs.shelf.Shelf.serve.Goals as goal

pub returns-clause-ok : goal.returns-clause-ok
returns-clause-ok c =
    let old = c.self.inside.slots.names.entries in
    let new = c.serve-served.new.slots.names.entries in
    table_is _ _ _ _ _ _ (files-same old new c.in_order.ensures c.in_order-2.ensures c.serve-served.ensures.texts) refl c.in_ok-served.ensures.shares
    ∙ ap (λ (table : TableValue). served table c.args.tid c.args.op.now c.in_ok-reply.reply) c.self.view_is

pub returns-in_err-served-clause-err : goal.returns-in_err-served-clause-err
returns-in_err-served-clause-err c =
    let old = c.self.inside.slots.names.entries in
    let new = c.serve-served.new.slots.names.entries in
    on_err_always _
    (table_is _ _ _ _ _ _ (files-same old new c.in_order.ensures c.in_order-2.ensures c.serve-served.ensures.texts) refl c.in_err-served.ensures.same
    ∙ c.self.view_is)
