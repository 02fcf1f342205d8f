use Rattle.std.proofs.Common.{◌∙◌, ap}
use Rattle.qs_ops.specs.Table.{TableValue, holder}
use Rattle.qs_book_tables.proofs.ShareSteps.{holder-follows}
use Rattle.qs_book_tables.proofs.table.Table.holder.Goals as goal

pub returns : goal.returns
returns c =
    c.holder.ensures
    ∙ holder-follows (record { contents = c.self.inside.contents; notes = c.self.inside.notes; shares = c.self.inside.shares.entries }) c.self.inside.locks c.args.tid c.args.op.now c.self.invariant.follows
    ∙ ap (λ (table : TableValue). holder table c.args.tid c.args.op.now) c.self.view_is
