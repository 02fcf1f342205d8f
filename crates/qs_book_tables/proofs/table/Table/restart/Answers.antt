use Rattle.std.proofs.Common.{List, ap, ◌∙◌}
use Rattle.std.specs.List.{fold}
use Rattle.qs_ops.specs.declared.operation.Op.{Op}
use Rattle.qs_ops.specs.declared.share.KeptChanges.{KeptChanges}
use Rattle.qs_ops.specs.Table.{TableValue, apply_change, apply_note, restarted}
use Rattle.qs_book_tables.specs.Restarts.{kept_shares}
use Rattle.qs_book_tables.proofs.Restarted.{restarted-fields}
use Rattle.qs_book_tables.proofs.table.Table.restart.Goals as goal

pub returns-in-Ok-clause-ok : goal.returns-in-Ok-clause-ok
returns-in-Ok-clause-ok c =
    let old : TableValue = record { contents = c.self.inside.contents; notes = c.self.inside.notes; shares = c.self.inside.shares.entries } in
    restarted-fields old c.args.changes.now c.args.keeps.now _ _ _
    (c.in-Ok.ensures.contents ∙ ap (λ (ops : List Op). fold apply_change old.contents ops) c.as_slice-changes.ensures)
    (c.in-Ok.ensures.notes ∙ ap (λ (ops : List Op). fold apply_note old.notes ops) c.as_slice-changes.ensures)
    (c.in_ok-locks.ensures.value ∙ ap (λ (keeps : List KeptChanges). kept_shares keeps) c.as_slice.ensures)
    ∙ ap (λ (table : TableValue). restarted table c.args.changes.now c.args.keeps.now) c.self.view_is
