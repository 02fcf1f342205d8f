use Rattle.std.proofs.Common.{ℕ, List, Option, sym, ap, ◌∙◌}
use Rattle.std.specs.Prelude.{is_some}
use Rattle.qs_ops.specs.Files.{file_text}
use Rattle.qs_ops.specs.Table.{TableValue}
use Rattle.qs_ops_shelf.proofs.Committed.{file_text-files_in}
use Rattle.qs_ops_shelf.proofs.shelf.Shelf.is_bound.Goals as goal

pub returns : goal.returns
returns c =
    c.is_bound.ensures
    ∙ ap (λ (o : Option (List ℕ)). is_some o) (sym (file_text-files_in c.self.inside.slots.names.entries c.args.name.now c.in_order.ensures))
    ∙ ap (λ (table : TableValue). is_some (file_text table.contents c.args.name.now)) c.self.view_is
