use Rattle.std.proofs.Common.{ap, ◌∙◌}
use Rattle.qs_ops.specs.Table.{TableValue, text_at}
use Rattle.qs_ops_shelf.proofs.Committed.{text-seen}
use Rattle.qs_ops_shelf.proofs.shelf.Shelf.text.Goals as goal

pub returns : goal.returns
returns c =
    c.text.ensures
    ∙ text-seen c.self.inside.slots.names.entries c.self.inside.shares c.args.tid c.args.name.now c.in_order.ensures c.self.invariant
    ∙ ap (λ (table : TableValue). text_at table c.args.tid c.args.name.now) c.self.view_is
