use Rattle.std.proofs.Common.{ap, ◌∙◌}
use Rattle.std.specs.Prelude.{Option}
use Rattle.qs_base.specs.declared.identifiers.Tid.{Tid}
use Rattle.qs_ops.specs.Files.{or_else}
use Rattle.qs_ops.specs.Table.{TableValue, holder_of_name, least_other, reads_name}
use Rattle.qs_files_contents.specs.Slots.{first_other, is_edit, slot_or_new}
use Rattle.qs_files.proofs.Locks.{least-changer, least-reader}
use Rattle.qs_files.proofs.holdings.Holdings.holder.Goals as goal

pub returns : goal.returns
returns c =
    let slots = c.self.inside.slots in
    let shares = c.self.inside.shares in
    let name = c.args.name.now in
    let tid = c.args.tid in
    c.holder.ensures
    ∙ ap (λ (reader : Option Tid). or_else (first_other is_edit tid (slot_or_new slots name).edits) reader)
    (least-reader slots shares c.self.inside.counts.committed c.self.invariant.follows name c.in_order.ensures tid)
    ∙ ap (λ (changer : Option Tid). or_else changer (least_other (reads_name name) tid shares))
    (least-changer slots shares c.self.inside.counts.committed c.self.invariant.follows name c.in_order.ensures tid)
    ∙ ap (λ (table : TableValue). holder_of_name table tid name) c.self.view_is
