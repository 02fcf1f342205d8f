use Rattle.std.proofs.Common.{◌∙◌, ap, sym, slice_set}
use Rattle.std.proofs.lemmas.List.Edits.{map_over_more}
use Rattle.qs_cell_chronicle.specs.Points.{after_entries}
use Rattle.qs_cell_chronicle.proofs.points.pass.Goals as goal

pub loop-watched-preserved : goal.loop-watched-preserved
loop-watched-preserved c =
    ap (slice_set c.loop-watched.watched-items c.loop-watched.watched-index)
    (c.note_entries.ensures ∙ ap (after_entries c.args.kept.now.now.labels c.args.entries.now) (sym c.watched-item.is))
    ∙ map_over_more (after_entries c.args.kept.now.now.labels c.args.entries.now) c.deref_mut-watched-items.result.now c.loop-watched.watched-items c.loop-watched.watched-index c.watched-item.result
    c.loop-watched-test.true c.loop-watched.invariant c.watched-item.is
