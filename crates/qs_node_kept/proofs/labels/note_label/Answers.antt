use Rattle.std.proofs.Common.{refl, sym}
use Rattle.std.proofs.lemmas.Map.Lookups.{exact_bytes}
use Rattle.qs_base.specs.Order.{bytes_cmp}
use Rattle.qs_node_kept.specs.Keeping.{has_label}
use Rattle.qs_node_kept.proofs.Indexing.{index-new, index-old}
use Rattle.qs_node_kept.proofs.Keys.{own_label}
use Rattle.qs_node_kept.proofs.labels.note_label.Goals as goal

pub returns-in-Some-clause-ok : goal.returns-in-Some-clause-ok
returns-in-Some-clause-ok c =
    index-old bytes_cmp has_label c.args.places.now.entries c.args.before.now c.args.begun.now c.args.begun.now.label (own_label c.args.begun.now)
    (rw (← c.in-Some.ensures) refl) c.requires

pub returns-in_ok-insert-in-None-clause-ok : goal.returns-in_ok-insert-in-None-clause-ok
returns-in_ok-insert-in-None-clause-ok c =
    let updates = rw c.in_ok-copy-in-None.ensures at c.in_ok-insert-in-None.ensures.updates in
    (index-new bytes_cmp has_label c.args.places.now.entries c.insert.new.self.entries c.args.before.now c.args.begun.now c.args.begun.now.label
    exact_bytes (own_label c.args.begun.now) (sym c.in-None.ensures) updates.0 updates.1 c.requires).grows

pub returns-in_ok-insert-in-None-clause-stays : goal.returns-in_ok-insert-in-None-clause-stays
returns-in_ok-insert-in-None-clause-stays c =
    let updates = rw c.in_ok-copy-in-None.ensures at c.in_ok-insert-in-None.ensures.updates in
    (index-new bytes_cmp has_label c.args.places.now.entries c.insert.new.self.entries c.args.before.now c.args.begun.now c.args.begun.now.label
    exact_bytes (own_label c.args.begun.now) (sym c.in-None.ensures) updates.0 updates.1 c.requires).stays
