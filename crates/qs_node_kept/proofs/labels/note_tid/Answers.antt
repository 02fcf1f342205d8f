use Rattle.std.proofs.Common.{refl, sym}
use Rattle.qs_base.specs.Order.{tid_cmp}
use Rattle.qs_base.proofs.TidOrder.{tid_exact}
use Rattle.qs_node_kept.specs.Keeping.{is_label_of}
use Rattle.qs_node_kept.proofs.Indexing.{index-new, index-old, index-without}
use Rattle.qs_node_kept.proofs.Keys.{own_tid, no_tid}
use Rattle.qs_node_kept.proofs.labels.note_tid.Goals as goal

pub returns-in_default-clause-ok : goal.returns-in_default-clause-ok
returns-in_default-clause-ok c =
    index-without tid_cmp is_label_of c.args.places.now.entries c.args.before.now c.args.begun.now (λ q. no_tid c.args.begun.now q c.in_default.is) c.requires

pub returns-in-Some-label_of-clause-ok : goal.returns-in-Some-label_of-clause-ok
returns-in-Some-label_of-clause-ok c =
    index-old tid_cmp is_label_of c.args.places.now.entries c.args.before.now c.args.begun.now c.in-Some.tid (λ q. own_tid c.args.begun.now c.in-Some.tid q c.in-Some.is)
    (rw (← c.in-Some-label_of.ensures) refl) c.requires

pub returns-in_ok-insert-in-None-clause-ok : goal.returns-in_ok-insert-in-None-clause-ok
returns-in_ok-insert-in-None-clause-ok c =
    let updates = c.in_ok-insert-in-None.ensures.updates in
    (index-new tid_cmp is_label_of c.args.places.now.entries c.insert.new.self.entries c.args.before.now c.args.begun.now c.in-Some.tid
    tid_exact (λ q. own_tid c.args.begun.now c.in-Some.tid q c.in-Some.is) (sym c.in-None.ensures) updates.0 updates.1 c.requires).grows

pub returns-in_ok-insert-in-None-clause-stays : goal.returns-in_ok-insert-in-None-clause-stays
returns-in_ok-insert-in-None-clause-stays c =
    let updates = c.in_ok-insert-in-None.ensures.updates in
    (index-new tid_cmp is_label_of c.args.places.now.entries c.insert.new.self.entries c.args.before.now c.args.begun.now c.in-Some.tid
    tid_exact (λ q. own_tid c.args.begun.now c.in-Some.tid q c.in-Some.is) (sym c.in-None.ensures) updates.0 updates.1 c.requires).stays
