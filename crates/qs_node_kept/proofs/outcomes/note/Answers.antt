use Rattle.std.proofs.Common.{refl, sym}
use Rattle.qs_base.specs.Order.{tid_cmp}
use Rattle.qs_base.proofs.TidOrder.{tid_exact}
use Rattle.qs_node_kept.specs.Keeping.{is_outcome_of}
use Rattle.qs_node_kept.proofs.Indexing.{index-new, index-old}
use Rattle.qs_node_kept.proofs.Keys.{own_outcome}
use Rattle.qs_node_kept.proofs.outcomes.note.Goals as goal

pub returns-in-Some-clause-ok : goal.returns-in-Some-clause-ok
returns-in-Some-clause-ok c =
    index-old tid_cmp is_outcome_of c.args.places.now.entries c.args.before.now c.args.decided.now c.args.decided.now.tid (own_outcome c.args.decided.now)
    (rw (← c.in-Some.ensures) refl) c.requires

pub returns-in_ok-insert-in-None-clause-ok : goal.returns-in_ok-insert-in-None-clause-ok
returns-in_ok-insert-in-None-clause-ok c =
    let updates = c.in_ok-insert-in-None.ensures.updates in
    (index-new tid_cmp is_outcome_of c.args.places.now.entries c.insert.new.self.entries c.args.before.now c.args.decided.now c.args.decided.now.tid
    tid_exact (own_outcome c.args.decided.now) (sym c.in-None.ensures) updates.0 updates.1 c.requires).grows

pub returns-in_ok-insert-in-None-clause-stays : goal.returns-in_ok-insert-in-None-clause-stays
returns-in_ok-insert-in-None-clause-stays c =
    let updates = c.in_ok-insert-in-None.ensures.updates in
    (index-new tid_cmp is_outcome_of c.args.places.now.entries c.insert.new.self.entries c.args.before.now c.args.decided.now c.args.decided.now.tid
    tid_exact (own_outcome c.args.decided.now) (sym c.in-None.ensures) updates.0 updates.1 c.requires).stays
