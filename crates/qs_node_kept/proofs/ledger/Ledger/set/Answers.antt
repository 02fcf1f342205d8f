use Rattle.std.proofs.Common.{refl, length}
use Rattle.std.proofs.lemmas.List.{length-set}
use Rattle.qs_node_kept.proofs.Undoing.{undone-set, below-more}
use Rattle.qs_node_kept.proofs.ledger.Ledger.set.Goals as goal

pub invariant_of-self-2 : goal.invariant_of-self-2
invariant_of-self-2 g c =
    rw (length-set c.self.inside.items.items c.args.place c.args.item, c.in_ok-push.ensures.items)
    (below-more (length c.self.inside.items.items) c.self.inside.undo.items c.args.place c.index-old.result.now c.self.invariant.0 (rw (← c.self.view_is) at c.requires), c.self.invariant.1)

pub returns-clause-ok : goal.returns-clause-ok
returns-clause-ok g c =
    rw (c.in_ok-push.ensures.items, c.index-old.ensures, undone-set c.self.inside.undo.items c.self.inside.items.items c.args.place c.args.item c.index-old.result.now, ← c.self.view_is) refl
