use Rattle.std.proofs.Common.{refl, ◌≡◌, ◌∙◌, ap, ◌+◌, ◌∷◌, [], length}
use native.Mathlib.Omega.{arith}
use Rattle.std.proofs.lemmas.List.{length-append}
use Rattle.qs_node_kept.proofs.Undoing.{restored-push, below-longer}
use Rattle.qs_node_kept.proofs.ledger.Ledger.push.Goals as goal

pub invariant_of-self-2 : goal.invariant_of-self-2
invariant_of-self-2 g c =
    let longer : length c.push.new.self.items ≡ length c.self.inside.items.items + 1 = ap length c.in_ok-push.ensures.items ∙ length-append c.self.inside.items.items (c.args.item ∷ []) in
    rw longer (below-longer (length c.self.inside.items.items) c.self.inside.undo.items c.self.invariant.0, omega (arith, c.self.invariant.1))

pub returns-clause-ok : goal.returns-clause-ok
returns-clause-ok g c =
    rw (c.in_ok-push.ensures.items, restored-push c.self.inside.mark c.self.inside.undo.items c.self.inside.items.items c.args.item c.self.invariant.0 c.self.invariant.1, ← c.self.view_is) refl
