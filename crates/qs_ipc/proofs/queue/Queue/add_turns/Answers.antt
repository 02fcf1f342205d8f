use Rattle.std.proofs.Common.{◌≡◌, ◌∙◌, ◌<◌, ◌++◌, ◌∷◌, [], List, length, sym, ap, append_assoc, arith, map, take}
use Rattle.qs_base.specs.declared.identifiers.ServerNo.{ServerNo}
use Rattle.qs_ipc.specs.declared.delivery.Delivery.{Delivery}
use Rattle.qs_ipc.proofs.Turns.{same_more}
use Rattle.qs_ipc.proofs.queue.Queue.add_turns.Goals as goal

pub loop-turn-preserved : goal.loop-turn-preserved
loop-turn-preserved c =
    let within : c.loop-turn._turn < length c.args.self.now.waiting = rw (← c.self.view_is) (omega (arith, c.loop-turn-test.true, c.len-turn-end.ensures)) in
    c.in_ok-push.ensures.ok
    ∙ ap (λ (l : List ServerNo). l ++ c.args.server ∷ []) c.loop-turn.invariant
    ∙ append_assoc c.args.turns.now (map (λ (delivery : Delivery). c.args.server) (take c.loop-turn._turn c.args.self.now.waiting)) (c.args.server ∷ [])
    ∙ ap (λ (l : List ServerNo). c.args.turns.now ++ l) (sym (same_more c.args.server c.args.self.now.waiting c.loop-turn._turn within))
