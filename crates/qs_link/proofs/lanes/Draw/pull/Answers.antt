use Rattle.std.proofs.Common.{[], subst}
use Rattle.qs_link.specs.Lane.{DrawValue, Drawn}
use Rattle.qs_link.proofs.Pulling.{pulled}
use Rattle.qs_link.proofs.lanes.Draw.pull.Goals as goal

pub returns-clause-drawn : goal.returns-clause-drawn
returns-clause-drawn g c =
    let before : DrawValue _ = record { ring = c.self.inside.ring; inbox = c.self.inside.inbox.items } in
    let after : DrawValue _ = record { ring = c.pop_all.new.ring; inbox = c.pop_all.new.inbox.items } in
    subst (λ (old : DrawValue _). Drawn [] old after) c.self.view_is
    (pulled c.pop_all.result before after c.slots.new.self c.slots.ensures.looked.1 c.slots.ensures.looked.0 c.pop_all.ensures.same c.pop_all.ensures.inbox c.pop_all.ensures.ring c.pop_all.ensures.all c.pop_all.ensures.none)
