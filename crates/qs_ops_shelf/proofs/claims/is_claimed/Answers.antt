use Rattle.std.proofs.Common.{Some, None, ◌∙◌}
use Rattle.qs_ops_shelf.proofs.Claimed.{claimed-by_voters}
use Rattle.qs_ops_shelf.proofs.claims.is_claimed.Goals as goal

pub returns-in-Some : goal.returns-in-Some
returns-in-Some c =
    c.has_voter.ensures
    ∙ claimed-by_voters c.args.slots.now.names.entries c.args.shares.now c.args.me c.args.name.now (Some c.in-Some.slot.now) c.requires c.in_order.ensures c.in-Some.ensures.value

pub returns-in-None : goal.returns-in-None
returns-in-None c =
    claimed-by_voters c.args.slots.now.names.entries c.args.shares.now c.args.me c.args.name.now None c.requires c.in_order.ensures c.in-None.ensures.value
