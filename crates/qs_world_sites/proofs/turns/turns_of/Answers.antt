use Rattle.std.proofs.Common.{◌≡◌, ◌∙◌, ◌++◌, ap, arith}
use Rattle.qs_world_sites.specs.Seats.{nodes_below, turns_below, turns_of}
use Rattle.qs_world_sites.proofs.turns.turns_of.Goals as goal

pub returns : goal.returns
unfolding turns_of
returns c =
    let last : c.loop-client.client ≡ 32 = omega arith in
    c.loop-client.invariant ∙ ap (λ n. nodes_below c.args.nodes ++ turns_below c.args.seats.now n) last
