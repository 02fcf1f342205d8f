use Rattle.std.proofs.Common.{◌≡◌, ◌++◌}
use Rattle.qs_world_sites.specs.Seats.{nodes_below, turns_below}
use Rattle.qs_world_sites.proofs.turns.turns_of.Given as goal

abbrev pub invariant-loop-node : goal.invariant-loop-node
invariant-loop-node l = l.turns.items ≡ nodes_below l.node

abbrev pub invariant-loop-client : goal.invariant-loop-client
invariant-loop-client l = l.turns.items ≡ nodes_below l.nodes ++ turns_below l.seats l.client
