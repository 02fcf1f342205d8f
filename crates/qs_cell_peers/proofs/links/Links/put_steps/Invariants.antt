use Rattle.std.proofs.Common.{take}
use Rattle.std.specs.List.{flat_map}
use Rattle.qs_cell_peers.specs.Links.{HasPut, puts_of}
use Rattle.qs_cell_peers.proofs.links.Links.put_steps.Given as goal

abbrev pub invariant-loop-step : goal.invariant-loop-step
invariant-loop-step l = HasPut (flat_map puts_of (take l.step-index l.steps)) l.initial.self l.self
