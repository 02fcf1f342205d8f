use Rattle.std.proofs.Common.{◌≡◌, take, fold}
use Rattle.qs_node_step.specs.Opening.{take_up}
use Rattle.qs_node.proofs.taking_up.take_up_each.Given as goal

abbrev pub invariant-loop-rec : goal.invariant-loop-rec
invariant-loop-rec l = l.manager ≡ fold take_up l.initial.manager (take l.rec-index l.records)
