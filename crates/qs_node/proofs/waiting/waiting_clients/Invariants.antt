use Rattle.std.proofs.Common.{◌≡◌, map, fold}
use Rattle.std.specs.Map.Iter.{deref_pair}
use Rattle.qs_base.specs.declared.identifiers.ClientNo.{ClientNo}
use Rattle.qs_node_step.specs.declared.state.OpenCommand.{OpenCommand}
use Rattle.qs_node_step.specs.Step.{wait_on}
use Rattle.qs_node.proofs.waiting.waiting_clients.Given as goal

abbrev pub invariant-loop-entry : goal.invariant-loop-entry
invariant-loop-entry g l = fold wait_on l.work l.clients ≡ fold wait_on l.work (map (λ (entry : ClientNo × OpenCommand). entry.0) (map deref_pair l.yielded))
