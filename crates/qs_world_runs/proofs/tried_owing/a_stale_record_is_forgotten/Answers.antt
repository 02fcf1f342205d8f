use Rattle.qs_world_runs.proofs.TriedStaleRuns.{before, machine_has, node_has, lawful}
use Rattle.qs_world_runs.proofs.tried_owing.a_stale_record_is_forgotten.Goals as goal

pub returns : goal.returns
returns c = record { shown = λ alloc. record { before = before alloc; machine_has = machine_has alloc; node_has = node_has alloc; lawful = lawful alloc } }
