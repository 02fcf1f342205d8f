-- A run with a stale record, by evaluation.
use Rattle.qs_world_runs.proofs.Words.{◌≡◌, None, [], ◌∷◌, refl, Global}
use Rattle.std.specs.Prelude.{codes}
use Rattle.std.specs.Fmt.{digits}
use Rattle.qs_engage.specs.Nodes.{all_nodes}
use Rattle.qs_tm.specs.Members.{all_servers}
use Rattle.qs_world.specs.Driven.{first_fault, rise}
use Rattle.qs_world_runs.specs.TriedStale.{after, again, in_machine, in_node, opens}

pub before : (alloc : Global) → first_fault (opens alloc) (rise 2 (again alloc)) ≡ None
unfolding all_nodes all_servers digits
before alloc = refl

pub machine_has : (alloc : Global) → in_machine alloc ≡ (codes "h" ∷ []) ∷ []
unfolding all_nodes all_servers digits
machine_has alloc = refl

pub node_has : (alloc : Global) → in_node alloc ≡ (codes "h" ∷ []) ∷ []
unfolding all_nodes all_servers digits
node_has alloc = refl

pub lawful : (alloc : Global) → first_fault (opens alloc) (after alloc) ≡ None
unfolding all_nodes all_servers digits
lawful alloc = refl
