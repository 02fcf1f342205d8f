-- What stands at each stage of a step, on the steps of runs, each group by evaluation.
use Rattle.qs_world_lawful.proofs.Words.{◌≡◌, true, false, refl, Global, both, rich}
use Rattle.std.specs.Fmt.{digits}
use Rattle.qs_engage.specs.Nodes.{all_nodes}
use Rattle.qs_tm.specs.Members.{all_servers}
use Rattle.qs_world_lawful.specs.TriedGiven.{timed}
use Rattle.qs_world_lawful.specs.TriedStages.{blind_ok, within_ok}

pub early : (alloc : Global) → within_ok (rich alloc) 3 0 60 ≡ true
unfolding all_nodes all_servers digits
early alloc = refl

pub later : (alloc : Global) → within_ok (rich alloc) 3 60 80 ≡ true
unfolding all_nodes all_servers digits
later alloc = refl

pub two : (alloc : Global) → within_ok (both alloc) 1 0 40 ≡ true
unfolding all_nodes all_servers digits
two alloc = refl

pub timers : (alloc : Global) → within_ok (timed alloc) 1 0 40 ≡ true
unfolding all_nodes all_servers digits
timers alloc = refl

pub blind_fails : (alloc : Global) → blind_ok (rich alloc) 3 100 6 ≡ false
unfolding all_nodes all_servers digits
blind_fails alloc = refl
