-- What a step is given, on the states of runs, each group by evaluation.
use Rattle.qs_world_lawful.proofs.Words.{◌≡◌, true, false, refl, Global, both, rich}
use Rattle.std.specs.Fmt.{digits}
use Rattle.qs_engage.specs.Nodes.{all_nodes}
use Rattle.qs_tm.specs.Members.{all_servers}
use Rattle.qs_world_lawful.specs.TriedGiven.{midways_given, stages_given, timed, timed_ok}

pub timers : (alloc : Global) → timed_ok (timed alloc) 0 50 ≡ true
unfolding all_nodes all_servers digits
timers alloc = refl

pub early : (alloc : Global) → stages_given (rich alloc) 3 0 60 ≡ true
unfolding all_nodes all_servers digits
early alloc = refl

pub later : (alloc : Global) → stages_given (rich alloc) 3 60 80 ≡ true
unfolding all_nodes all_servers digits
later alloc = refl

pub kept : (alloc : Global) → midways_given (rich alloc) 3 true 13 40 30 ≡ true
unfolding all_nodes all_servers digits
kept alloc = refl

pub lost : (alloc : Global) → midways_given (rich alloc) 3 false 21 40 30 ≡ true
unfolding all_nodes all_servers digits
lost alloc = refl

pub two : (alloc : Global) → midways_given (both alloc) 1 true 9 0 40 ≡ true
unfolding all_nodes all_servers digits
two alloc = refl
