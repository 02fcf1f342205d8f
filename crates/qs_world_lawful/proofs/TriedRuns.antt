-- The tests on the states of runs, each group by evaluation.
use Rattle.qs_world_lawful.proofs.Words.{◌≡◌, true, false, refl, Global, late, both, rich}
use Rattle.std.specs.Fmt.{digits}
use Rattle.qs_engage.specs.Nodes.{all_nodes}
use Rattle.qs_tm.specs.Members.{all_servers}
use Rattle.qs_world.specs.DrivenRuns.{taken}
use Rattle.qs_world_lawful.specs.Tried.{stages_ok, midways_ok, fails_without_history}

pub early : (alloc : Global) → stages_ok (rich alloc) 3 0 100 ≡ true
unfolding all_nodes all_servers digits
early alloc = refl

pub later : (alloc : Global) → stages_ok (rich alloc) 3 100 100 ≡ true
unfolding all_nodes all_servers digits
later alloc = refl

pub kept : (alloc : Global) → midways_ok (rich alloc) 3 true 13 40 60 ≡ true
unfolding all_nodes all_servers digits
kept alloc = refl

pub lost : (alloc : Global) → midways_ok (rich alloc) 3 false 21 40 60 ≡ true
unfolding all_nodes all_servers digits
lost alloc = refl

pub late_join : (alloc : Global) → stages_ok (late alloc) 2 60 60 ≡ true
unfolding all_nodes all_servers digits
late_join alloc = refl

pub two : (alloc : Global) → midways_ok (both alloc) 1 true 9 0 60 ≡ true
unfolding all_nodes all_servers digits
two alloc = refl

pub one : (alloc : Global) → stages_ok (taken alloc) 2 0 60 ≡ true
unfolding all_nodes all_servers digits
one alloc = refl

pub empty_fails : (alloc : Global) → fails_without_history (rich alloc) 3 100 ≡ false
unfolding all_nodes all_servers digits
empty_fails alloc = refl
