-- The tests of whole worlds on the states of runs, each group by evaluation.
use Rattle.qs_world_lawful.proofs.Words.{◌≡◌, true, false, refl, Global, late, both, rich}
use Rattle.std.specs.Fmt.{digits}
use Rattle.qs_engage.specs.Nodes.{all_nodes}
use Rattle.qs_tm.specs.Members.{all_servers}
use Rattle.qs_world_lawful.specs.TriedWorlds.{worlds_ok, downs_ok, fails_without_logs, fails_without_history}

pub early : (alloc : Global) → worlds_ok (rich alloc) 3 0 100 ≡ true
unfolding all_nodes all_servers digits
early alloc = refl

pub later : (alloc : Global) → worlds_ok (rich alloc) 3 320 50 ≡ true
unfolding all_nodes all_servers digits
later alloc = refl

pub kept : (alloc : Global) → downs_ok (rich alloc) 3 true 9 330 20 ≡ true
unfolding all_nodes all_servers digits
kept alloc = refl

pub lost : (alloc : Global) → downs_ok (rich alloc) 3 false 9 350 20 ≡ true
unfolding all_nodes all_servers digits
lost alloc = refl

pub late_join : (alloc : Global) → downs_ok (late alloc) 2 true 20 90 60 ≡ true
unfolding all_nodes all_servers digits
late_join alloc = refl

pub two : (alloc : Global) → downs_ok (both alloc) 1 true 5 20 100 ≡ true
unfolding all_nodes all_servers digits
two alloc = refl

pub two_lost : (alloc : Global) → downs_ok (both alloc) 1 false 5 20 100 ≡ true
unfolding all_nodes all_servers digits
two_lost alloc = refl

pub no_logs_fail : (alloc : Global) → fails_without_logs (both alloc) 1 110 ≡ false
unfolding all_nodes all_servers digits
no_logs_fail alloc = refl

pub no_history_fails : (alloc : Global) → fails_without_history (rich alloc) 3 100 ≡ false
unfolding all_nodes all_servers digits
no_history_fails alloc = refl
