-- The tests of what is owed and stands open, each by evaluation.
use Rattle.qs_world_runs.proofs.Words.{◌≡◌, true, false, refl, Global}
use Rattle.std.specs.Fmt.{digits}
use Rattle.qs_engage.specs.Nodes.{all_nodes}
use Rattle.qs_tm.specs.Members.{all_servers}
use Rattle.qs_world.specs.DrivenRuns.{late}
use Rattle.qs_world.specs.Faults.{both}
use Rattle.qs_world_lawful.specs.Tried.{rich}
use Rattle.qs_world_runs.specs.TriedOwing.{open_after, open_in, open_without_history, some_after}

pub early : (alloc : Global) → open_in (rich alloc) 3 0 120 ≡ true
unfolding all_nodes all_servers digits
early alloc = refl

pub later : (alloc : Global) → open_in (rich alloc) 3 320 60 ≡ true
unfolding all_nodes all_servers digits
later alloc = refl

pub two : (alloc : Global) → open_in (both alloc) 1 0 120 ≡ true
unfolding all_nodes all_servers digits
two alloc = refl

pub late_join : (alloc : Global) → open_in (late alloc) 2 90 80 ≡ true
unfolding all_nodes all_servers digits
late_join alloc = refl

pub kept : (alloc : Global) → open_after (both alloc) 1 true 25 20 60 ≡ true
unfolding all_nodes all_servers digits
kept alloc = refl

pub lost : (alloc : Global) → open_after (rich alloc) 3 false 25 40 30 ≡ true
unfolding all_nodes all_servers digits
lost alloc = refl

pub there : (alloc : Global) → some_after (both alloc) 1 true 20 60 ≡ true
unfolding all_nodes all_servers digits
there alloc = refl

pub there_too : (alloc : Global) → some_after (rich alloc) 3 false 40 30 ≡ true
unfolding all_nodes all_servers digits
there_too alloc = refl

pub no_history_fails : (alloc : Global) → open_without_history (rich alloc) 3 100 ≡ false
unfolding all_nodes all_servers digits
no_history_fails alloc = refl
