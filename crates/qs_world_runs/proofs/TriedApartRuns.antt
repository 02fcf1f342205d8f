-- The tests of who issued what stands, each by evaluation.
use Rattle.qs_world_runs.proofs.Words.{◌≡◌, true, false, refl, Global}
use Rattle.std.specs.Fmt.{digits}
use Rattle.qs_engage.specs.Nodes.{all_nodes}
use Rattle.qs_tm.specs.Members.{all_servers}
use Rattle.qs_world.specs.DrivenRuns.{late}
use Rattle.qs_world.specs.Faults.{both}
use Rattle.qs_world_lawful.specs.Tried.{rich}
use Rattle.qs_world_runs.specs.TriedApart.{apart_after, apart_in, some_in}

pub early : (alloc : Global) → apart_in (rich alloc) 3 0 120 ≡ true
unfolding all_nodes all_servers digits
early alloc = refl

pub later : (alloc : Global) → apart_in (rich alloc) 3 120 160 ≡ true
unfolding all_nodes all_servers digits
later alloc = refl

pub two : (alloc : Global) → apart_in (both alloc) 1 0 120 ≡ true
unfolding all_nodes all_servers digits
two alloc = refl

pub late_join : (alloc : Global) → apart_in (late alloc) 2 90 80 ≡ true
unfolding all_nodes all_servers digits
late_join alloc = refl

pub kept : (alloc : Global) → apart_after (both alloc) 1 true 20 20 40 ≡ true
unfolding all_nodes all_servers digits
kept alloc = refl

pub lost : (alloc : Global) → apart_after (rich alloc) 3 false 20 40 20 ≡ true
unfolding all_nodes all_servers digits
lost alloc = refl

pub there : (alloc : Global) → some_in (rich alloc) 3 0 60 ≡ true
unfolding all_nodes all_servers digits
there alloc = refl
