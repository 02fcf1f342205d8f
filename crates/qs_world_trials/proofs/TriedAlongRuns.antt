-- The tests of what goes along a run, each group by evaluation.
use Rattle.std.proofs.Common.{◌≡◌, true, false, refl}
use Rattle.std.specs.Fmt.{digits}
use Rattle.std.specs.Global.{Global}
use Rattle.std.specs.Prelude.{fold}
use Rattle.qs_engage.specs.Nodes.{all_nodes}
use Rattle.qs_world_runs.specs.TriedStale.{after, opens}
use Rattle.qs_world_lawful.specs.Tried.{rich}
use Rattle.qs_world_lawful.specs.TriedOpenings.{old}
use Rattle.qs_tm.specs.Members.{all_servers}
use Rattle.qs_world_trials.specs.Broken.{who_knows_nobody, with_more_covers, without_history, without_loans, without_logs, without_numbers, without_serves, without_transactions}
use Rattle.qs_world_trials.specs.CountTests.{is_counted}
use Rattle.qs_world_trials.specs.MachineTests.{is_awaited}
use Rattle.qs_world_trials.specs.RecordTests.{is_covered, is_recorded, is_replied}
use Rattle.qs_world_trials.specs.Runs.{sole, stale}
use Rattle.qs_world_trials.specs.TriedAlong.{is_along}
use Rattle.qs_world_trials.specs.Walks.{all_after, all_along, all_in, changed, done}
use Rattle.qs_world.specs.DrivenRuns.{late, taken}
use Rattle.qs_world.specs.Faults.{both}
use Rattle.qs_world.specs.World.{start}

pub conflicts_holds : (alloc : Global) → all_in is_along (rich alloc) 3 0 600 ≡ true
unfolding all_nodes all_servers digits
conflicts_holds alloc = refl

pub late_join_holds : (alloc : Global) → all_in is_along (late alloc) 2 0 432 ≡ true
unfolding all_nodes all_servers digits
late_join_holds alloc = refl

pub same_run_holds : (alloc : Global) → (fold done (start (opens alloc)) stale).journal ≡ (after alloc).journal
unfolding all_nodes all_servers digits
same_run_holds alloc = refl

pub stale_record_holds : (alloc : Global) → all_along is_along (opens alloc) stale ≡ true
unfolding all_nodes all_servers digits
stale_record_holds alloc = refl

pub kept_holds : (alloc : Global) → all_after is_along (both alloc) 1 true 15 0 150 ≡ true
unfolding all_nodes all_servers digits
kept_holds alloc = refl

pub lost_holds : (alloc : Global) → all_after is_along (both alloc) 1 false 15 0 150 ≡ true
unfolding all_nodes all_servers digits
lost_holds alloc = refl

pub late_kept_holds : (alloc : Global) → all_after is_along (late alloc) 2 true 30 220 120 ≡ true
unfolding all_nodes all_servers digits
late_kept_holds alloc = refl

pub late_lost_holds : (alloc : Global) → all_after is_along (late alloc) 2 false 30 220 120 ≡ true
unfolding all_nodes all_servers digits
late_lost_holds alloc = refl

pub conflicts_lost_holds : (alloc : Global) → all_after is_along (rich alloc) 3 false 25 200 40 ≡ true
unfolding all_nodes all_servers digits
conflicts_lost_holds alloc = refl

pub old_kept_holds : (alloc : Global) → all_after is_along (old alloc) 1 true 15 0 40 ≡ true
unfolding all_nodes all_servers digits
old_kept_holds alloc = refl

pub old_lost_holds : (alloc : Global) → all_after is_along (old alloc) 1 false 15 0 40 ≡ true
unfolding all_nodes all_servers digits
old_lost_holds alloc = refl

pub counted_holds : (alloc : Global) → all_in is_counted (taken alloc) 2 0 60 ≡ true
unfolding all_nodes all_servers digits
counted_holds alloc = refl

pub counted_kept_holds : (alloc : Global) → all_after is_counted (sole alloc) 2 true 12 0 50 ≡ true
unfolding all_nodes all_servers digits
counted_kept_holds alloc = refl

pub counted_lost_holds : (alloc : Global) → all_after is_counted (sole alloc) 2 false 12 0 50 ≡ true
unfolding all_nodes all_servers digits
counted_lost_holds alloc = refl

pub recorded_fails : (alloc : Global) → all_in (changed is_recorded without_logs) (both alloc) 1 0 100 ≡ false
unfolding all_nodes all_servers digits
recorded_fails alloc = refl

pub covered_fails : (alloc : Global) → all_in (changed is_covered with_more_covers) (old alloc) 1 0 100 ≡ false
unfolding all_nodes all_servers digits
covered_fails alloc = refl

pub replied_fails : (alloc : Global) → all_in (changed is_replied without_history) (rich alloc) 3 0 100 ≡ false
unfolding all_nodes all_servers digits
replied_fails alloc = refl

pub answered_fails : (alloc : Global) → all_in (changed is_replied without_serves) (rich alloc) 3 0 100 ≡ false
unfolding all_nodes all_servers digits
answered_fails alloc = refl

pub fresh_fails : (alloc : Global) → all_in (changed is_replied who_knows_nobody) (rich alloc) 3 0 100 ≡ false
unfolding all_nodes all_servers digits
fresh_fails alloc = refl

pub lent_fails : (alloc : Global) → all_in (changed is_awaited without_loans) (late alloc) 2 0 432 ≡ false
unfolding all_nodes all_servers digits
lent_fails alloc = refl

pub awaited_fails : (alloc : Global) → all_in (changed is_awaited without_transactions) (rich alloc) 3 0 100 ≡ false
unfolding all_nodes all_servers digits
awaited_fails alloc = refl

pub counted_fails : (alloc : Global) → all_in (changed is_counted without_numbers) (sole alloc) 2 0 100 ≡ false
unfolding all_nodes all_servers digits
counted_fails alloc = refl
