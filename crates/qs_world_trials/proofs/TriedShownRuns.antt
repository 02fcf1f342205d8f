-- The tests of what the law of each move asks, each by evaluation.
use Rattle.std.proofs.Common.{◌≡◌, true, false, refl}
use Rattle.std.specs.Fmt.{digits}
use Rattle.std.specs.Global.{Global}
use Rattle.qs_engage.specs.Nodes.{all_nodes}
use Rattle.qs_world_runs.specs.TriedStale.{opens}
use Rattle.qs_world_lawful.specs.Tried.{rich}
use Rattle.qs_world_lawful.specs.TriedOpenings.{old}
use Rattle.qs_tm.specs.Members.{all_servers}
use Rattle.qs_world_trials.specs.Broken.{in_later_incarnation, who_knows_later, with_later_managers, with_strange_commits, without_logs, without_outcomes, without_transactions}
use Rattle.qs_world_trials.specs.Runs.{stale}
use Rattle.qs_world_trials.specs.SteadyTests.{is_listed, is_steady}
use Rattle.qs_world_trials.specs.TriedShown.{is_taken_care_of}
use Rattle.qs_world_trials.specs.Walks.{all_after, all_along, all_in, changed}
use Rattle.qs_world.specs.DrivenRuns.{late}
use Rattle.qs_world.specs.Faults.{both}

pub conflicts_holds : (alloc : Global) → all_in is_taken_care_of (rich alloc) 3 0 600 ≡ true
unfolding all_nodes all_servers digits
conflicts_holds alloc = refl

pub late_join_holds : (alloc : Global) → all_in is_taken_care_of (late alloc) 2 0 432 ≡ true
unfolding all_nodes all_servers digits
late_join_holds alloc = refl

pub stale_record_holds : (alloc : Global) → all_along is_taken_care_of (opens alloc) stale ≡ true
unfolding all_nodes all_servers digits
stale_record_holds alloc = refl

pub kept_holds : (alloc : Global) → all_after is_taken_care_of (both alloc) 1 true 15 0 150 ≡ true
unfolding all_nodes all_servers digits
kept_holds alloc = refl

pub lost_holds : (alloc : Global) → all_after is_taken_care_of (both alloc) 1 false 15 0 150 ≡ true
unfolding all_nodes all_servers digits
lost_holds alloc = refl

pub old_kept_holds : (alloc : Global) → all_after is_taken_care_of (old alloc) 1 true 15 0 24 ≡ true
unfolding all_nodes all_servers digits
old_kept_holds alloc = refl

pub sound_fails : (alloc : Global) → all_in (changed is_steady without_transactions) (both alloc) 1 0 200 ≡ false
unfolding all_nodes all_servers digits
sound_fails alloc = refl

pub tidy_fails : (alloc : Global) → all_in (changed is_steady with_later_managers) (both alloc) 1 0 200 ≡ false
unfolding all_nodes all_servers digits
tidy_fails alloc = refl

pub crossed_fails : (alloc : Global) → all_in (changed is_steady without_outcomes) (both alloc) 1 0 200 ≡ false
unfolding all_nodes all_servers digits
crossed_fails alloc = refl

pub seated_fails : (alloc : Global) → all_in (changed is_steady in_later_incarnation) (both alloc) 1 0 200 ≡ false
unfolding all_nodes all_servers digits
seated_fails alloc = refl

pub known_fails : (alloc : Global) → all_in (changed is_steady who_knows_later) (both alloc) 1 0 200 ≡ false
unfolding all_nodes all_servers digits
known_fails alloc = refl

pub said_fails : (alloc : Global) → all_in (changed is_steady without_logs) (both alloc) 1 0 200 ≡ false
unfolding all_nodes all_servers digits
said_fails alloc = refl

pub told_fails : (alloc : Global) → all_in (changed is_listed without_transactions) (both alloc) 1 0 200 ≡ false
unfolding all_nodes all_servers digits
told_fails alloc = refl

pub listed_fails : (alloc : Global) → all_in (changed is_listed with_strange_commits) (both alloc) 1 0 200 ≡ false
unfolding all_nodes all_servers digits
listed_fails alloc = refl
