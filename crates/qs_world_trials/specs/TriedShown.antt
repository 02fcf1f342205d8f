-- That nodes, logs and channels are as the law of each move asks in each world of runs, and that beside four runs the agreement machine shows the first transaction.
use Rattle.std.specs.Prelude.{◌≡◌, Bool, true, false, ◌&&◌, List, drop, fold, take}
use Rattle.std.specs.Global.{Global}
use Rattle.qs_book_machine.specs.Book.{BookValue}
use Rattle.qs_world.specs.DrivenRuns.{late}
use Rattle.qs_world.specs.Faults.{both}
use Rattle.qs_world.specs.World.{Opening, World, start}
use Rattle.qs_world_agree.specs.World as machine
use Rattle.qs_world_agree.specs.World.{IsOpening}
use Rattle.qs_world_lawful.specs.Tried.{rich}
use Rattle.qs_world_lawful.specs.TriedOpenings.{old}
use Rattle.qs_world_runs.specs.TriedStale.{opens}
use Rattle.qs_world_trials.specs.Broken.{in_later_incarnation, who_knows_later, with_later_managers, with_strange_commits, without_logs, without_outcomes, without_transactions}
use Rattle.qs_world_trials.specs.Runs.{stale}
use Rattle.qs_world_trials.specs.ShownRuns.{GoesWith, Leg, abort_doings, abort_legs, begun_at, both_doings, both_legs, doubt_legs, first_tid, met_nodes, three_legs, three_nodes, two_nodes}
use Rattle.qs_world_trials.specs.ShownTests.{is_shown}
use Rattle.qs_world_trials.specs.SmallRuns.{SmallRun, cut_as_served, in_doubt, opens_as, told_one}
use Rattle.qs_world_trials.specs.SteadyTests.{is_listed, is_steady}
use Rattle.qs_world_trials.specs.Walks.{Doing, after_stages, all_after, all_along, all_in, changed, done}

abbrev pub is_taken_care_of : Opening → BookValue → World → Bool
is_taken_care_of o book world = is_steady o book world && is_listed o book world

-- the machine shows the transaction where it begins, and goes on with the run
pub record IsShownAlong (world : World) (doings : List Doing) (o : machine.Opening) (legs : List Leg) : Type 0 where
  pub opens : IsOpening o
  pub begins : is_shown first_tid (machine.start o) world ≡ true
  pub goes : GoesWith first_tid world doings (machine.start o) legs

abbrev pub begun_in : Global → SmallRun → World
begun_in alloc run = fold done (start (opens_as alloc run)) (take begun_at run.doings)

pub record TriedShown (alloc : Global) : Type 0 where
  pub conflicts : all_in is_taken_care_of (rich alloc) 3 0 600 ≡ true
  pub late_join : all_in is_taken_care_of (late alloc) 2 0 432 ≡ true
  pub stale_record : all_along is_taken_care_of (opens alloc) stale ≡ true
  pub kept : all_after is_taken_care_of (both alloc) 1 true 15 0 150 ≡ true
  pub lost : all_after is_taken_care_of (both alloc) 1 false 15 0 150 ≡ true
  pub old_kept : all_after is_taken_care_of (old alloc) 1 true 15 0 24 ≡ true
  pub both_files : IsShownAlong (after_stages (both alloc) 1 5) both_doings two_nodes both_legs
  pub three : IsShownAlong (begun_in alloc told_one) (drop begun_at told_one.doings) three_nodes three_legs
  pub doubt : IsShownAlong (begun_in alloc in_doubt) (drop begun_at in_doubt.doings) met_nodes doubt_legs
  pub aborted : IsShownAlong (begun_in alloc cut_as_served) (drop begun_at (abort_doings cut_as_served)) met_nodes abort_legs

-- each of both tests fails where it should, for several reasons
pub record FailsShown (alloc : Global) : Type 0 where
  pub sound : all_in (changed is_steady without_transactions) (both alloc) 1 0 200 ≡ false
  pub tidy : all_in (changed is_steady with_later_managers) (both alloc) 1 0 200 ≡ false
  pub crossed : all_in (changed is_steady without_outcomes) (both alloc) 1 0 200 ≡ false
  pub seated : all_in (changed is_steady in_later_incarnation) (both alloc) 1 0 200 ≡ false
  pub known : all_in (changed is_steady who_knows_later) (both alloc) 1 0 200 ≡ false
  pub said : all_in (changed is_steady without_logs) (both alloc) 1 0 200 ≡ false
  pub told : all_in (changed is_listed without_transactions) (both alloc) 1 0 200 ≡ false
  pub listed : all_in (changed is_listed with_strange_commits) (both alloc) 1 0 200 ≡ false
