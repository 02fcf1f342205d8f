-- What goes along every run, tried in each world of whole runs: with a late loan, all servers and conflicts, old logs, a stale record, and a node alone; where a node stops,
-- or is cut off in a step with its batch kept or lost, while it is down, and after its restart.
use Rattle.std.specs.Prelude.{◌≡◌, Bool, true, false, ◌&&◌, fold}
use Rattle.std.specs.Global.{Global}
use Rattle.qs_book_machine.specs.Book.{BookValue}
use Rattle.qs_world.specs.DrivenRuns.{late, taken}
use Rattle.qs_world.specs.Faults.{both}
use Rattle.qs_world.specs.World.{Opening, World, start}
use Rattle.qs_world_lawful.specs.Tried.{rich}
use Rattle.qs_world_lawful.specs.TriedOpenings.{old}
use Rattle.qs_world_runs.specs.TriedStale.{after, opens}
use Rattle.qs_world_trials.specs.Broken.{who_knows_nobody, with_more_covers, without_history, without_loans, without_logs, without_numbers, without_serves, without_transactions}
use Rattle.qs_world_trials.specs.CountTests.{is_counted}
use Rattle.qs_world_trials.specs.MachineTests.{is_awaited}
use Rattle.qs_world_trials.specs.RecordTests.{is_covered, is_recorded, is_replied}
use Rattle.qs_world_trials.specs.Runs.{sole, stale}
use Rattle.qs_world_trials.specs.Walks.{all_after, all_along, all_in, changed, done}

-- each field but the counts, which are of a node alone
abbrev pub is_along : Opening → BookValue → World → Bool
is_along o book world = (is_recorded o book world && is_covered o book world) && (is_replied o book world && is_awaited o book world)

pub record TriedAlong (alloc : Global) : Type 0 where
  pub conflicts : all_in is_along (rich alloc) 3 0 600 ≡ true
  pub late_join : all_in is_along (late alloc) 2 0 432 ≡ true
  pub same_run : (fold done (start (opens alloc)) stale).journal ≡ (after alloc).journal
  pub stale_record : all_along is_along (opens alloc) stale ≡ true
  pub kept : all_after is_along (both alloc) 1 true 15 0 150 ≡ true
  pub lost : all_after is_along (both alloc) 1 false 15 0 150 ≡ true
  pub late_kept : all_after is_along (late alloc) 2 true 30 220 120 ≡ true
  pub late_lost : all_after is_along (late alloc) 2 false 30 220 120 ≡ true
  pub conflicts_lost : all_after is_along (rich alloc) 3 false 25 200 40 ≡ true
  pub old_kept : all_after is_along (old alloc) 1 true 15 0 40 ≡ true
  pub old_lost : all_after is_along (old alloc) 1 false 15 0 40 ≡ true
  pub counted : all_in is_counted (taken alloc) 2 0 60 ≡ true
  pub counted_kept : all_after is_counted (sole alloc) 2 true 12 0 50 ≡ true
  pub counted_lost : all_after is_counted (sole alloc) 2 false 12 0 50 ≡ true

-- each of them fails where it should
pub record FailsAlong (alloc : Global) : Type 0 where
  pub recorded : all_in (changed is_recorded without_logs) (both alloc) 1 0 100 ≡ false
  pub covered : all_in (changed is_covered with_more_covers) (old alloc) 1 0 100 ≡ false
  pub replied : all_in (changed is_replied without_history) (rich alloc) 3 0 100 ≡ false
  pub answered : all_in (changed is_replied without_serves) (rich alloc) 3 0 100 ≡ false
  pub fresh : all_in (changed is_replied who_knows_nobody) (rich alloc) 3 0 100 ≡ false
  pub lent : all_in (changed is_awaited without_loans) (late alloc) 2 0 432 ≡ false
  pub awaited : all_in (changed is_awaited without_transactions) (rich alloc) 3 0 100 ≡ false
  pub counted : all_in (changed is_counted without_numbers) (sole alloc) 2 0 100 ≡ false
