-- That the course of a run, which its script and its entries tell, goes with the world in each world of runs.
use Rattle.std.specs.Prelude.{◌≡◌, true, false}
use Rattle.std.specs.Global.{Global}
use Rattle.qs_world.specs.DrivenRuns.{late, taken}
use Rattle.qs_world.specs.Faults.{both}
use Rattle.qs_world_lawful.specs.Tried.{rich}
use Rattle.qs_world_trials.specs.Broken.{with_fewer_lines, with_moved_clients, with_nothing_issued, without_audit, without_loans, without_quotas, without_serves}
use Rattle.qs_world_trials.specs.CourseTests.{audit_so, is_on_course, left_so, loans_so, made_so, quotas_so, replies_so}
use Rattle.qs_world_trials.specs.SmallRuns.{borrowed_again, in_doubt, opens_as, told_one}
use Rattle.qs_world_trials.specs.Walks.{all_after, all_along, all_in, changed}

pub record TriedCourse (alloc : Global) : Type 0 where
  pub both_files : all_in (is_on_course 1) (both alloc) 1 0 99 ≡ true
  pub late_join : all_in (is_on_course 2) (late alloc) 2 0 250 ≡ true
  pub taken_name : all_in (is_on_course 2) (taken alloc) 2 0 60 ≡ true
  pub conflicts : all_in (is_on_course 3) (rich alloc) 3 0 200 ≡ true
  pub kept : all_after (is_on_course 1) (both alloc) 1 true 15 0 90 ≡ true
  pub lost : all_after (is_on_course 1) (both alloc) 1 false 15 0 90 ≡ true
  pub borrowed : all_along (is_on_course 3) (opens_as alloc borrowed_again) borrowed_again.doings ≡ true
  pub told : all_along (is_on_course 3) (opens_as alloc told_one) told_one.doings ≡ true
  pub doubt : all_along (is_on_course 3) (opens_as alloc in_doubt) in_doubt.doings ≡ true

-- each part of it fails where it should
pub record FailsCourse (alloc : Global) : Type 0 where
  pub lines : all_in (changed (left_so 1) with_fewer_lines) (both alloc) 1 0 99 ≡ false
  pub seats : all_in (changed (left_so 1) with_moved_clients) (both alloc) 1 0 99 ≡ false
  pub made : all_in (changed (made_so 1) with_nothing_issued) (both alloc) 1 0 99 ≡ false
  pub loans : all_in (changed (loans_so 2) without_loans) (late alloc) 2 0 150 ≡ false
  pub replies : all_in (changed (replies_so 1) without_serves) (both alloc) 1 0 99 ≡ false
  pub audit : all_in (changed (audit_so 3) without_audit) (rich alloc) 3 0 20 ≡ false
  pub quotas : all_in (changed (quotas_so 1) without_quotas) (both alloc) 1 0 20 ≡ false
