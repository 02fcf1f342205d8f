-- That the course of a run goes with its world, each by evaluation.
use Rattle.std.proofs.Common.{◌≡◌, true, false, refl}
use Rattle.std.specs.Fmt.{digits}
use Rattle.std.specs.Global.{Global}
use Rattle.qs_engage.specs.Nodes.{all_nodes}
use Rattle.qs_world_lawful.specs.Tried.{rich}
use Rattle.qs_tm.specs.Members.{all_servers}
use Rattle.qs_world_trials.specs.Broken.{with_fewer_lines, with_moved_clients, with_nothing_issued, without_audit, without_loans, without_quotas, without_serves}
use Rattle.qs_world_trials.specs.CourseTests.{audit_so, is_on_course, left_so, loans_so, made_so, quotas_so, replies_so}
use Rattle.qs_world_trials.specs.SmallRuns.{borrowed_again, in_doubt, opens_as, told_one}
use Rattle.qs_world_trials.specs.Walks.{all_after, all_along, all_in, changed}
use Rattle.qs_world.specs.DrivenRuns.{late, taken}
use Rattle.qs_world.specs.Faults.{both}

pub both_files_goes : (alloc : Global) → all_in (is_on_course 1) (both alloc) 1 0 99 ≡ true
unfolding all_nodes all_servers digits
both_files_goes alloc = refl

pub late_join_goes : (alloc : Global) → all_in (is_on_course 2) (late alloc) 2 0 250 ≡ true
unfolding all_nodes all_servers digits
late_join_goes alloc = refl

pub taken_name_goes : (alloc : Global) → all_in (is_on_course 2) (taken alloc) 2 0 60 ≡ true
unfolding all_nodes all_servers digits
taken_name_goes alloc = refl

pub conflicts_goes : (alloc : Global) → all_in (is_on_course 3) (rich alloc) 3 0 200 ≡ true
unfolding all_nodes all_servers digits
conflicts_goes alloc = refl

pub kept_goes : (alloc : Global) → all_after (is_on_course 1) (both alloc) 1 true 15 0 90 ≡ true
unfolding all_nodes all_servers digits
kept_goes alloc = refl

pub lost_goes : (alloc : Global) → all_after (is_on_course 1) (both alloc) 1 false 15 0 90 ≡ true
unfolding all_nodes all_servers digits
lost_goes alloc = refl

pub borrowed_goes : (alloc : Global) → all_along (is_on_course 3) (opens_as alloc borrowed_again) borrowed_again.doings ≡ true
unfolding all_nodes all_servers digits
borrowed_goes alloc = refl

pub told_goes : (alloc : Global) → all_along (is_on_course 3) (opens_as alloc told_one) told_one.doings ≡ true
unfolding all_nodes all_servers digits
told_goes alloc = refl

pub doubt_goes : (alloc : Global) → all_along (is_on_course 3) (opens_as alloc in_doubt) in_doubt.doings ≡ true
unfolding all_nodes all_servers digits
doubt_goes alloc = refl

pub lines_fails : (alloc : Global) → all_in (changed (left_so 1) with_fewer_lines) (both alloc) 1 0 99 ≡ false
unfolding all_nodes all_servers digits
lines_fails alloc = refl

pub seats_fails : (alloc : Global) → all_in (changed (left_so 1) with_moved_clients) (both alloc) 1 0 99 ≡ false
unfolding all_nodes all_servers digits
seats_fails alloc = refl

pub made_fails : (alloc : Global) → all_in (changed (made_so 1) with_nothing_issued) (both alloc) 1 0 99 ≡ false
unfolding all_nodes all_servers digits
made_fails alloc = refl

pub loans_fails : (alloc : Global) → all_in (changed (loans_so 2) without_loans) (late alloc) 2 0 150 ≡ false
unfolding all_nodes all_servers digits
loans_fails alloc = refl

pub replies_fails : (alloc : Global) → all_in (changed (replies_so 1) without_serves) (both alloc) 1 0 99 ≡ false
unfolding all_nodes all_servers digits
replies_fails alloc = refl

pub audit_fails : (alloc : Global) → all_in (changed (audit_so 3) without_audit) (rich alloc) 3 0 20 ≡ false
unfolding all_nodes all_servers digits
audit_fails alloc = refl

pub quotas_fails : (alloc : Global) → all_in (changed (quotas_so 1) without_quotas) (both alloc) 1 0 20 ≡ false
unfolding all_nodes all_servers digits
quotas_fails alloc = refl
