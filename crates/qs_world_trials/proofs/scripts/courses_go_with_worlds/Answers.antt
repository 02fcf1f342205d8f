use Rattle.qs_world_trials.proofs.TriedCourseRuns.{borrowed_goes, both_files_goes, conflicts_goes, doubt_goes, kept_goes, late_join_goes, lost_goes, taken_name_goes, told_goes}
use Rattle.qs_world_trials.proofs.scripts.courses_go_with_worlds.Goals as goal

pub returns : goal.returns
returns c = record { shown = λ alloc. record { both_files = both_files_goes alloc; late_join = late_join_goes alloc; taken_name = taken_name_goes alloc; conflicts = conflicts_goes alloc; kept = kept_goes alloc; lost = lost_goes alloc; borrowed = borrowed_goes alloc; told = told_goes alloc; doubt = doubt_goes alloc } }
