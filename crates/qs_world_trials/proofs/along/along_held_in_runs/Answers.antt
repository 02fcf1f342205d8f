use Rattle.qs_world_trials.proofs.TriedAlongRuns.{conflicts_holds, conflicts_lost_holds, counted_holds, counted_kept_holds, counted_lost_holds, kept_holds, late_join_holds, late_kept_holds, late_lost_holds, lost_holds, old_kept_holds, old_lost_holds, same_run_holds, stale_record_holds}
use Rattle.qs_world_trials.proofs.along.along_held_in_runs.Goals as goal

pub returns : goal.returns
returns c = record { shown = λ alloc. record { conflicts = conflicts_holds alloc; late_join = late_join_holds alloc; same_run = same_run_holds alloc; stale_record = stale_record_holds alloc; kept = kept_holds alloc; lost = lost_holds alloc; late_kept = late_kept_holds alloc; late_lost = late_lost_holds alloc; conflicts_lost = conflicts_lost_holds alloc; old_kept = old_kept_holds alloc; old_lost = old_lost_holds alloc; counted = counted_holds alloc; counted_kept = counted_kept_holds alloc; counted_lost = counted_lost_holds alloc } }
