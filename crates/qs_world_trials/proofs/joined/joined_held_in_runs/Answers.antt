use Rattle.qs_world_trials.proofs.TriedJoinedRuns.{conflicts_holds, conflicts_kept_holds, kept_holds, late_join_holds, lawful_holds, lost_holds, old_kept_holds, opens_conflicts_holds, opens_sole_holds, opens_stale_holds, placed_holds, placed_late_holds, stale_record_holds}
use Rattle.qs_world_trials.proofs.joined.joined_held_in_runs.Goals as goal

pub returns : goal.returns
returns c = record { shown = λ alloc. record { opens_conflicts = opens_conflicts_holds alloc; opens_sole = opens_sole_holds alloc; opens_stale = opens_stale_holds alloc; lawful = lawful_holds alloc; conflicts = conflicts_holds alloc; late_join = late_join_holds alloc; stale_record = stale_record_holds alloc; kept = kept_holds alloc; lost = lost_holds alloc; conflicts_kept = conflicts_kept_holds alloc; old_kept = old_kept_holds alloc; placed = placed_holds alloc; placed_late = placed_late_holds alloc } }
