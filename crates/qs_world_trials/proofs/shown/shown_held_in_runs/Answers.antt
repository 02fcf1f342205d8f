use Rattle.qs_world_trials.proofs.ShownAbort.{aborted_holds}
use Rattle.qs_world_trials.proofs.ShownBoth.{both_files_holds}
use Rattle.qs_world_trials.proofs.ShownDoubt.{doubt_holds}
use Rattle.qs_world_trials.proofs.ShownThree.{three_holds}
use Rattle.qs_world_trials.proofs.TriedShownRuns.{conflicts_holds, kept_holds, late_join_holds, lost_holds, old_kept_holds, stale_record_holds}
use Rattle.qs_world_trials.proofs.shown.shown_held_in_runs.Goals as goal

pub returns : goal.returns
returns c = record { shown = λ alloc. record { conflicts = conflicts_holds alloc; late_join = late_join_holds alloc; stale_record = stale_record_holds alloc; kept = kept_holds alloc; lost = lost_holds alloc; old_kept = old_kept_holds alloc; both_files = both_files_holds alloc; three = three_holds alloc; doubt = doubt_holds alloc; aborted = aborted_holds alloc } }
