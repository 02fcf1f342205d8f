use Rattle.qs_world_refine.proofs.EveryRunShown.{every_run_shown, every_run_goes}
use Rattle.qs_world_refine.proofs.LogsGrow.{every_log_grows}
use Rattle.qs_world_refine.proofs.WholeLogs.{whole_taken}
use Rattle.qs_world_refine.proofs.laws.every_run.Goals as goal

pub returns : goal.returns
returns c = record { whole = whole_taken; shown = every_run_shown; goes = every_run_goes; grows = every_log_grows }
