use Rattle.qs_world_refine.proofs.EveryRunShown.{every_run_tells, every_run_tells_learners}
use Rattle.qs_world_refine.proofs.NodesAgree.{learners_stand, logs_stand}
use Rattle.qs_world_refine.proofs.laws.nobody_forgotten.Goals as goal

pub returns : goal.returns
returns c = record { logs = logs_stand; runs = every_run_tells; learners = learners_stand; learners_of_runs = every_run_tells_learners }
