use Rattle.qs_world_refine.proofs.StepEdges.{step_begins, step_ends}
use Rattle.qs_world_refine.proofs.rules.steps.Goals as goal

pub returns : goal.returns
returns c = record { begins = step_begins; ends = step_ends }
