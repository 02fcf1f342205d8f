use Rattle.qs_world_lawful.proofs.AsideWhole.{keeps_others}
use Rattle.qs_world_lawful.proofs.StepOthers.{step_others}
use Rattle.qs_world_lawful.proofs.lawful_histories.steps_leave_other_nodes.Goals as goal

pub returns : goal.returns
returns c = record { entries = keeps_others; world = step_others }
