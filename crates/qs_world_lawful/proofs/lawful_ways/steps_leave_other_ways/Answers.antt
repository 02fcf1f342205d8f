use Rattle.qs_world_lawful.proofs.OtherScripts.{scripts_left}
use Rattle.qs_world_lawful.proofs.StepWays.{step_other_ways}
use Rattle.qs_world_lawful.proofs.lawful_ways.steps_leave_other_ways.Goals as goal

pub returns : goal.returns
returns c = record { ways = step_other_ways; scripts = scripts_left }
