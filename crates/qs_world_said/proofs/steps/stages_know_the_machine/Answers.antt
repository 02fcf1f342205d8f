use Rattle.qs_world_said.proofs.Machine.{machine_is_known, room_is_known}
use Rattle.qs_world_said.proofs.steps.stages_know_the_machine.Goals as goal

pub returns : goal.returns
returns c = record { machine = machine_is_known; room = room_is_known }
