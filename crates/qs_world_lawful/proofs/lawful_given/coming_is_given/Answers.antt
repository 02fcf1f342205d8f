use Rattle.qs_world_lawful.proofs.GivenComing.{may_come}
use Rattle.qs_world_lawful.proofs.GivenWaiting.{may_command, may_wait}
use Rattle.qs_world_lawful.proofs.lawful_given.coming_is_given.Goals as goal

pub returns : goal.returns
returns c = record { waits = may_wait; commands = may_command; messages = may_come }
