use Rattle.qs_world_lawful.proofs.Waiting.{by_wait_on}
use Rattle.qs_world_lawful.proofs.lawful_commands.waiting_command_is_lawful.Goals as goal

pub returns : goal.returns
returns c = λ stamp before work h client small inc. by_wait_on stamp before work h client small (λ command begun tid waits labelled of owned part known unknown. inc command begun tid waits labelled of owned)
