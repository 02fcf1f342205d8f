use Rattle.qs_world_lawful.proofs.Settled.{by_settle_tid}
use Rattle.qs_world_lawful.proofs.lawful_steps.settling_is_lawful.Goals as goal

pub returns : goal.returns
returns c = λ stamp before work tid. by_settle_tid stamp before tid work
