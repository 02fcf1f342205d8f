use Rattle.qs_world_lawful.proofs.WholeStep.{by_happen}
use Rattle.qs_world_lawful.proofs.lawful_steps.event_is_lawful.Goals as goal

pub returns : goal.returns
returns c = λ stamp before work h event. by_happen stamp before event work h
