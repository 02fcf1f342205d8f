use Rattle.qs_world_lawful.proofs.Tellings.{by_refusal}
use Rattle.qs_world_lawful.proofs.lawful_outcomes.refusal_is_lawful.Goals as goal

pub returns : goal.returns
returns c = by_refusal
