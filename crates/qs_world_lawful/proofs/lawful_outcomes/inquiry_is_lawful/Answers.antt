use Rattle.qs_world_lawful.proofs.Tellings.{by_inquiry}
use Rattle.qs_world_lawful.proofs.lawful_outcomes.inquiry_is_lawful.Goals as goal

pub returns : goal.returns
returns c = by_inquiry
