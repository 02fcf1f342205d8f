use Rattle.qs_world_lawful.proofs.Tellings.{by_tell}
use Rattle.qs_world_lawful.proofs.lawful_outcomes.tell_is_lawful.Goals as goal

pub returns : goal.returns
returns c = by_tell
