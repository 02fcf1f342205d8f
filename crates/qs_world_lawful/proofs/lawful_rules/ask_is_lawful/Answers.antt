use Rattle.qs_world_lawful.proofs.Asking.{by_ask}
use Rattle.qs_world_lawful.proofs.lawful_rules.ask_is_lawful.Goals as goal

pub returns : goal.returns
returns c = by_ask
