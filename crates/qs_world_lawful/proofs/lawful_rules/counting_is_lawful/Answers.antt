use Rattle.qs_world_lawful.proofs.Counting.{by_closer}
use Rattle.qs_world_lawful.proofs.lawful_rules.counting_is_lawful.Goals as goal

pub returns : goal.returns
returns c = by_closer
