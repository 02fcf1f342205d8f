use Rattle.qs_world_lawful.proofs.Bare.{by_log}
use Rattle.qs_world_lawful.proofs.lawful_rules.log_leaves_all.Goals as goal

pub returns : goal.returns
returns c = by_log
