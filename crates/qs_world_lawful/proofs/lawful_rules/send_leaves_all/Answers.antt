use Rattle.qs_world_lawful.proofs.Asking.{by_send}
use Rattle.qs_world_lawful.proofs.lawful_rules.send_leaves_all.Goals as goal

pub returns : goal.returns
returns c = by_send
