use Rattle.qs_world_lawful.proofs.Silent.{by_label}
use Rattle.qs_world_lawful.proofs.lawful_rules.label_leaves_all.Goals as goal

pub returns : goal.returns
returns c = by_label
