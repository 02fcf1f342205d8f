use Rattle.qs_world_lawful.proofs.Obeying.{by_begin_came}
use Rattle.qs_world_lawful.proofs.lawful_commands.coming_begin_is_lawful.Goals as goal

pub returns : goal.returns
returns c = by_begin_came
