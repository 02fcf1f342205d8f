use Rattle.qs_world_lawful.proofs.AskCame.{by_ask_came}
use Rattle.qs_world_lawful.proofs.lawful_steps.asking_on_is_lawful.Goals as goal

pub returns : goal.returns
returns c = by_ask_came
