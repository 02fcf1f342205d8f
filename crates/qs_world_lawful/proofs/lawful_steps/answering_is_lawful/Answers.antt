use Rattle.qs_world_lawful.proofs.CommandCame.{by_answer_waiting}
use Rattle.qs_world_lawful.proofs.lawful_steps.answering_is_lawful.Goals as goal

pub returns : goal.returns
returns c = by_answer_waiting
