use Rattle.qs_world_lawful.proofs.Answers.{by_answer}
use Rattle.qs_world_lawful.proofs.lawful_rules.answer_is_lawful.Goals as goal

pub returns : goal.returns
returns c = by_answer
