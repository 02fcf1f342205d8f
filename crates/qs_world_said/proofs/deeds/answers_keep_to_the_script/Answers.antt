use Rattle.qs_world_said.proofs.Answers.{ended_keeps, not_its_keeps, over_keeps, unbegun_keeps, void_keeps}
use Rattle.qs_world_said.proofs.LoanDeeds.{takes_keep}
use Rattle.qs_world_said.proofs.deeds.answers_keep_to_the_script.Goals as goal

pub returns : goal.returns
returns c = record { unbegun = unbegun_keeps; over = over_keeps; not_its = not_its_keeps; void = void_keeps; ended = ended_keeps; takes = takes_keep }
