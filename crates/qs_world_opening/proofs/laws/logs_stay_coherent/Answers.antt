use Rattle.qs_world_opening.proofs.StaysCoherent.{empty_coherent, stay_coherent}
use Rattle.qs_world_opening.proofs.laws.logs_stay_coherent.Goals as goal

pub returns-clause-later : goal.returns-clause-later
returns-clause-later c = stay_coherent

pub returns-clause-empty : goal.returns-clause-empty
returns-clause-empty c = empty_coherent
