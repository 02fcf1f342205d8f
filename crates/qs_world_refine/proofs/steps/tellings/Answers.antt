use Rattle.qs_world_refine.proofs.ToldStands.{told_away_stands, told_stands}
use Rattle.qs_world_refine.proofs.steps.tellings.Goals as goal

pub returns : goal.returns
returns c = record { told = told_stands; away = told_away_stands }
