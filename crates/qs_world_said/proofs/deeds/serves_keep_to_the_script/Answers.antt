use Rattle.qs_world_said.proofs.Serves.{replies_keep, serves_away_keep, serves_keep}
use Rattle.qs_world_said.proofs.deeds.serves_keep_to_the_script.Goals as goal

pub returns : goal.returns
returns c = record { here = serves_keep; away = serves_away_keep; replies = replies_keep }
