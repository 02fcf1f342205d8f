use Rattle.qs_world_refine.proofs.StartGoes.{start_unseen, start_shown, start_opens}
use Rattle.qs_world_refine.proofs.starts.worlds.Goals as goal

pub returns : goal.returns
returns c = record { unseen = start_unseen; shown = start_shown; opens = start_opens }
