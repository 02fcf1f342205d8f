use Rattle.qs_world_filed.proofs.Kept.{runs_noted}
use Rattle.qs_world_filed.proofs.runs.runs_note_votes.Goals as goal

pub returns : goal.returns
returns c = runs_noted
