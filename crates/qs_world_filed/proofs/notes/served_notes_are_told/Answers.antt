use Rattle.qs_world_filed.proofs.NotesTold.{each_run_tells}
use Rattle.qs_world_filed.proofs.notes.served_notes_are_told.Goals as goal

pub returns : goal.returns
returns c = each_run_tells
