use Rattle.qs_world_refine.proofs.LogClosing.{end_logged, abort_logged}
use Rattle.qs_world_refine.proofs.events.closings.Goals as goal

pub returns : goal.returns
returns c = record { end = end_logged; aborted = abort_logged }
