use Rattle.qs_world_lawful.proofs.AsideBesides.{keeps_others_beside}
use Rattle.qs_world_lawful.proofs.AsideIssued.{issued_held}
use Rattle.qs_world_lawful.proofs.lawful_histories.steps_leave_what_stands_beside.Goals as goal

pub returns : goal.returns
returns c = record { leaves = keeps_others_beside; issued = issued_held }
