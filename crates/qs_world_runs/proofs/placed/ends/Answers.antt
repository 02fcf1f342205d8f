use Rattle.qs_world_runs.proofs.FieldBegins.{step_begins}
use Rattle.qs_world_runs.proofs.FieldEnds.{step_ends}
use Rattle.qs_world_runs.proofs.NoticeComes.{notice_comes}
use Rattle.qs_world_runs.proofs.PlacedComes.{message_comes, request_comes}
use Rattle.qs_world_runs.proofs.placed.ends.Goals as goal

pub returns : goal.returns
returns c = record { begins = step_begins; ends = step_ends; comes = message_comes; requests = request_comes; notices = notice_comes }
