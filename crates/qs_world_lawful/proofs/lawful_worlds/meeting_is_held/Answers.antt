use Rattle.qs_world_lawful.proofs.Meeting.{meets}
use Rattle.qs_world_lawful.proofs.lawful_worlds.meeting_is_held.Goals as goal

pub returns : goal.returns
returns c = record { meets = meets }
