use Rattle.qs_world_rooms.proofs.Runs.{each_read}
use Rattle.qs_world_rooms.proofs.rooms.roomy_disks_are_read.Goals as goal

pub returns : goal.returns
returns c = each_read
