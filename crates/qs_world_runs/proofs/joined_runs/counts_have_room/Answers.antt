use Rattle.qs_world_runs.proofs.Words.{PlacesAt}
use Rattle.qs_world_runs.proofs.JoinedGiven.{counts_have_room}
use Rattle.qs_world_runs.proofs.LaterOwned.{asked_of_run, owned_of_run}
use Rattle.qs_world_runs.proofs.RoomsMoves.{rooms_moved, rooms_start}
use Rattle.qs_world_runs.proofs.joined_runs.counts_have_room.Goals as goal

pub returns : goal.returns
returns c = record { owned = owned_of_run; asked = asked_of_run; opens = rooms_start; moves = λ o world move may r. rooms_moved o world r move may; turns = λ o world n stamp free source event j makes. counts_have_room PlacesAt o world j n stamp free source event makes }
