use Rattle.qs_world_rooms.proofs.RunsBegin.{each_run_begins_new, each_run_is_named}
use Rattle.qs_world_rooms.proofs.packets.packet_runs_leave_room.Goals as goal

pub returns : goal.returns
returns c = record { begins = each_run_begins_new; named = each_run_is_named }
