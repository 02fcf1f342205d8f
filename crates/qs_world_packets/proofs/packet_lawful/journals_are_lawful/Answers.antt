use Rattle.qs_world_runs.specs.AlongRun.{AlongRun}
use Rattle.qs_world_runs.proofs.JoinedOver.{each_run_lawful as channels_lawful}
use Rattle.qs_world_runs.proofs.RunsGoOn.{runs_go}
use Rattle.qs_world_packets.proofs.RunsGo.{each_run_lawful}
use Rattle.qs_world_packets.proofs.packet_lawful.journals_are_lawful.Goals as goal

pub returns : goal.returns
returns c = each_run_lawful (channels_lawful AlongRun runs_go)
