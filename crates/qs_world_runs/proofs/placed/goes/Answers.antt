use Rattle.qs_world_runs.proofs.CommandsGo.{command_goes, wait_goes}
use Rattle.qs_world_runs.proofs.PlacesGo.{issue_goes}
use Rattle.qs_world_runs.proofs.ServesGo.{serve_all_goes}
use Rattle.qs_world_runs.proofs.StepsWhole.{step_places}
use Rattle.qs_world_runs.proofs.SettlesGo.{settle_goes}
use Rattle.qs_world_runs.proofs.placed.goes.Goals as goal

pub returns : goal.returns
returns c = record { issues = issue_goes; settles = settle_goes; commands = command_goes; waits = wait_goes; serves = serve_all_goes; whole = step_places }
