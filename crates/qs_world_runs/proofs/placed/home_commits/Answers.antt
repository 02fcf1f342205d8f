use Rattle.qs_world_runs.proofs.CommitsAmid.{home_commits, world_shows_field}
use Rattle.qs_world_runs.proofs.placed.home_commits.Goals as goal

pub returns : goal.returns
returns c = record { field = world_shows_field; unanimous = home_commits }
