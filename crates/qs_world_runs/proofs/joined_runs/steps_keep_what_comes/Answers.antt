use Rattle.qs_world_runs.proofs.Words.{PlacesAt}
use Rattle.qs_world_runs.proofs.ClientsGo.{steps_aside, steps_clients, steps_owned, steps_scripts}
use Rattle.qs_world_runs.proofs.JoinedWays.{steps_ways}
use Rattle.qs_world_runs.proofs.OwingSteps.{steps_owing}
use Rattle.qs_world_runs.proofs.joined_runs.steps_keep_what_comes.Goals as goal

pub returns : goal.returns
returns c = record { owned = steps_owned PlacesAt; aside = steps_aside PlacesAt; clients = steps_clients PlacesAt; scripts = steps_scripts PlacesAt; ways = steps_ways PlacesAt; owing = steps_owing PlacesAt }
