use Rattle.qs_world_merge.proofs.Reaches.{each_begins, each_goes_on, each_reached_locally, each_reached_up_to}
use Rattle.qs_world_merge.proofs.reaching.local_runs_go_on.Goals as goal

pub returns : goal.returns
returns c = record { begins = each_begins; goes_on = each_goes_on; up_to = each_reached_up_to; local = each_reached_locally }
