use Rattle.qs_world_agree_ends.proofs.StillLaws.{engaged_runs, home_is_ready}
use Rattle.qs_world_agree_ends.proofs.laws.votes_come_to_an_end.Goals as goal

pub returns : goal.returns
returns c = record { runs = engaged_runs; ready = home_is_ready }
