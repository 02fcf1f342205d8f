use Rattle.qs_world_runs.proofs.RepliesEntries.{given_stays, served_stays}
use Rattle.qs_world_runs.proofs.RepliesServed.{serves_once}
use Rattle.qs_world_runs.proofs.replies.numbers_stay.Goals as goal

pub returns : goal.returns
returns c = record { given = given_stays; served = served_stays; once = serves_once }
