use Rattle.qs_link.proofs.Going.{begins, goes_on, is_carried}
use Rattle.qs_link.proofs.laws.taken_is_put.Goals as goal

pub returns : goal.returns
returns c = record { begins = begins; goes_on = goes_on; carried = is_carried }
