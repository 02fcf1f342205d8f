use Rattle.qs_world_refine.proofs.Asking.{issue_local}
use Rattle.qs_world_refine.proofs.EventGoes.{issue, engage, cover}
use Rattle.qs_world_refine.proofs.IssuingUnmet.{issue_unmet}
use Rattle.qs_world_refine.proofs.Taking.{join}
use Rattle.qs_world_refine.proofs.events.requests.Goals as goal

pub returns : goal.returns
returns c = record { issue = issue; issue_local = issue_local; issue_unmet = issue_unmet; engage = engage; join = join; cover = cover }
