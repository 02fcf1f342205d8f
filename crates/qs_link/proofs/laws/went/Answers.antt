use Rattle.qs_link.proofs.Feeding.{went}
use Rattle.qs_link.proofs.laws.went.Goals as goal

pub returns : goal.returns
returns g c = went
