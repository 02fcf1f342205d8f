use Rattle.std.proofs.Common.{subst, List}
use Rattle.qs_book_script.specs.declared.script.FaultLine.{FaultLine}
use Rattle.qs_world_serial.specs.Behind.{AreAllLinks}
use Rattle.qs_world_serial.proofs.serial.seated.Goals as goal

pub returns-clause-links : goal.returns-clause-links
returns-clause-links g c =
    subst (λ (lines : List FaultLine). AreAllLinks lines c.args.nodes c.in_ok-links.links.items) c.as_slice.ensures
    (record { count = c.in_ok-links.ensures.count; own = c.in_ok-links.ensures.own; links = c.in_ok-links.ensures.links })
