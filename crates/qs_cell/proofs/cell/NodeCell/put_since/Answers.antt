use Rattle.std.proofs.Common.{ap, subst}
use Rattle.qs_cell_peers.proofs.Linked.{put_linked_by}
use Rattle.qs_cell_peers.specs.Links.{StayLinked}
use Rattle.qs_cell.proofs.cell.NodeCell.put_since.Goals as goal

pub returns-in-Some-clause-linked : goal.returns-in-Some-clause-linked
returns-in-Some-clause-linked g c = subst (λ links. StayLinked links c.put_steps.new.self) (ap (λ cell. cell.links) c.self.view_is)
    (put_linked_by c.put_steps.result _ c.self.inside.links c.put_steps.new.self c.put_steps.ensures.put c.put_steps.ensures.some)
