use Rattle.std.proofs.Common.{ap, subst}
use Rattle.qs_cell_peers.specs.Links.{CarriesLink}
use Rattle.qs_cell.proofs.cell.NodeCell.carry_packets.Goals as goal

pub returns-clause-carries : goal.returns-clause-carries
returns-clause-carries g c = subst (λ links. CarriesLink c.carry.result links c.carry.new.from c.args.self.now.links c.carry.new.self) (ap (λ cell. cell.links) c.from.view_is)
    (subst (λ links. CarriesLink c.carry.result c.from.inside.links c.carry.new.from links c.carry.new.self) (ap (λ cell. cell.links) c.self.view_is) (record {
      to_same = c.carry.ensures.same.0;
      from_same = c.carry.ensures.same.1;
      to_out = c.carry.ensures.own_out;
      to_into = c.carry.ensures.own_into;
      from_out = c.carry.ensures.its_out;
      from_into = c.carry.ensures.its_into;
      carried = c.carry.ensures.carried;
    }))
