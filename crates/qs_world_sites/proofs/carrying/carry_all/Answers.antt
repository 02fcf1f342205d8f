use Rattle.std.proofs.Common.{subst, sym}
use Rattle.std.specs.Prelude.{OnOk}
use Rattle.qs_world_sites.proofs.Meeting.{all_met, same_fifo}
use Rattle.qs_world_sites.proofs.Staying.{cell_on, each_is, each_on, linked_each}
use Rattle.qs_world_sites.specs.Sites.{AreCarried, HasSameCell, StaysLinked}
use Rattle.qs_world_sites.proofs.carrying.carry_all.Goals as goal

pub carry_links-requires : goal.carry_links-requires
carry_links-requires g c = linked_each c.args.sites.now c.carry_lanes-lanes.new.sites c.requires
    (each_is HasSameCell StaysLinked (λ a b same. same.stays) c.args.sites.now c.carry_lanes-lanes.new.sites c.carry_lanes-lanes.ensures.cells)

pub returns-clause-carries : goal.returns-clause-carries
returns-clause-carries g c = subst (λ came. OnOk came (AreCarried c.args.sites.now c.carry_links.new.sites)) (sym c.and.ensures)
    (all_met c.carry_lanes-lanes.result c.carry_links.result c.args.sites.now c.carry_lanes-lanes.new.sites c.carry_links.new.sites c.carry_lanes-lanes.ensures.carries c.carry_links.ensures.carries)

pub returns-clause-joined : goal.returns-clause-joined
returns-clause-joined g c = same_fifo c.args.sites.now c.carry_lanes-lanes.new.sites c.carry_lanes-lanes.ensures.links c.carry_links.ensures.joined

pub returns-clause-cells : goal.returns-clause-cells
returns-clause-cells g c = each_on HasSameCell HasSameCell HasSameCell cell_on c.args.sites.now c.carry_lanes-lanes.new.sites c.carry_links.new.sites c.carry_lanes-lanes.ensures.cells c.carry_links.ensures.cells
