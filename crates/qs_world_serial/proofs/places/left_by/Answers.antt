use Rattle.qs_world_serial.proofs.Coming.{tells_as}
use Rattle.qs_world_serial.proofs.Leaving.{left_at, told_at}
use Rattle.qs_world_serial.specs.Behind.{IsMadeOf}
use Rattle.qs_world_serial.specs.Serial.{IsToldBy}
use Rattle.qs_world_serial.proofs.places.left_by.Goals as goal

pub returns : goal.returns
returns g c = record {
  site = c.in-Some.site;
  sites_are = c.in-Some.ensures.items;
  leaves = left_at c.in-Some.site c.into_node-node.result c.into_node-node.ensures g.D.Disk.told g.D.Disk.state c.into_parts-disk.result.0 c.into_inner.result c.into_parts-disk.ensures.disk c.into_inner.ensures
      c.into_parts-disk.ensures.stands c.into_parts-disk.ensures.logged;
  tells = tells_as (IsMadeOf c.opened-opened.result c.into_parts-disk.result.1 c.into_parts-disk.result.2) (IsToldBy c.in-Some.site)
      (told_at c.in-Some.site c.into_node-node.result c.into_node-node.ensures c.opened-opened.result c.into_parts-disk.result.1 c.into_parts-disk.result.2 c.opened-opened.ensures c.into_parts-disk.ensures.journal
      c.into_parts-disk.ensures.trace) c.args.run c.with_told-run.result c.with_told-run.ensures;
}
