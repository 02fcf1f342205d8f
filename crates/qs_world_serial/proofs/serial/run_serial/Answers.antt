use Rattle.std.proofs.Common.{length, refl}
use Rattle.qs_world_serial.proofs.Running.{run_from}
use Rattle.qs_world_serial.specs.declared.places.Course.{Course}
use Rattle.qs_world_serial.proofs.serial.run_serial.Goals as goal

pub returns : goal.returns
returns g c =
    let course : Course = record { alloc = c.args.alloc; seed = c.args.seed; nodes = length c.args.disks.now } in
    run_from g.D.Disk.told g.D.Disk.state g.D.Disk.fault_count g.D.Disk.byte_count course c.args.script.now c.args.disks.now c.over_places-run.new.places refl c.requires.few c.over_places-run.result c.in-Ok.seating.sites.items c.over_places-run.new.seating.sites.items
    c.in-Ok.ensures.none c.over_places-run.ensures
