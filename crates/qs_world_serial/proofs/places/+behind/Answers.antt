use Rattle.std.proofs.Common.{◌≡◌, ◌∷◌, ◌∙◌, ap, arith, length, rules, subst, sym}
use Rattle.qs_world_serial.proofs.Coming.{came_as, came_first, came_not}
use Rattle.qs_world_serial.specs.Behind.{CameOf, HasNotJoined}
use Rattle.qs_world_serial.specs.declared.places.Rest.{Rest}
use Rattle.qs_world_serial.specs.declared.places.Seating.{Seating}
use Rattle.qs_world_serial.specs.declared.serial.SerialRun.{SerialRun}
use Rattle.qs_world_serial.proofs.places.+behind.Goals as goal

pub over_disk-returns-in-Err-clause-came : goal.over_disk-returns-in-Err-clause-came
over_disk-returns-in-Err-clause-came g t c =
    let here : c.len.result ≡ length c.args.rest.now.seating.sites.items = first_of (search rules, omega arith) in
    let after_is : c.in-Err.field-0.disk.disk ≡ c.into_inner.result = sym c.into_inner.ensures in
    subst (λ (run : SerialRun). CameOf g.D.Disk.told g.D.Disk.state g.D.Disk.fault_count g.D.Disk.byte_count c.args.rest.now.course c.args.rest.now.script.now run c.args.rest.now.seating.sites.items c.join.new.seating.sites.items (c.args.disk ∷ c.args.rest.now.places.now)
    (c.into_inner.result ∷ c.args.rest.now.places.now)) (sym c.not_begun.ensures)
    (came_not g.D.Disk.told g.D.Disk.state g.D.Disk.fault_count g.D.Disk.byte_count c.args.rest.now.course c.args.rest.now.script.now (record { 0 = c.len.result }) c.in-Err.field-0.why c.args.rest.now.seating.sites.items c.join.new.seating.sites.items c.args.disk c.into_inner.result
    c.args.rest.now.places.now
    (subst (λ (d : g.row.D.Denot). HasNotJoined g.D.Disk.told g.D.Disk.state g.D.Disk.fault_count g.D.Disk.byte_count c.in-Err.field-0.why c.args.disk d) after_is c.in-Err.ensures.not_joined)
    c.in-Err.ensures.kept here)

pub over_disk-returns-in-Ok-clause-came : goal.over_disk-returns-in-Ok-clause-came
over_disk-returns-in-Ok-clause-came g t c =
    came_first g.D.Disk.told g.D.Disk.state g.D.Disk.fault_count g.D.Disk.byte_count c.args.rest.now.course c.args.rest.now.script.now c.over_places-run.result c.left_by-disk.result.1 c.args.rest.now.seating.sites.items c.join.new.seating.sites.items
    c.over_places-run.new.seating.sites.items c.left_by-disk.new.seating.sites.items c.args.rest.now.seating.links.items c.join.new.seating.links.items c.args.disk c.left_by-disk.result.0 c.args.rest.now.places.now
    c.over_places-run.new.places c.in-Ok.ensures.joined c.over_places-run.ensures c.left_by-disk.ensures

pub over_place-returns : goal.over_place-returns
over_place-returns g t c =
    let rest_is : c.rest-3-1.given.0 ≡ c.replace_with-rest.result.now = c.rest-3-1.given.1 (sym c.replace_with-rest.ensures.0) in
    let places_are : c.places-1.given.0 ≡ c.replace_with-rest.result.now.places.now =
    c.places-1.given.1.0 (sym (ap (λ (r : Rest g.row.D.Denot). r.places.ghost_name) rest_is ∙ c.replace_with-rest.ensures.1.0)) ∙ ap (λ (r : Rest g.row.D.Denot). r.places.now) rest_is in
    came_as g.D.Disk.told g.D.Disk.state g.D.Disk.fault_count g.D.Disk.byte_count c.args.course c.args.script.now c.replace_with-rest.result.now.run c.rest-3-1.given.0.run c.replace-own.result.sites.items c.args.seating.now.sites.items
    c.replace_with-rest.result.now.seating.sites.items c.replace-none.new.dest.sites.items c.args.place.now c.replace_with-rest.new.dest c.args.places.now c.replace_with-rest.result.now.places.now c.places-1.given.0
    (ap (λ (r : Rest g.row.D.Denot). r.run) rest_is) (ap (λ (s : Seating g.row.D.Denot). s.sites.items) (sym c.replace-own.ensures.value))
    (ap (λ (s : Seating g.row.D.Denot). s.sites.items) c.replace-none.ensures.after ∙ ap (λ (r : Rest g.row.D.Denot). r.seating.sites.items) rest_is) places_are
    c.replace_with-rest.ensures.1.1
