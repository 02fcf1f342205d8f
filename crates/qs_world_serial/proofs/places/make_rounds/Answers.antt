use Rattle.std.proofs.Common.{rules, subst, sym, [], List}
use Rattle.std.specs.Prelude.{Ok}
use Rattle.qs_world_rounds.specs.Rounds.{Cast}
use Rattle.qs_world_serial.proofs.Coming.{came_rounds}
use Rattle.qs_world_serial.proofs.Linking.{all_begun, are_linked, none_long}
use Rattle.qs_world_serial.specs.Behind.{HasRunBehind}
use Rattle.qs_world_serial.specs.declared.serial.SiteTold.{SiteTold}
use Rattle.qs_world_sites.specs.Sites.{AreLinked}
use Rattle.qs_world_serial.proofs.places.make_rounds.Goals as goal

pub new-sites-requires : goal.new-sites-requires
new-sites-requires g c =
    subst (λ (sites : List (Cast g.row.D.Denot)). AreLinked sites) (search rules)
    (are_linked c.args.script.now.faults c.args.course.nodes c.args.seating.now.sites.items
    (all_begun c.args.script.now.faults c.args.course.nodes c.args.seating.now.sites.items c.args.seating.now.links.items c.requires.links (none_long c.args.seating.now.links.items c.requires.all)))

pub returns : goal.returns
returns g c =
    subst (λ (tells : List SiteTold). HasRunBehind g.D.Disk.told g.D.Disk.state g.D.Disk.fault_count g.D.Disk.byte_count c.args.course c.args.script.now c.rounds_of-ending.result (Ok tells) c.args.seating.now.sites.items c.replace-none.new.dest.items [] []) (sym c.new-3.ensures)
    (came_rounds g.D.Disk.told g.D.Disk.state g.D.Disk.fault_count g.D.Disk.byte_count c.args.course c.args.script.now c.rounds_of-ending.result c.args.seating.now.sites.items c.replace-none.new.dest.items c.new-sites.result c.rounds_of-ending.new.sites (search rules) (search rules)
    (cc (c.new-sites.ensures, c.replace-turns.ensures.value, c.requires.turns))
    (all_begun c.args.script.now.faults c.args.course.nodes c.args.seating.now.sites.items c.args.seating.now.links.items c.requires.links (none_long c.args.seating.now.links.items c.requires.all))
    (record {
      ends = c.rounds_of-ending.ensures.ending;
      cut = c.rounds_of-ending.ensures.cut;
      refused = c.rounds_of-ending.ensures.refused;
      damaged = c.rounds_of-ending.ensures.damaged;
      stays = c.rounds_of-ending.ensures.stays;
    }))
