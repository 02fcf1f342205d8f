use Rattle.std.proofs.Common.{◌≡◌, ap, arith, length, rules, subst, sym, ℕ}
use Rattle.qs_base.specs.declared.identifiers.NodeNo.{NodeNo}
use Rattle.qs_disk.specs.Fuse.{FusedValue}
use Rattle.qs_world_rounds.specs.Seats.{AreLinksOf}
use Rattle.qs_world_serial.proofs.Joining.{joined_at, not_joined_at}
use Rattle.qs_world_serial.proofs.Linking.{first_removed, next_own}
use Rattle.qs_world_serial.proofs.places.join.Goals as goal

pub start_at-requires-clause-links : goal.start_at-requires-clause-links
start_at-requires-clause-links g c =
    let here : c.len.result ≡ length c.args.seating.now.sites.items = first_of (search rules, omega arith) in
    subst (λ (n : ℕ). AreLinksOf c.args.course.nodes (record { 0 = n }) c.remove-own.result) (sym here)
    (next_own c.args.script.now.faults c.args.course.nodes c.args.seating.now.sites.items c.args.seating.now.links.items c.remove-own.new.self.items c.remove-own.result c.requires.links
    (first_removed c.args.seating.now.links.items c.remove-own.new.self.items c.remove-own.result c.requires.some c.remove-own.ensures.value c.remove-own.ensures.items))

pub returns-in-Ok-clause-joined : goal.returns-in-Ok-clause-joined
returns-in-Ok-clause-joined g c =
    let here : c.len.result ≡ length c.args.seating.now.sites.items = first_of (search rules, omega arith) in
    joined_at g.D.Disk.told g.D.Disk.state g.D.Disk.fault_count g.D.Disk.byte_count c.new.result.disk c.args.disk (ap (λ (f : FusedValue g.row.D.Denot). f.disk) c.new.ensures) c.args.course c.args.script.now c.args.seating.now.sites.items c.push_reserved.new.self.items
    c.args.seating.now.links.items c.remove-own.new.self.items c.remove-own.result (record { 0 = c.len.result }) c.in-Ok.site (ap (λ (n : ℕ). let node : NodeNo = record { 0 = n } in node) here) c.push_reserved.ensures.items
    (first_removed c.args.seating.now.links.items c.remove-own.new.self.items c.remove-own.result c.requires.some c.remove-own.ensures.value c.remove-own.ensures.items)
    c.in-Ok.ensures.links c.in-Ok.ensures.begun c.in-Ok.ensures.moments c.in-Ok.ensures.size

pub returns-in-Err-clause-not_joined : goal.returns-in-Err-clause-not_joined
returns-in-Err-clause-not_joined g c =
    not_joined_at g.D.Disk.told g.D.Disk.state g.D.Disk.fault_count g.D.Disk.byte_count c.new.result.disk c.args.disk (ap (λ (f : FusedValue g.row.D.Denot). f.disk) c.new.ensures) c.in-Err.back.why c.in-Err.back.disk.disk c.in-Err.ensures.damaged c.in-Err.ensures.failed
    c.in-Err.ensures.moments c.in-Err.ensures.kept c.in-Err.ensures.size
