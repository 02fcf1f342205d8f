use Rattle.std.proofs.Common.{◌∙◌, arith, refl, subst, sym}
use Rattle.qs_world_sites.proofs.Meeting.{burst_rises, no_burst}
use Rattle.qs_world_sites.proofs.Staying.{each_is, each_on, each_same, goes_none, goes_on}
use Rattle.qs_world_sites.specs.Late.{RisesBy}
use Rattle.qs_world_sites.specs.Sites.{GoesOn, HasSameCell}
use Rattle.qs_world_sites.proofs.sites.Sites.burst.Goals as goal

pub returns-then-turns-eq0-clause-bursts : goal.returns-then-turns-eq0-clause-bursts
returns-then-turns-eq0-clause-bursts g c = no_burst g.D.Disk.told g.D.Disk.state g.D.Disk.fault_count g.D.Disk.byte_count c.args.turns c.args.self.now.sites c.if-turns-eq0.true

pub returns-then-turns-eq0-clause-rises : goal.returns-then-turns-eq0-clause-rises
returns-then-turns-eq0-clause-rises g c = each_same (RisesBy 0) (λ a. record { most = omega arith }) c.args.self.now.sites

pub returns-then-turns-eq0-clause-stays : goal.returns-then-turns-eq0-clause-stays
returns-then-turns-eq0-clause-stays g c = each_same GoesOn goes_none c.args.self.now.sites

pub returns-in-Ok-clause-rises : goal.returns-in-Ok-clause-rises
returns-in-Ok-clause-rises g c = burst_rises g.D.Disk.told g.D.Disk.state g.D.Disk.fault_count g.D.Disk.byte_count c.args.turns c.args.self.now.sites c.take_turns.new.self.sites c.in-Ok.ensures.bursts

pub returns-in-Err-clause-refused : goal.returns-in-Err-clause-refused
returns-in-Err-clause-refused g c = record { burst = c.take_turns.new.self.sites; some = c.take_turns.ensures.some; joined = c.look.ensures.joined; same = c.look.ensures.cells }

pub returns-in-Err-clause-stays : goal.returns-in-Err-clause-stays
returns-in-Err-clause-stays g c = each_on GoesOn GoesOn GoesOn goes_on c.args.self.now.sites c.take_turns.new.self.sites c.look.new.self.sites c.take_turns.ensures.stays
    (each_is HasSameCell GoesOn (λ a b same. same.stays.goes_on) c.take_turns.new.self.sites c.look.new.self.sites c.look.ensures.cells)
