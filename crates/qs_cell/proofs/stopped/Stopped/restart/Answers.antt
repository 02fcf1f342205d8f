use Rattle.std.proofs.Common.{subst, sym}
use Rattle.std.specs.Prelude.{◌⊎◌, ◌≡◌}
use Rattle.qs_disk.specs.Disk.{EachImage}
use Rattle.qs_disk.specs.Fuse.{GoesOn, mended}
use Rattle.qs_disk.specs.Moments.{Keeps}
use Rattle.qs_log_start.specs.Incarnation.{IsLeftOrRaised, IsReopened, HasOneOf}
use Rattle.qs_node_host.specs.Roomy.{HasRoomyLog}
use Rattle.qs_log.specs.Log.{Stands, records_of}
use Rattle.qs_cell.proofs.Rooms.{begun_roomy, touched_roomy}
use Rattle.qs_cell.proofs.Reopening.{begun_sound}
use Rattle.qs_cell.specs.Restart.{IfDamaged, restarted_disk}
use Rattle.qs_cell.specs.Roomy.{RisesRoomy}
use Rattle.qs_cell.specs.declared.stopped.Restarted.{Restarted}
use Rattle.qs_cell.proofs.Standing.{if_up, found_all}
use Rattle.qs_cell.proofs.stopped.Stopped.restart.Goals as goal

pub returns-in-Ok-clause-reopened : goal.returns-in-Ok-clause-reopened
returns-in-Ok-clause-reopened g c = λ told.
    if_up c.begin_incarnation.result (IsReopened (g.D.Disk.state c.args.self.disk.disk)) c.in-Ok.log c.begin_incarnation.ensures.up (c.in-Ok.ensures.reopened told)

pub returns-in-Ok-clause-stands : goal.returns-in-Ok-clause-stands
returns-in-Ok-clause-stands g c = λ told.
    if_up c.begin_incarnation.result (λ log. Stands log (g.D.Disk.state log.disk.disk)) c.in-Ok.log c.begin_incarnation.ensures.up (c.in-Ok.ensures.stands told)

pub returns-in-Ok-clause-found : goal.returns-in-Ok-clause-found
returns-in-Ok-clause-found g c = λ told.
    let s = (g.D.Disk.state c.args.self.disk.disk) in
    if_up c.begin_incarnation.result (λ log. (a b : _) → EachImage (HasOneOf a b) s.now → (records_of log ≡ a) ⊎ (records_of log ≡ b)) c.in-Ok.log
    c.begin_incarnation.ensures.up (found_all c.in-Ok.log (λ a b. EachImage (HasOneOf a b) s.now) c.in-Ok.ensures.waiting (c.in-Ok.ensures.found told))

pub returns-in-Ok-clause-moments : goal.returns-in-Ok-clause-moments
returns-in-Ok-clause-moments g c = λ told a b here.
    let s = (g.D.Disk.state c.args.self.disk.disk) in
    subst (λ d. Keeps (HasOneOf a b) s (g.D.Disk.state d.disk)) (sym c.begin_incarnation.ensures.disk) (c.in-Ok.ensures.moments told a b here)

pub returns-in-Ok-clause-touched : goal.returns-in-Ok-clause-touched
returns-in-Ok-clause-touched g c = λ told.
    let s = (g.D.Disk.state c.args.self.disk.disk) in
    subst (λ d. Keeps (IsLeftOrRaised s) s (g.D.Disk.state d.disk)) (sym c.begin_incarnation.ensures.disk) (c.in-Ok.ensures.touched told)

pub returns-in-Ok-clause-goes : goal.returns-in-Ok-clause-goes
returns-in-Ok-clause-goes g c = subst (λ d. GoesOn (mended c.args.self.disk.fuse) d.fuse) (sym c.begin_incarnation.ensures.disk) c.in-Ok.ensures.goes

pub returns-in-Ok-clause-left : goal.returns-in-Ok-clause-left
returns-in-Ok-clause-left g c = λ told keep here.
    let s = (g.D.Disk.state c.args.self.disk.disk) in
    subst (λ d. Keeps (HasRoomyLog keep (g.D.Disk.byte_count c.args.self.disk.disk)) s (g.D.Disk.state d.disk)) (sym c.begin_incarnation.ensures.disk)
    (touched_roomy keep (g.D.Disk.byte_count c.args.self.disk.disk) s s (g.D.Disk.state c.in-Ok.log.disk.disk) here (c.in-Ok.ensures.touched told))

pub returns-in-Ok-clause-rooms : goal.returns-in-Ok-clause-rooms
returns-in-Ok-clause-rooms g c = λ told keep set here.
    begun_roomy g.D.Disk.fault_count c.args.alloc keep (g.D.Disk.byte_count c.args.self.disk.disk) (g.D.Disk.state c.args.self.disk.disk) c.in-Ok.log _ _
    c.begin_incarnation.result c.begin_incarnation.ensures.begins set here (c.in-Ok.ensures.reopened told)

pub returns-in-Err-clause-moments : goal.returns-in-Err-clause-moments
returns-in-Err-clause-moments g c = λ told a b here.
    let s = (g.D.Disk.state c.args.self.disk.disk) in
    subst (λ (r : Restarted _ g.row.F.Denot g.row.X.Denot). Keeps (HasOneOf a b) s (g.D.Disk.state (restarted_disk r).disk)) (sym c.refused.ensures)
    (c.in-Err.ensures.moments told a b here)

pub returns-in-Err-clause-left : goal.returns-in-Err-clause-left
returns-in-Err-clause-left g c = λ told keep here.
    let s = (g.D.Disk.state c.args.self.disk.disk) in
    subst (λ (r : Restarted _ g.row.F.Denot g.row.X.Denot). Keeps (HasRoomyLog keep (g.D.Disk.byte_count c.args.self.disk.disk)) s (g.D.Disk.state (restarted_disk r).disk)) (sym c.refused.ensures)
    (touched_roomy keep (g.D.Disk.byte_count c.args.self.disk.disk) s s (g.D.Disk.state c.in-Err.back.disk.disk) here (c.in-Err.ensures.touched told))

pub returns-in-Err-clause-rooms : goal.returns-in-Err-clause-rooms
returns-in-Err-clause-rooms g c = λ told keep set here.
    subst (λ (r : Restarted _ g.row.F.Denot g.row.X.Denot). RisesRoomy keep (g.D.Disk.byte_count c.args.self.disk.disk) r) (sym c.refused.ensures) tt

pub returns-in-Ok-clause-damaged : goal.returns-in-Ok-clause-damaged
returns-in-Ok-clause-damaged g c = λ told.
    begun_sound g.D.Disk.fault_count c.args.alloc c.in-Ok.log _ _ c.begin_incarnation.result (g.D.Disk.state c.args.self.disk.disk) c.begin_incarnation.ensures.begins

pub returns-in-Err-clause-damaged : goal.returns-in-Err-clause-damaged
returns-in-Err-clause-damaged g c = λ told.
    subst (λ (r : Restarted _ g.row.F.Denot g.row.X.Denot). IfDamaged r (g.D.Disk.state c.args.self.disk.disk)) (sym c.refused.ensures) (c.in-Err.ensures.damaged told)
