use Rattle.std.proofs.Common.{subst, sym}
use Rattle.qs_cell.specs.State.{LogStands, StartsAgain, disk_of}
use Rattle.qs_cell.proofs.Rooms.{restarted_roomy, stays_roomy}
use Rattle.qs_cell.proofs.Standing.{restarts_of, stands_restarted}
use Rattle.qs_cell.proofs.state.CellState.restart.Goals as goal

pub returns-clause-starts : goal.returns-clause-starts
returns-clause-starts g c =
    subst (λ node. StartsAgain g.D.Disk.told g.D.Disk.state g.D.Disk.fault_count g.D.Disk.byte_count c.args.alloc node c.after_restart.result.0 c.after_restart.result.1) (sym c.in-Down.is)
    (restarts_of g.D.Disk.told g.D.Disk.state g.D.Disk.fault_count g.D.Disk.byte_count c.args.alloc c.in-Down.stopped c.restart.result c.after_restart.result.0 c.after_restart.result.1
    c.restart.ensures.restarted c.after_restart.ensures.state c.after_restart.ensures.answer c.restart.ensures.reopened c.restart.ensures.found
    c.restart.ensures.moments c.restart.ensures.stands c.restart.ensures.touched c.restart.ensures.damaged c.restart.ensures.goes c.restart.ensures.size)

pub returns-clause-stands : goal.returns-clause-stands
returns-clause-stands g c = λ told.
    subst (LogStands g.D.Disk.state) (sym c.after_restart.ensures.state) (stands_restarted g.D.Disk.state c.restart.result (c.restart.ensures.stands told))

pub returns-clause-rooms : goal.returns-clause-rooms
returns-clause-rooms g c = λ told keep.
    restarted_roomy g.D.Disk.fault_count c.args.alloc keep g.D.Disk.byte_count g.D.Disk.state c.args.self c.in-Down.stopped c.restart.result c.after_restart.result.0 c.in-Down.is
    c.after_restart.ensures.state c.restart.ensures.restarted (c.restart.ensures.rooms told)

pub returns-in-Up-clause-rooms : goal.returns-in-Up-clause-rooms
returns-in-Up-clause-rooms g c = λ told keep set roomy here. stays_roomy keep (g.D.Disk.byte_count (disk_of c.args.self).disk) c.args.self roomy
