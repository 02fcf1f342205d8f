use Rattle.std.proofs.Common.{◌≡◌, Err, subst}
use Rattle.qs_cell.specs.State.{StartsAgain}
use Rattle.qs_cell.specs.declared.state.RestartFault.TheVariants as restart_faults
use Rattle.qs_world_rounds.proofs.visits.restart.Goals as goal

pub returns-in-Err-Damaged-clause-damaged : goal.returns-in-Err-Damaged-clause-damaged
returns-in-Err-Damaged-clause-damaged g c = λ told _.
    let is : c.restart.result ≡ Err (restart_faults.Damaged c.in-Err-Damaged.field-0-0) = cc (c.in-Err-Damaged.is, c.in-Err-Damaged.field-0-is) in
    c.restart.ensures.damaged told c.in-Err-Damaged.field-0-0 is

pub returns-in-Err-NoMemory-clause-refused : goal.returns-in-Err-NoMemory-clause-refused
returns-in-Err-NoMemory-clause-refused g c = λ _.
    let is : c.restart.result ≡ Err restart_faults.NoMemory = cc (c.in-Err-NoMemory.is, c.in-Err-NoMemory.field-0-is) in
    subst (StartsAgain g.D.Disk.told g.D.Disk.state g.D.Disk.fault_count g.D.Disk.byte_count c.args.node.now.alloc c.args.node.now.seat.node c.restart.new.self.seat.node) is c.restart.ensures.starts
