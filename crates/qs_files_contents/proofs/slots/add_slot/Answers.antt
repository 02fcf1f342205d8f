use Rattle.std.proofs.Common.{rules}
use Rattle.qs_files_contents.proofs.Added.{adds-none, adds-some}
use Rattle.qs_files_contents.proofs.slots.add_slot.Goals as goal

pub returns-in_ok-add_file : goal.returns-in_ok-add_file
returns-in_ok-add_file c = adds-some c.args.name.now c.as_slice.result.now c.args.slot.now c.args.changes.now c.add_file.new.out (search rules) c.in_ok-add_file.ensures

pub returns-in_default : goal.returns-in_default
returns-in_default c = adds-none c.args.name.now c.args.slot.now c.args.changes.now (search rules)
