use Rattle.std.proofs.Common.{take}
use Rattle.qs_record.specs.Grammar.{SpellsOps}
use Rattle.qs_record.specs.Writing.{Adds}
use Rattle.qs_record.proofs.op_writing.add_each.Given as goal

abbrev pub invariant-loop-op : goal.invariant-loop-op
invariant-loop-op l = Adds (SpellsOps (take l.op-index l.changes)) l.fn.out l.out
