use Rattle.std.proofs.Common.{◌≡◌, take}
use Rattle.qs_base.proofs.list.copy_list.Given as goal

abbrev pub invariant-loop-item : goal.invariant-loop-item
invariant-loop-item g l = l.out ≡ take l.item-index l.items
