use Rattle.std.proofs.Common.{None, take}
use Rattle.std.specs.Prelude.{◌&&◌}
use Rattle.std.specs.List.{list_any}
use Rattle.qs_ops.specs.Table.{is_change_of}
use Rattle.qs_ops_shelf.specs.Slots.{IsStaged, IsSettled}
use Rattle.qs_ops_shelf.proofs.slots.ShelfTexts.settle_all.Given as goal

-- the names of the changes so far are settled
abbrev pub invariant-loop-change : goal.invariant-loop-change
invariant-loop-change l = record {
  staged : IsStaged (λ q. list_any (is_change_of q) (take l.change-index l.changes)) l.tid None l.initial.self.names.entries l.self.names.entries;
  settled : IsSettled (λ q. l.commits && list_any (is_change_of q) (take l.change-index l.changes)) l.tid l.initial.self.names.entries l.self.names.entries;
}
