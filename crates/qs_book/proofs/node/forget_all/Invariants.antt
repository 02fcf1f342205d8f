use Rattle.std.proofs.Common.{◌≡◌, take}
use Rattle.std.specs.List.{fold}
use Rattle.qs_book_machine.specs.Restart.{without_records}
use Rattle.qs_book.proofs.node.forget_all.Given as goal

abbrev pub invariant-loop-tid : goal.invariant-loop-tid
invariant-loop-tid l = l.node ≡ fold without_records l.initial.node (take l.tid-index l.done)
