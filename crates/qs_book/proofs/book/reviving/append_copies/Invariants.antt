use Rattle.std.proofs.Common.{◌≡◌, ◌++◌, take}
use Rattle.qs_book.proofs.book.reviving.append_copies.Given as goal

abbrev pub invariant-loop-op : goal.invariant-loop-op
invariant-loop-op l = l.changes ≡ l.initial.changes ++ take l.op-index l.more
