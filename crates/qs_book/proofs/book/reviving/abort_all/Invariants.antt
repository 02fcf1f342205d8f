use Rattle.std.proofs.Common.{◌≡◌}
use Rattle.std.specs.List.{fold}
use Rattle.qs_book_machine.specs.Restart.{abort_begun, up_to}
use Rattle.qs_book.proofs.book.reviving.abort_all.Given as goal

abbrev pub invariant-loop-seq : goal.invariant-loop-seq
invariant-loop-seq l = l.book ≡ fold (abort_begun l.here.0 l.inc) l.initial.book (up_to l.seq)
