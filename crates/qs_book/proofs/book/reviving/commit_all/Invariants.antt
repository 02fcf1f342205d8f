use Rattle.std.proofs.Common.{◌≡◌, take}
use Rattle.std.specs.List.{fold}
use Rattle.qs_book_machine.specs.Restart.{commit_found}
use Rattle.qs_book.proofs.book.reviving.commit_all.Given as goal

abbrev pub invariant-loop-tid : goal.invariant-loop-tid
invariant-loop-tid l = l.book ≡ fold (commit_found l.here.0) l.initial.book (take l.tid-index l.done)
