use Rattle.std.proofs.Common.{◌≡◌, [], take}
use Rattle.std.specs.List.{fold}
use Rattle.qs_book_machine.specs.Opening.{put_tid}
use Rattle.qs_book.proofs.opening.opened_commits.Given as goal

abbrev pub invariant-loop-tid : goal.invariant-loop-tid
invariant-loop-tid l = l.tids.keys ≡ fold put_tid [] (take l.tid-index l.committed)
