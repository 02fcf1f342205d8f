use Rattle.std.proofs.Common.{◌≡◌, [], take}
use Rattle.std.specs.List.{fold}
use Rattle.qs_book_machine.specs.Opening.{put_record}
use Rattle.qs_book.proofs.opening.opened_records.Given as goal

abbrev pub invariant-loop-vote : goal.invariant-loop-vote
invariant-loop-vote l = l.records.entries ≡ fold put_record [] (take l.vote-index l.pending)
