use Rattle.std.proofs.Common.{◌≡◌, take}
use Rattle.std.specs.List.{flat_map}
use Rattle.qs_book_machine.specs.Restart.{changes_at}
use Rattle.qs_book.proofs.book.reviving.changes_found.Given as goal

abbrev pub invariant-loop-tid : goal.invariant-loop-tid
invariant-loop-tid l = l.changes ≡ flat_map (changes_at l.here.0 l.book l.server.0) (take l.tid-index l.done)
