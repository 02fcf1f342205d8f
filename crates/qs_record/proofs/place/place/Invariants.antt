use Rattle.std.proofs.Common.{◌≡◌, length}
use Rattle.qs_codec.specs.Reading.{left_of}
use Rattle.qs_record.proofs.Places.{end_of}
use Rattle.qs_record.proofs.place.place.Given as goal

abbrev pub invariant-loop : goal.invariant-loop
invariant-loop l = end_of l.end ≡ end_of l.reader

abbrev pub decreases-loop : goal.decreases-loop
decreases-loop l = length (left_of l.end)
