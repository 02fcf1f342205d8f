use Rattle.std.proofs.Common.{◌≡◌}
use Rattle.qs_book_tables.specs.Index.{first_other}
use Rattle.qs_book_tables.proofs.holders.first_other.Given as goal

abbrev pub invariant-loop-held : goal.invariant-loop-held
invariant-loop-held l = first_other l.tid l.held-iterator ≡ first_other l.tid l.tids.keys
