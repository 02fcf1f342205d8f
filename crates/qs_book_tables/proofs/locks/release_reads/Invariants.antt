use Rattle.std.proofs.Common.{take}
use Rattle.std.specs.List.{list_any}
use Rattle.qs_base.specs.Order.{same_bytes}
use Rattle.qs_book_tables.specs.Index.{without_tid, ChangesHolders}
use Rattle.qs_book_tables.proofs.locks.release_reads.Given as goal

abbrev pub invariant-loop-name : goal.invariant-loop-name
invariant-loop-name l =
    ChangesHolders (λ name. list_any (same_bytes name) (take l.name-index l.names)) (without_tid l.tid) l.initial.readers.names.entries l.readers.names.entries
