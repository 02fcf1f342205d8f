use Rattle.std.proofs.Common.{take}
use Rattle.std.specs.List.{list_any}
use Rattle.qs_ops.specs.Table.{is_change_of}
use Rattle.qs_book_tables.specs.Index.{with_tid, ChangesHolders}
use Rattle.qs_book_tables.proofs.locks.keep_changes.Given as goal

abbrev pub invariant-loop-change : goal.invariant-loop-change
invariant-loop-change l =
    ChangesHolders (λ name. list_any (is_change_of name) (take l.change-index l.changes)) (with_tid l.tid) l.initial.changers.names.entries l.changers.names.entries
