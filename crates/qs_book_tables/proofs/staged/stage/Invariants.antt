use Rattle.std.proofs.Common.{◌≡◌, take}
use Rattle.std.specs.List.{fold}
use Rattle.qs_ops.specs.Table.{apply_change}
use Rattle.qs_book_tables.specs.Sizes.{files_bytes}
use Rattle.qs_book_tables.specs.Staged.{AreStaged}
use Rattle.qs_book_tables.proofs.staged.stage.Given as goal

abbrev pub invariant-loop-change : goal.invariant-loop-change
invariant-loop-change l = record {
  staged : AreStaged l.files (take l.change-index l.changes) l.texts.entries;
  counted : l.count ≡ files_bytes (fold apply_change l.files (take l.change-index l.changes));
}
