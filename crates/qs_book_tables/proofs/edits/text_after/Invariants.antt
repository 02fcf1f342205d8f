use Rattle.std.proofs.Common.{◌≡◌, take}
use Rattle.std.specs.List.{fold}
use Rattle.std.specs.Option.{option_copied}
use Rattle.qs_book_tables.specs.Edits.{changed_at}
use Rattle.qs_book_tables.proofs.edits.text_after.Given as goal

abbrev pub invariant-loop-change : goal.invariant-loop-change
invariant-loop-change l = l.text ≡ fold (changed_at l.name) (option_copied l.fn.before) (take l.change-index l.changes)
