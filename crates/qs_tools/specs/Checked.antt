-- The verdict on a history: lawful, or its first line that is no lawful step, and the clause that this breaks.
use Rattle.std.specs.Prelude.{ℕ, ◌+◌, List, [], ◌∷◌, Option, Some, None}
use Rattle.qs_book_journal.specs.declared.entry.Entry.{Entry}
use Rattle.qs_book_machine.specs.Book.{BookValue}
use Rattle.qs_book_machine.specs.Lawful.{broken, effect}

-- the first entry that breaks a clause, by its line; the first entry stands at this line
abbrev pub first_broken_line : ℕ → BookValue → List Entry → Option (ℕ × ℕ)
first_broken_line line book [] = None
first_broken_line line book (entry ∷ entries) = elim (broken book entry) [
  | Some clause ↦ Some (line, clause)
  | None ↦ first_broken_line (line + 1) (effect book entry) entries
]
