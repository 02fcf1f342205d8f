-- What holds of the texts of histories.
use Rattle.std.specs.Prelude.{ℕ, ◌≡◌, ◌≤◌, List, length}
use Rattle.qs_book_journal.specs.declared.entry.Entry.{Entry}
use Rattle.qs_book_machine.specs.declared.opened.Opened.{Opened}
use Rattle.qs_book_script.specs.Lines.{lines_of}
use Rattle.qs_text_history.specs.Journal.{IsFault, IsJournal}

-- two histories with the same text are the same
abbrev pub IsOneHistory : Type 0
IsOneHistory = (text : List ℕ) (opened other_opened : List Opened) (entries other_entries : List Entry)
    → IsJournal (lines_of text) opened entries → IsJournal (lines_of text) other_opened other_entries
    → (opened ≡ other_opened) × (entries ≡ other_entries)

-- the text of a history, within the limit, has no fault
abbrev pub HasNoFault : Type 0
HasNoFault = (text : List ℕ) (opened : List Opened) (entries : List Entry) (line : ℕ)
    → IsJournal (lines_of text) opened entries → length text ≤ 67108864 → IsFault text line → ⊥
