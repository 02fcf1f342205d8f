-- What the form `check` promises: of the history that was read, and of the verdict that was given.
use Rattle.std.specs.Prelude.{◌≡◌, ◌≤◌, ℕ, ◌+◌, List, length, Some, ⊤}
use Rattle.qs_book_journal.specs.declared.entry.Entry.{Entry}
use Rattle.qs_book_machine.specs.Lawful.{IsLawful}
use Rattle.qs_book_machine.specs.Opening.{opening}
use Rattle.qs_book_machine.specs.declared.opened.Opened.{Opened}
use Rattle.qs_book_script.specs.Lines.{lines_of}
use Rattle.qs_text_script.specs.StatusLine.{lawful_text}
use Rattle.qs_book_script.specs.declared.status.Status.{Status}
use Rattle.qs_book_script.specs.declared.status.Status.TheVariants.{Finished, ReadFault, WriteFault, NoMemory, Unlawful, Journal}
use Rattle.qs_tools.specs.Checked.{first_broken_line}
use Rattle.qs_text_history.specs.Journal.{IsJournal, opening_lines}

-- the text is that of this history, and within the limit
pub record IsHistory (text : List ℕ) (opened : List Opened) (entries : List Entry) : Type 0 where
  pub lines : IsJournal (lines_of text) opened entries
  pub within : length text ≤ 67108864

-- the text is a history of so many entries, each of them a lawful step
pub record IsLawfulText (text : List ℕ) (count : ℕ) : Type 0 where
  pub opened : List Opened
  pub entries : List Entry
  pub history : IsHistory text opened entries
  pub lawful : IsLawful (opening opened) entries
  pub count_is : count ≡ length entries

-- the text is a history whose first entry that is no lawful step stands at this line, and breaks this clause first
pub record IsUnlawfulText (text : List ℕ) (line clause : ℕ) : Type 0 where
  pub opened : List Opened
  pub entries : List Entry
  pub history : IsHistory text opened entries
  pub broken : first_broken_line (length (opening_lines opened) + 1) (opening opened) entries ≡ Some (line, clause)

-- the text is a lawful history, and of the verdict that much was given
pub record IsVerdict (text : List ℕ) (Gave : List ℕ → Type 0) : Type 0 where
  pub count : ℕ
  pub lawful : IsLawfulText text count
  pub given : Gave (lawful_text count)

-- the statuses of a text that is no lawful history, or is not judged for want of memory
abbrev pub IsRefusal : Status → Type 0
IsRefusal (Unlawful line clause) = ⊤
IsRefusal (Journal line) = ⊤
IsRefusal NoMemory = ⊤
IsRefusal _ = ⊥

-- the statuses of the form `check`
abbrev pub IsOfCheck : Status → Type 0
IsOfCheck Finished = ⊤
IsOfCheck ReadFault = ⊤
IsOfCheck WriteFault = ⊤
IsOfCheck NoMemory = ⊤
IsOfCheck (Unlawful line clause) = ⊤
IsOfCheck (Journal line) = ⊤
IsOfCheck _ = ⊥
