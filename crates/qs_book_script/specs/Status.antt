-- The number and the line of each status.
use Rattle.std.specs.Prelude.{ℕ}
use Rattle.qs_book_script.specs.declared.status.Status.{Status}
use Rattle.qs_book_script.specs.declared.status.Status.TheVariants.{Finished, Usage, Script, ReadFault, WriteFault, DiskFault, Damaged, Unfinished, NoMemory, NoRoom, Unlawful, Journal, LastGeneration}

abbrev pub status_number : Status → ℕ
status_number Finished = 0
status_number Usage = 2
status_number (Script line fault) = 3
status_number ReadFault = 4
status_number WriteFault = 5
status_number (DiskFault node) = 6
status_number (Damaged node at) = 7
status_number (Unfinished rounds waiting) = 8
status_number NoMemory = 9
status_number (NoRoom node need room) = 10
status_number (Unlawful line clause) = 11
status_number (Journal line) = 12
status_number (LastGeneration node) = 13
