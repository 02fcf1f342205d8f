-- A client: its lines, the place that it stands at, and whether the line there is out, which is sent and not answered.
use Rattle.std.specs.Prelude.{◌+◌, ◌≤◌, ◌==◌, ◌&&◌, ℕ, Bool, true, false, List, length, take, Option, Some, None, slice_get, if◌then◌else◌}
use Rattle.std.specs.Option.{option_map}
use Rattle.qs_book_journal.specs.declared.script_line.LineAnswer.{LineAnswer}
use Rattle.qs_book_journal.specs.declared.script_line.ScriptLine.{ScriptLine}
use Rattle.qs_client.specs.declared.progress.Progress.{Progress}

-- at its first line
abbrev pub begun : List ScriptLine → Progress
begun lines = record { lines = lines; place = 0; is_out = false }

-- it stands behind its last line
abbrev pub IsEnded : Progress → Type 0
IsEnded progress = length progress.lines ≤ progress.place

-- the line that it stands at
abbrev pub line_at : Progress → Option ScriptLine
line_at progress = slice_get progress.lines progress.place

abbrev pub number_of : ScriptLine → ℕ
number_of line = line.line

-- its number in the script
abbrev pub number_at : Progress → Option ℕ
number_at progress = option_map number_of (line_at progress)

-- what it sends next: the line that it stands at, where that is not out
abbrev pub to_send : Progress → Option ScriptLine
to_send progress = if progress.is_out then None else line_at progress

-- it sent the line that it stands at
abbrev pub sent : Progress → Progress
sent progress = record progress { is_out = true }

abbrev pub is_number : ℕ → Option ℕ → Bool
is_number number None = false
is_number number (Some other) = number == other

-- the line of this number is out
abbrev pub awaits : ℕ → Progress → Bool
awaits number progress = progress.is_out && is_number number (number_at progress)

-- an answer came: behind the line that is out it stands at the next one; an answer to another line changes nothing
abbrev pub answered : LineAnswer → Progress → Progress
answered answer progress = if awaits answer.line progress then record progress { place = progress.place + 1; is_out = false } else progress

-- an answer came, or none
abbrev pub heard : Option LineAnswer → Progress → Progress
heard None progress = progress
heard (Some answer) progress = answered answer progress

-- the lines that it has sent
abbrev pub sent_lines : Progress → List ScriptLine
sent_lines progress = take (if progress.is_out then progress.place + 1 else progress.place) progress.lines
