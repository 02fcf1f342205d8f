-- The script that a text is, or its first fault.
use Rattle.std.specs.Prelude.{ℕ, ◌+◌, Bool, true, false, ◌&&◌, ◌==◌, List, [], ◌∷◌, length, take, Option, Some, None, Result, Ok, Err, nat_lt, if◌then◌else◌}
use Rattle.std.specs.List.{list_any, count_by}
use Rattle.qs_base.specs.Order.{same_bytes}
use Rattle.qs_book_journal.specs.declared.script_line.Command.{Command}
use Rattle.qs_book_journal.specs.declared.script_line.Command.TheVariants as commands
use Rattle.qs_book_journal.specs.declared.script_line.ScriptLine.{ScriptLine}
use Rattle.qs_book_script.specs.Lines.{lines_of}
use Rattle.qs_text_script.specs.Rules.{fault_of, with_line, empty_script, is_of}
use Rattle.qs_book_script.specs.Statements.{line_states}
use Rattle.qs_text_script.specs.declared.reading.ScriptFailed.{ScriptFailed}
use Rattle.qs_text_script.specs.declared.reading.ScriptFailed.TheVariants.{Fault}
use Rattle.qs_book_script.specs.declared.script.Script.{Script}
use Rattle.qs_book_script.specs.declared.status.ScriptFault.{ScriptFault}
use Rattle.qs_book_script.specs.declared.status.ScriptFault.TheVariants.{TooLarge, Open}

-- ---- transactions and loans left open

abbrev pub is_end : Command → Bool
is_end commands.Commit = true
is_end commands.Abort = true
is_end _ = false

-- the command ends the transaction of that label; its owner alone may
abbrev pub ends : List ℕ → ScriptLine → Bool
ends label line = is_end line.command && same_bytes line.label label

-- what a later command of the same client for the same label says of a loan: given back, taken again, or nothing
abbrev pub gives_back : Command → Option Bool
gives_back commands.Yield = Some true
gives_back commands.Take = Some false
gives_back _ = None

abbrev pub given_back_by : ScriptLine → ScriptLine → Option Bool
given_back_by line later = if is_of line.client.0 line.label later then gives_back later.command else None

abbrev pub or_later : Option Bool → Bool → Bool
or_later None later = later
or_later (Some given) later = given

-- the client gives the loan back before it takes the next of that label
abbrev pub is_given_back : ScriptLine → List ScriptLine → Bool
is_given_back line [] = false
is_given_back line (later ∷ lines) = or_later (given_back_by line later) (is_given_back line lines)

-- a begin needs a later end, and a take a yield
abbrev pub is_closed_by : ScriptLine → Bool → List ScriptLine → Command → Bool
is_closed_by line ended later commands.Begin = ended
is_closed_by line ended later commands.Take = is_given_back line later
is_closed_by line ended later _ = true

-- the line of a command that is left open, else what was found of the later lines
abbrev pub first_left_open : ScriptLine → Bool → List ScriptLine → Option ℕ → Option ℕ
first_left_open line ended later found = if is_closed_by line ended later line.command then found else Some line.line

-- the first command that is left open
abbrev pub left_open : List ScriptLine → Option ℕ
left_open [] = None
left_open (line ∷ lines) = first_left_open line (list_any (ends line.label) lines) lines (left_open lines)

-- ---- the whole

-- the fault of a line behind those of this script, or what comes of the lines after it
abbrev pub after_fault : Script → Option ScriptFault → Result Script ScriptFailed → Result Script ScriptFailed
after_fault script None rest = rest
after_fault script (Some fault) rest = Err (Fault (script.count + 1) fault)

-- the script of these lines behind those of a script, or the first fault of a line
abbrev pub read_from : ℕ → Script → List (List ℕ) → Result Script ScriptFailed
read_from nodes script [] = Ok script
read_from nodes script (line ∷ lines) =
    after_fault script (fault_of nodes script (line_states line)) (read_from nodes (with_line script (line_states line)) lines)

abbrev pub unless_open : Script → Option ℕ → Result Script ScriptFailed
unless_open script None = Ok script
unless_open script (Some line) = Err (Fault line Open)

-- unless a command is left open
abbrev pub closed_script : Result Script ScriptFailed → Result Script ScriptFailed
closed_script (Err failed) = Err failed
closed_script (Ok script) = unless_open script (left_open script.lines)

-- the line of the byte past the limit
abbrev pub line_past_limit : List ℕ → ℕ
line_past_limit text = count_by (λ byte. byte == 10) (take 1048576 text) + 1

-- the script for so many nodes that a text is, or its first fault
abbrev pub script_of : ℕ → List ℕ → Result Script ScriptFailed
script_of nodes text =
    if nat_lt 1048576 (length text) then Err (Fault (line_past_limit text) TooLarge)
    else closed_script (read_from nodes empty_script (lines_of text))
