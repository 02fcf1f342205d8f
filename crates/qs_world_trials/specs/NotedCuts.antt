-- A node whose files note what they vote for is cut off in the step in which they vote, with its batch kept: its restart finds votes, which were noted.
use Rattle.std.specs.Prelude.{ℕ, ◌+◌, ◌==◌, true, List, [], ◌∷◌, codes, fold, length, Some, if◌then◌else◌}
use Rattle.std.specs.Global.{Global}
use Rattle.qs_book_journal.specs.declared.entry.Act.{Act}
use Rattle.qs_book_journal.specs.declared.entry.Act.TheVariants as acts
use Rattle.qs_book_journal.specs.declared.entry.Entry.{Entry}
use Rattle.qs_book_journal.specs.declared.script_line.Command.TheVariants as commands
use Rattle.qs_book_journal.specs.declared.script_line.ScriptLine.{ScriptLine}
use Rattle.qs_world.specs.Driven.{Know, Take, cut, make, rise}
use Rattle.qs_world.specs.DrivenRuns.{put_at, said}
use Rattle.qs_world.specs.Moves.{Clock, Commanded, Handed, Queues, node_no}
use Rattle.qs_world.specs.Scenes.{setting_of}
use Rattle.qs_world.specs.World.{Opening, World, start}

-- a client at node 0 puts a file there and asks for the commit
abbrev lines : ℕ → ℕ × List ScriptLine
lines k = if k == 0 then (0, said 0 2 (codes "a") commands.Begin ∷ said 0 3 (codes "a") (put_at 0 (codes "f") (codes "x")) ∷ said 0 4 (codes "a") commands.Commit ∷ []) else (0, [])

-- so many nodes, the notes of which go to that one
abbrev noting : ℕ → ℕ → Global → Opening
noting size audit alloc = record { alloc = alloc; size = size; settings = λ n. record (setting_of size n) { audit = Some (node_no audit) }; logs = λ n. []; clients = lines }

-- ---- the node's own audit serves the note in a step before

abbrev pub noting_here : Global → Opening
noting_here alloc = noting 1 0 alloc

abbrev pub cut_here : Global → World
cut_here alloc = rise 0 (cut 0 Clock true (fold make (start (noting_here alloc))
    (Take 0 (Commanded 0) ∷ Take 0 (Commanded 0) ∷ Take 0 Queues ∷ Take 0 (Commanded 0) ∷ Take 0 Clock ∷ Take 0 Queues ∷ [])))

-- ---- audit of another node serves it, and its reply comes in the step that is cut off

abbrev pub noting_away : Global → Opening
noting_away alloc = noting 2 1 alloc

abbrev pub cut_away : Global → World
cut_away alloc = rise 0 (cut 0 (Handed 1) true (fold make (start (noting_away alloc))
    (Know 0 1 ∷ Know 1 0 ∷ Take 0 (Commanded 0) ∷ Take 0 (Commanded 0) ∷ Take 0 Queues ∷ Take 0 (Commanded 0) ∷ Take 0 Clock ∷ Take 1 (Handed 0) ∷ Take 1 Queues ∷ [])))

-- ---- what restarts found

abbrev votes_in : Act → ℕ
votes_in (acts.Restart inc pend done) = length pend
votes_in act = 0

abbrev add_votes : ℕ → Entry → ℕ
add_votes sum entry = sum + votes_in entry.act

abbrev pub found_votes : World → ℕ
found_votes world = fold add_votes 0 world.journal
