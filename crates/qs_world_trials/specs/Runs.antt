-- The runs on which all is tried: with a late loan, with all servers and transactions that conflict, over old logs, of one node alone, and one with a stale record.
use Rattle.std.specs.Prelude.{ℕ, ◌==◌, true, List, [], ◌∷◌, ◌++◌, codes, if◌then◌else◌}
use Rattle.std.specs.Global.{Global}
use Rattle.qs_base.specs.declared.identifiers.Tid.{Tid}
use Rattle.qs_book_journal.specs.declared.script_line.Command.TheVariants as commands
use Rattle.qs_book_journal.specs.declared.script_line.ScriptLine.{ScriptLine}
use Rattle.qs_ops.specs.declared.operation.Op.TheVariants.{Note, Put}
use Rattle.qs_record.specs.declared.record.Record.{Record}
use Rattle.qs_record.specs.declared.record.Record.TheVariants as records
use Rattle.qs_world.specs.Driven.{Know, Take}
use Rattle.qs_world.specs.DrivenRuns.{put_at, said}
use Rattle.qs_world.specs.Moves.{Clock, Commanded, Handed, Queues}
use Rattle.qs_world.specs.Scenes.{setting_of}
use Rattle.qs_world.specs.World.{Opening}
use Rattle.qs_world_trials.specs.Walks.{CutOff, Doing, Rise, Stop, made}

-- ---- one node over an old log: a vote whose home is elsewhere, one that it did not commit, and a Commit

abbrev tid_of : ℕ → ℕ → Tid
tid_of home seq = record { home = record { 0 = home }; inc = 1; seq = seq }

abbrev put : Tid → ℕ → List ℕ → Record
put tid covers name = records.Prepare tid (record { 0 = 0 }) covers (Put name (codes "x") ∷ [])

abbrev sole_log : List Record
sole_log = put (tid_of 3 1) 2 (codes "k") ∷ put (tid_of 0 1) 1 (codes "e") ∷ records.Prepare (tid_of 0 1) (record { 0 = 1 }) 1 (Note (codes "n") ∷ []) ∷ records.Commit (tid_of 0 1) [] ∷ put (tid_of 0 2) 1 (codes "h") ∷ []

abbrev sole_lines : ℕ → ℕ × List ScriptLine
sole_lines k =
    if k == 0
    then (
      0,
      said 0 3 (codes "a") commands.Begin ∷ said 0 4 (codes "a") (put_at 0 (codes "f") (codes "x")) ∷ said 0 5 (codes "a") (put_at 0 (codes "k") (codes "y")) ∷ said 0 6 (codes "a") commands.Commit
          ∷ said 0 7 (codes "c") commands.Begin ∷ said 0 8 (codes "c") (put_at 0 (codes "g") (codes "z")) ∷ said 0 9 (codes "c") commands.Abort ∷ [],
    )
    else if k == 1
    then (0, said 1 10 (codes "b") commands.Begin ∷ said 1 11 (codes "b") (put_at 0 (codes "f") (codes "w")) ∷ said 1 12 (codes "b") (put_at 0 (codes "g") (codes "v")) ∷ said 1 13 (codes "b") commands.Commit ∷ [])
    else (0, [])

abbrev pub sole : Global → Opening
sole alloc = record { alloc = alloc; size = 1; settings = λ n. record (setting_of 1 n) { inc = 2 }; logs = λ n. sole_log; clients = sole_lines }

-- ---- a server votes anew, with as many covers, on what its node learnt to be aborted and ended before; that step is cut off with its batch kept

abbrev first_part : List Doing
first_part = made (Know 0 1 ∷ Know 1 0 ∷ Know 0 2 ∷ Know 2 0 ∷ Take 0 (Commanded 0) ∷ Take 0 (Commanded 0) ∷ Take 2 (Handed 0) ∷ Take 2 Queues ∷ Take 0 (Handed 2)
    ∷ Take 0 (Commanded 0) ∷ Take 1 (Handed 0) ∷ Take 1 Queues ∷ Take 0 (Handed 1) ∷ Take 1 (Commanded 1)
    ∷ Take 0 (Commanded 0) ∷ Take 1 (Handed 0) ∷ Take 2 (Handed 0) ∷ Take 2 Clock ∷ Take 2 Clock ∷ [])

abbrev second_part : List Doing
second_part = made (Know 2 0 ∷ Know 0 2 ∷ Take 0 (Handed 2) ∷ Take 2 (Handed 0) ∷ Take 2 (Commanded 2) ∷ Take 2 (Commanded 2) ∷ Take 2 Queues ∷ Take 2 (Commanded 2) ∷ Take 2 Clock ∷ Take 2 Clock ∷ [])

abbrev third_part : List Doing
third_part = made (Know 1 2 ∷ Take 1 (Commanded 1) ∷ Know 2 1 ∷ Take 2 (Handed 1) ∷ Take 2 Queues ∷ [])

abbrev fourth_part : List Doing
fourth_part = made (Take 2 (Commanded 2) ∷ Take 2 (Commanded 2) ∷ Take 2 Queues ∷ [])

abbrev pub stale : List Doing
stale = first_part ++ ((Stop 0 ∷ Rise 0 ∷ []) ++ (second_part ++ ((Stop 2 ∷ Rise 2 ∷ []) ++ (third_part ++ ((CutOff 2 (Handed 1) true ∷ Rise 2 ∷ []) ++ fourth_part)))))
