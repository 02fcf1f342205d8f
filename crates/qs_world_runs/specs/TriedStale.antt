-- A run in which a stale record must not be taken for a vote. A server voted on a transaction, its node learnt that it is aborted, ended its records and restarted; it got to know the
-- transaction anew, from a node that does not know the abort, and voted again, with as many covers, in a step that was cut off with its batch kept. As it restarts, the vote that is found
-- is of the changes pending since, as the machine forgot the first one at the restart that did not find it; so the next reply that goes by what is pending is lawful.
use Rattle.std.specs.Prelude.{◌≡◌, ℕ, ◌==◌, true, List, [], ◌∷◌, codes, fold, Option, Some, None, if◌then◌else◌, map, slice_get}
use Rattle.std.specs.Global.{Global}
use Rattle.qs_base.specs.declared.identifiers.Tid.{Tid}
use Rattle.qs_book_journal.specs.declared.script_line.Command.TheVariants as commands
use Rattle.qs_book_journal.specs.declared.script_line.ScriptLine.{ScriptLine}
use Rattle.qs_book_machine.specs.Lawful.{book_after}
use Rattle.qs_book_machine.specs.Nodes as machine
use Rattle.qs_ops.specs.declared.operation.Op.{Op}
use Rattle.qs_ops.specs.declared.operation.Op.TheVariants.{Lend, Put}
use Rattle.qs_ops.specs.declared.share.Share.{Share}
use Rattle.qs_world.specs.Driven.{Know, Stage, Take, cut, first_fault, make, rise, stop}
use Rattle.qs_world.specs.DrivenRuns.{client, put_at, said}
use Rattle.qs_world.specs.Histories.{book_of}
use Rattle.qs_world.specs.Moves.{Clock, Commanded, Handed, Queues}
use Rattle.qs_world.specs.Scenes.{member, setting_of}
use Rattle.qs_world.specs.World.{Opening, World, start}

-- client 0 owns the transaction at node 0 and lends it to client 1 at node 1; client 2 has others at node 2, where the votes are
abbrev lines : ℕ → ℕ × List ScriptLine
lines k =
    if k == 0
    then (
      0,
      said 0 3 (codes "a") commands.Begin ∷ said 0 4 (codes "a") (put_at 2 (codes "g") (codes "x")) ∷ said 0 5 (codes "a") (commands.Request (member 1 33) (Lend (client 1))) ∷ said 0 6 (codes "a") commands.Commit ∷ [],
    )
    else if k == 1
    then (1, said 1 7 (codes "a") commands.Take ∷ said 1 8 (codes "a") (put_at 2 (codes "h") (codes "y")) ∷ [])
    else if k == 2
    then (
      2,
      said 2 10 (codes "u") commands.Begin ∷ said 2 11 (codes "u") (put_at 2 (codes "k") (codes "z")) ∷ said 2 12 (codes "u") commands.Commit ∷ said 2 13 (codes "v") commands.Begin
          ∷ said 2 14 (codes "v") (put_at 2 (codes "h") (codes "w")) ∷ [],
    )
    else (0, [])

abbrev pub opens : Global → Opening
opens alloc = record { alloc = alloc; size = 3; settings = setting_of 3; logs = λ n. []; clients = lines }

abbrev all : List Stage → World → World
all stages world = fold make world stages

-- node 2 votes for the change of client 0, as commit is asked for
abbrev voted : Global → World
voted alloc = all (Know 0 1 ∷ Know 1 0 ∷ Know 0 2 ∷ Know 2 0 ∷ Take 0 (Commanded 0) ∷ Take 0 (Commanded 0) ∷ Take 2 (Handed 0) ∷ Take 2 Queues ∷ Take 0 (Handed 2)
    ∷ Take 0 (Commanded 0) ∷ Take 1 (Handed 0) ∷ Take 1 Queues ∷ Take 0 (Handed 1) ∷ Take 1 (Commanded 1)
    ∷ Take 0 (Commanded 0) ∷ Take 1 (Handed 0) ∷ Take 2 (Handed 0) ∷ Take 2 Clock ∷ Take 2 Clock ∷ []) (start (opens alloc))

-- the home restarts; node 2 learns the abort, and another commit there forces that its records are ended
abbrev ended : Global → World
ended alloc = all (Know 2 0 ∷ Know 0 2 ∷ Take 0 (Handed 2) ∷ Take 2 (Handed 0) ∷ Take 2 (Commanded 2) ∷ Take 2 (Commanded 2) ∷ Take 2 Queues ∷ Take 2 (Commanded 2) ∷ Take 2 Clock ∷ Take 2 Clock ∷ [])
    (rise 0 (stop 0 (voted alloc)))

-- it restarts; client 1 puts another file there, and as node 2 is asked it votes again, in a step that is cut off
abbrev pub again : Global → World
again alloc = cut 2 (Handed 1) true (all (Know 1 2 ∷ Take 1 (Commanded 1) ∷ Know 2 1 ∷ Take 2 (Handed 1) ∷ Take 2 Queues ∷ []) (rise 2 (stop 2 (ended alloc))))

-- it restarts once more, and a request of another transaction is busy with the change that is in doubt
abbrev pub after : Global → World
after alloc = all (Take 2 (Commanded 2) ∷ Take 2 (Commanded 2) ∷ Take 2 Queues ∷ []) (rise 2 (again alloc))

-- ---- which files are pending at node 2, as the machine has it and as the node has it

abbrev put_names : Op → List ℕ
put_names (Put name text) = name
put_names op = []

abbrev pending_files : List (Tid × Share) → List (List (List ℕ))
pending_files shares = map (λ (entry : Tid × Share). map put_names entry.1.changes) shares

abbrev in_state : Option machine.NodeValue → List (List (List ℕ))
in_state None = []
in_state (Some state) = pending_files state.files.shares

abbrev pub in_machine : Global → List (List (List ℕ))
in_machine alloc = in_state (slice_get (book_after (book_of (opens alloc)) (rise 2 (again alloc)).journal).nodes 2)

abbrev pub in_node : Global → List (List (List ℕ))
in_node alloc = pending_files ((rise 2 (again alloc)).hosts 2).node.servers.files.table.shares

pub record TriedStale (alloc : Global) : Type 0 where
  pub before : first_fault (opens alloc) (rise 2 (again alloc)) ≡ None
  pub machine_has : in_machine alloc ≡ (codes "h" ∷ []) ∷ []
  pub node_has : in_node alloc ≡ (codes "h" ∷ []) ∷ []
  pub lawful : first_fault (opens alloc) (after alloc) ≡ None
