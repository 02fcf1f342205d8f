-- Runs of scripts under the driver: their answers, and that their histories are lawful.
use Rattle.qs_ops.specs.declared.answer.Answer.TheVariants as answers
use Rattle.qs_ops.specs.declared.answer.Cause.TheVariants as causes
use Rattle.qs_ops.specs.declared.vote.Reason.TheVariants as reasons
use Rattle.std.specs.Prelude.{◌≡◌, ℕ, ◌==◌, false, List, [], ◌∷◌, codes, None, if◌then◌else◌}
use Rattle.qs_base.specs.declared.identifiers.ClientNo.{ClientNo}
use Rattle.qs_ops.specs.declared.operation.Op.TheVariants.{Put, Get, Lend, Bind}
use Rattle.qs_book_journal.specs.declared.script_line.Command.{Command}
use Rattle.qs_book_journal.specs.declared.script_line.Command.TheVariants as commands
use Rattle.qs_book_journal.specs.declared.script_line.ScriptLine.{ScriptLine}
use Rattle.std.specs.Global.{Global}
use Rattle.qs_ipc.specs.Ipc.{queued}
use Rattle.qs_world.specs.World.{World, Opening, start}
use Rattle.qs_world.specs.Scenes.{setting_of, member}
use Rattle.qs_world.specs.Driven.{rounds, answers_in, first_fault}

abbrev pub client : ℕ → ClientNo
client k = record { 0 = k }

-- a line of a client
abbrev pub said : ℕ → ℕ → List ℕ → Command → ScriptLine
said k number label command = record { client = client k; line = number; label = label; command = command }

abbrev pub put_at : ℕ → List ℕ → List ℕ → Command
put_at n name text = commands.Request (member n 0) (Put name text)

abbrev pub get_at : ℕ → List ℕ → Command
get_at n name = commands.Request (member n 0) (Get name)

-- ---- a borrower joins late: client 1 at node 1 puts a file at node 2 while commit runs

abbrev pub late_lines : ℕ → ℕ × List ScriptLine
late_lines k =
    if k == 0
    then (
      0,
      said 0 3 (codes "a") commands.Begin
          ∷ said 0 4 (codes "a") (put_at 0 (codes "f") (codes "x"))
          ∷ said 0 5 (codes "a") (commands.Request (member 1 33) (Lend (client 1)))
          ∷ said 0 6 (codes "a") commands.Commit ∷ [],
    )
    else if k == 1
    then (
      1,
      said 1 7 (codes "a") commands.Take
          ∷ said 1 8 (codes "b") commands.Begin
          ∷ said 1 9 (codes "b") (get_at 1 (codes "z"))
          ∷ said 1 10 (codes "b") (get_at 1 (codes "z"))
          ∷ said 1 29 (codes "a") (put_at 2 (codes "g") (codes "y"))
          ∷ said 1 30 (codes "a") commands.Yield
          ∷ said 1 31 (codes "b") commands.Abort ∷ [],
    )
    else (0, [])

abbrev pub late : Global → Opening
late alloc = record { alloc = alloc; size = 3; settings = setting_of 3; logs = λ n. []; clients = late_lines }

abbrev pub late_world : Global → World
late_world alloc = rounds 2 12 (start (late alloc))

pub record LateJoin (alloc : Global) : Type 0 where
  pub lawful : first_fault (late alloc) (late_world alloc) ≡ None
  pub home : ((late_world alloc).hosts 0).node.servers.files.table.contents ≡ record { name = codes "f"; content = codes "x" } ∷ []
  pub joined : ((late_world alloc).hosts 2).node.servers.files.table.contents ≡ record { name = codes "g"; content = codes "y" } ∷ []
  pub ended : (((late_world alloc).clients 0).lines ≡ []) × (((late_world alloc).clients 1).lines ≡ [])
  pub queues : queued ((late_world alloc).hosts 1).node.queues ≡ false

-- ---- two transactions bind one name: the one that votes later is refused

abbrev pub bind_x : List ℕ → Command
bind_x text = commands.Request (member 0 2) (Bind (codes "x") text)

abbrev pub taken_lines : ℕ → ℕ × List ScriptLine
taken_lines k =
    if k == 0
    then (
      0,
      said 0 3 (codes "a") commands.Begin ∷ said 0 4 (codes "a") (bind_x (codes "one"))
          ∷ said 0 5 (codes "a") (commands.Request (member 0 33) (Lend (client 1))) ∷ said 0 6 (codes "a") commands.Commit ∷ [],
    )
    else if k == 1
    then (
      0,
      said 1 7 (codes "a") commands.Take ∷ said 1 8 (codes "b") commands.Begin ∷ said 1 9 (codes "b") (bind_x (codes "two"))
          ∷ said 1 10 (codes "b") commands.Commit ∷ said 1 11 (codes "a") commands.Yield ∷ [],
    )
    else (0, [])

abbrev pub taken : Global → Opening
taken alloc = record { alloc = alloc; size = 1; settings = setting_of 1; logs = λ n. []; clients = taken_lines }

abbrev pub taken_world : Global → World
taken_world alloc = rounds 2 12 (start (taken alloc))

pub record Taken (alloc : Global) : Type 0 where
  pub lawful : first_fault (taken alloc) (taken_world alloc) ≡ None
  pub answers : answers_in (taken_world alloc)
      ≡ (3, answers.Done) ∷ (4, answers.Done) ∷ (5, answers.Done) ∷ (7, answers.Done) ∷ (8, answers.Done) ∷ (9, answers.Done)
      ∷ (10, answers.Committed) ∷ (11, answers.Done)
      ∷ (6, answers.Aborted (causes.Voted (member 0 2) (reasons.Taken (codes "x")))) ∷ []
