-- The tests on the states of whole runs: after each step, and after steps that were cut off and restarts.
use Rattle.std.specs.Prelude.{◌≡◌, ℕ, ◌==◌, Bool, true, false, not, ◌||◌, List, [], ◌∷◌, codes, take, drop, fold, Some, if◌then◌else◌}
use Rattle.std.specs.Global.{Global}
use Rattle.std.specs.List.{list_all}
use Rattle.qs_ops.specs.declared.operation.Op.{Op}
use Rattle.qs_ops.specs.declared.operation.Op.TheVariants.{Put, Append, Get, Note, Bind, Timer, Window, Keep, Lend}
use Rattle.qs_book_journal.specs.declared.script_line.Command.{Command}
use Rattle.qs_book_journal.specs.declared.script_line.Command.TheVariants as commands
use Rattle.qs_book_journal.specs.declared.script_line.ScriptLine.{ScriptLine}
use Rattle.qs_book_machine.specs.Lawful.{book_after}
use Rattle.qs_node_step.specs.declared.setting.Setting.{Setting}
use Rattle.qs_world.specs.World.{World, Opening, start}
use Rattle.qs_world.specs.Scenes.{setting_of, member}
use Rattle.qs_world.specs.Driven.{Stage, make, rounds_of, up_to}
use Rattle.qs_world.specs.DrivenRuns.{said, client, late, taken}
use Rattle.qs_world.specs.Faults.{both, cut_next, places_from}
use Rattle.qs_world.specs.Histories.{book_of}
use Rattle.qs_world_lawful.specs.Tests.{holds_test}

-- ---- three nodes whose files note their changes, with all servers, a loan, and transactions that conflict

abbrev asks : ℕ → ℕ → Op → Command
asks n server op = commands.Request (member n server) op

abbrev rich_lines : ℕ → ℕ × List ScriptLine
rich_lines k =
    if k == 0
    then (
      0,
      said 0 3 (codes "a") commands.Begin ∷ said 0 4 (codes "a") (asks 1 0 (Put (codes "f") (codes "x"))) ∷ said 0 5 (codes "a") (asks 2 2 (Bind (codes "n") (codes "1")))
          ∷ said 0 6 (codes "a") (asks 1 3 (Timer (codes "t") 3)) ∷ said 0 7 (codes "a") (asks 1 33 (Lend (client 1))) ∷ said 0 8 (codes "a") (asks 2 4 (Window (codes "w") (codes "t")))
          ∷ said 0 9 (codes "a") (asks 0 5 (Keep (codes "s") (codes "v"))) ∷ said 0 10 (codes "a") commands.Commit
          ∷ said 0 11 (codes "b") commands.Begin ∷ said 0 12 (codes "b") (asks 1 0 (Append (codes "f") (codes "y"))) ∷ said 0 13 (codes "b") (asks 2 2 (Bind (codes "n") (codes "2")))
          ∷ said 0 14 (codes "b") commands.Commit ∷ said 0 15 (codes "c") commands.Begin ∷ said 0 16 (codes "c") (asks 0 0 (Put (codes "h") (codes "z"))) ∷ said 0 17 (codes "c") commands.Abort ∷ [],
    )
    else if k == 1
    then (
      1,
      said 1 20 (codes "a") commands.Take ∷ said 1 21 (codes "a") (asks 2 0 (Put (codes "g") (codes "y"))) ∷ said 1 22 (codes "a") (asks 1 0 (Get (codes "f")))
          ∷ said 1 23 (codes "a") (asks 0 2 (Bind (codes "m") (codes "3"))) ∷ said 1 24 (codes "a") commands.Yield ∷ [],
    )
    else if k == 2
    then (
      2,
      said 2 30 (codes "d") commands.Begin ∷ said 2 31 (codes "d") (asks 1 0 (Get (codes "f"))) ∷ said 2 32 (codes "d") (asks 2 1 (Note (codes "hey"))) ∷ said 2 33 (codes "d") commands.Commit ∷ [],
    )
    else (0, [])

abbrev noting : ℕ → Setting
noting n = record (setting_of 3 n) { audit = Some (record { 0 = 2 }) }

abbrev pub rich : Global → Opening
rich alloc = record { alloc = alloc; size = 3; settings = noting; logs = λ n. []; clients = rich_lines }

-- ---- states

abbrev node_ok : Opening → World → ℕ → Bool
node_ok o world n = not (world.channels.up n) || holds_test (book_after (book_of o) world.journal) (world.hosts n).node

abbrev pub world_ok : Opening → World → Bool
world_ok o world = list_all (node_ok o world) (up_to o.size)

abbrev stages : Opening → ℕ → List Stage
stages o clients = rounds_of o.size clients 9

abbrev after_stages : Opening → ℕ → ℕ → World
after_stages o clients n = fold make (start o) (take n (stages o clients))

-- after so many stages from one count on
abbrev pub stages_ok : Opening → ℕ → ℕ → ℕ → Bool
stages_ok o clients first count = list_all (λ (n : ℕ). world_ok o (after_stages o clients n)) (places_from first count)

-- so many stages after a step that was cut off and a restart
abbrev midway : Opening → ℕ → Bool → ℕ → ℕ → World
midway o clients is_kept more first =
    fold make (cut_next is_kept (after_stages o clients first) (drop first (stages o clients))) (take more (drop first (stages o clients)))

abbrev pub midways_ok : Opening → ℕ → Bool → ℕ → ℕ → ℕ → Bool
midways_ok o clients is_kept more first count = list_all (λ (n : ℕ). world_ok o (midway o clients is_kept more n)) (places_from first count)

-- a state without its history fails, as it should
abbrev pub fails_without_history : Opening → ℕ → ℕ → Bool
fails_without_history o clients n = list_all (λ (k : ℕ). holds_test (book_of o) ((after_stages o clients n).hosts k).node) (up_to o.size)

pub record Tried (alloc : Global) : Type 0 where
  pub early : stages_ok (rich alloc) 3 0 100 ≡ true
  pub later : stages_ok (rich alloc) 3 100 100 ≡ true
  pub kept : midways_ok (rich alloc) 3 true 13 40 60 ≡ true
  pub lost : midways_ok (rich alloc) 3 false 21 40 60 ≡ true
  pub late_join : stages_ok (late alloc) 2 60 60 ≡ true
  pub two : midways_ok (both alloc) 1 true 9 0 60 ≡ true
  pub one : stages_ok (taken alloc) 2 0 60 ≡ true
  pub empty_fails : fails_without_history (rich alloc) 3 100 ≡ false
