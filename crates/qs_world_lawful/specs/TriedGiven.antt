-- What a step is given, tried on the states of whole runs: after each step, after steps that were cut off and restarts, and where a node
-- serves timers alone, and forgets.
use Rattle.std.specs.Prelude.{◌≡◌, ℕ, ◌==◌, Bool, true, false, not, ◌&&◌, ◌||◌, List, [], ◌∷◌, codes, take, drop, fold, if◌then◌else◌}
use Rattle.std.specs.Global.{Global}
use Rattle.std.specs.List.{list_all}
use Rattle.qs_ops.specs.declared.operation.Op.TheVariants.{Timer}
use Rattle.qs_book_journal.specs.declared.script_line.Command.TheVariants as commands
use Rattle.qs_book_journal.specs.declared.script_line.ScriptLine.{ScriptLine}
use Rattle.qs_book_machine.specs.Book.{BookValue}
use Rattle.qs_book_machine.specs.Lawful.{book_after}
use Rattle.qs_world.specs.World.{World, Opening, start}
use Rattle.qs_world.specs.Scenes.{setting_of, member}
use Rattle.qs_world.specs.Driven.{make, rounds_of, up_to}
use Rattle.qs_world.specs.DrivenRuns.{said}
use Rattle.qs_world.specs.Faults.{both, cut_next, places_from}
use Rattle.qs_world.specs.Histories.{book_of}
use Rattle.qs_world_lawful.specs.GivenTests.{channels_test, clients_test, holds_beside_test, node_test}
use Rattle.qs_world_lawful.specs.Tried.{rich, world_ok}

-- ---- a node of which only timers are used

abbrev timed_lines : ℕ → ℕ × List ScriptLine
timed_lines k =
    if k == 0
    then (0, said 0 3 (codes "a") commands.Begin ∷ said 0 4 (codes "a") (commands.Request (member 1 3) (Timer (codes "t") 3)) ∷ said 0 5 (codes "a") commands.Commit ∷ [])
    else (0, [])

abbrev pub timed : Global → Opening
timed alloc = record { alloc = alloc; size = 2; settings = setting_of 2; logs = λ n. []; clients = timed_lines }

-- ---- states

abbrev all_test : BookValue → World → Bool
all_test book world = list_all (λ (n : ℕ). not (world.channels.up n) || (node_test (world.hosts n).node && holds_beside_test book (world.hosts n).node)) (up_to world.size)
    && (channels_test book world && clients_test book world)

abbrev given_ok : Opening → World → Bool
given_ok o world = all_test (book_after (book_of o) world.journal) world

abbrev after_stages : Opening → ℕ → ℕ → World
after_stages o clients n = fold make (start o) (take n (rounds_of o.size clients 9))

abbrev midway : Opening → ℕ → Bool → ℕ → ℕ → World
midway o clients is_kept more first = fold make (cut_next is_kept (after_stages o clients first) (drop first (rounds_of o.size clients 9))) (take more (drop first (rounds_of o.size clients 9)))

abbrev pub stages_given : Opening → ℕ → ℕ → ℕ → Bool
stages_given o clients first count = list_all (λ (n : ℕ). given_ok o (after_stages o clients n)) (places_from first count)

abbrev pub midways_given : Opening → ℕ → Bool → ℕ → ℕ → ℕ → Bool
midways_given o clients is_kept more first count = list_all (λ (n : ℕ). given_ok o (midway o clients is_kept more n)) (places_from first count)

abbrev pub timed_ok : Opening → ℕ → ℕ → Bool
timed_ok o first count = list_all (λ (n : ℕ). world_ok o (after_stages o 1 n)) (places_from first count)

pub record TriedGiven (alloc : Global) : Type 0 where
  pub early : stages_given (rich alloc) 3 0 60 ≡ true
  pub later : stages_given (rich alloc) 3 60 80 ≡ true
  pub kept : midways_given (rich alloc) 3 true 13 40 30 ≡ true
  pub lost : midways_given (rich alloc) 3 false 21 40 30 ≡ true
  pub two : midways_given (both alloc) 1 true 9 0 40 ≡ true
  pub timers : timed_ok (timed alloc) 0 50 ≡ true
