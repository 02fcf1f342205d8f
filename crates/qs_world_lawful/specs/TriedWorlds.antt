-- What is held of a whole world, tried on the states of runs: after each step, with a node down after it stopped or was cut off in a
-- step, and after its restart.
use Rattle.std.specs.Prelude.{◌≡◌, ℕ, zero, suc, Bool, true, false, ◌&&◌, List, [], ◌∷◌, take, drop, fold}
use Rattle.std.specs.Global.{Global}
use Rattle.std.specs.List.{list_all}
use Rattle.qs_book_machine.specs.Lawful.{book_after}
use Rattle.qs_world.specs.World.{World, Opening, start}
use Rattle.qs_world.specs.Driven.{Stage, Know, Take, cut, make, rise, rounds_of, stop, up_to}
use Rattle.qs_world.specs.DrivenRuns.{late}
use Rattle.qs_world.specs.Faults.{both}
use Rattle.qs_world.specs.Histories.{book_of}
use Rattle.qs_world_lawful.specs.Tried.{rich}
use Rattle.qs_world_lawful.specs.WorldTests.{lasts_ok, node_ok}

abbrev pub all_ok : Opening → World → Bool
all_ok o world = lasts_ok (book_after (book_of o) world.journal) && list_all (node_ok (book_after (book_of o) world.journal) world) (up_to o.size)

abbrev stages : Opening → ℕ → List Stage
stages o clients = rounds_of o.size clients 16

abbrev after_stages : Opening → ℕ → ℕ → World
after_stages o clients n = fold make (start o) (take n (stages o clients))

abbrev walk : Opening → World → List Stage → Bool
walk o world [] = all_ok o world
walk o world (stage ∷ stages) = all_ok o world && walk o (make world stage) stages

-- after each of so many stages from one on
abbrev pub worlds_ok : Opening → ℕ → ℕ → ℕ → Bool
worlds_ok o clients first count = walk o (after_stages o clients first) (take count (drop first (stages o clients)))

-- the node of a stage is cut off in its step, and is down, for so many stages; then it restarts
abbrev cut_stage : Bool → World → Stage → World
cut_stage is_kept world (Know n m) = stop n world
cut_stage is_kept world (Take n source) = cut n source is_kept world

abbrev risen : World → Stage → World
risen world (Know n m) = rise n world
risen world (Take n source) = rise n world

abbrev downs : Opening → Bool → ℕ → World → Stage → List Stage → Bool
downs o is_kept more world stage stages =
    all_ok o (cut_stage is_kept world stage)
    && (all_ok o (fold make (cut_stage is_kept world stage) (take more stages)) && all_ok o (risen (fold make (cut_stage is_kept world stage) (take more stages)) stage))

abbrev walk_down : Opening → Bool → ℕ → ℕ → World → List Stage → Bool
walk_down o is_kept more zero world stages = true
walk_down o is_kept more (suc count) world [] = true
walk_down o is_kept more (suc count) world (stage ∷ stages) = downs o is_kept more world stage stages && walk_down o is_kept more count (make world stage) stages

abbrev pub downs_ok : Opening → ℕ → Bool → ℕ → ℕ → ℕ → Bool
downs_ok o clients is_kept more first count = walk_down o is_kept more count (after_stages o clients first) (drop first (stages o clients))

-- a world whose logs are gone fails, as it should, and so does one whose history is
abbrev without_logs : World → World
without_logs world = record world { hosts = λ n. record (world.hosts n) { log = []; waiting = [] } }

abbrev pub fails_without_logs : Opening → ℕ → ℕ → Bool
fails_without_logs o clients n = all_ok o (without_logs (after_stages o clients n))

abbrev pub fails_without_history : Opening → ℕ → ℕ → Bool
fails_without_history o clients n = all_ok o (record (after_stages o clients n) { journal = [] })

pub record TriedWorlds (alloc : Global) : Type 0 where
  pub early : worlds_ok (rich alloc) 3 0 100 ≡ true
  pub later : worlds_ok (rich alloc) 3 320 50 ≡ true
  pub kept : downs_ok (rich alloc) 3 true 9 330 20 ≡ true
  pub lost : downs_ok (rich alloc) 3 false 9 350 20 ≡ true
  pub late_join : downs_ok (late alloc) 2 true 20 90 60 ≡ true
  pub two : downs_ok (both alloc) 1 true 5 20 100 ≡ true
  pub two_lost : downs_ok (both alloc) 1 false 5 20 100 ≡ true
  pub no_logs_fail : fails_without_logs (both alloc) 1 110 ≡ false
  pub no_history_fails : fails_without_history (rich alloc) 3 100 ≡ false
