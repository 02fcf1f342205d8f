-- A test in each world along a run, with what the machine has of the history so far: also while a node is down, after its restart, and in a run that is written out.
use Rattle.std.specs.Prelude.{ℕ, zero, suc, ◌==◌, Bool, true, ◌&&◌, List, [], ◌∷◌, ◌++◌, drop, fold, length, map, take, if◌then◌else◌}
use Rattle.qs_book_machine.specs.Book.{BookValue}
use Rattle.qs_book_machine.specs.Lawful.{book_after}
use Rattle.qs_world.specs.Driven.{Know, Stage, Take, cut, make, rise, rounds_of, stop}
use Rattle.qs_world.specs.Histories.{book_of}
use Rattle.qs_world.specs.Moves.{Source}
use Rattle.qs_world.specs.World.{Opening, World, start}

-- what is asked of a world of the run that opens so
abbrev pub Test : Type 0
Test = Opening → BookValue → World → Bool

-- what is done next
pub data Doing : Type 0 where
  Make : Stage → Doing
  Stop : ℕ → Doing
  CutOff : ℕ → Source → Bool → Doing  -- with its batch kept, or not
  Rise : ℕ → Doing

abbrev pub done : World → Doing → World
done world (Make stage) = make world stage
done world (Stop n) = stop n world
done world (CutOff n source is_kept) = cut n source is_kept world
done world (Rise n) = rise n world

-- the world that a run has come to, the machine beside it, and whether all so far passed
pub record Walk : Type 0 where
  pub book : BookValue
  pub world : World
  pub holds : Bool

abbrev book_on : BookValue → World → World → BookValue
book_on book old new = book_after book (drop (length old.journal) new.journal)

abbrev tested : Test → Opening → Bool → BookValue → World → Walk
tested test o so_far book world = record { book = book; world = world; holds = so_far && test o book world }

-- where nothing could be done the world is the same
abbrev gone_on : Test → Opening → Walk → World → Walk
gone_on test o walk new = if new.last.0 == walk.world.last.0 then walk else tested test o walk.holds (book_on walk.book walk.world new) new

abbrev step : Test → Opening → Walk → Doing → Walk
step test o walk doing = gone_on test o walk (done walk.world doing)

abbrev from : Test → Opening → World → Walk
from test o world = tested test o true (book_after (book_of o) world.journal) world

abbrev walk_from : Test → Opening → Walk → List Doing → Walk
walk_from test o walk doings = fold (step test o) walk doings

-- in each world of a run from its beginning on
abbrev pub all_along : Test → Opening → List Doing → Bool
all_along test o doings = (walk_from test o (from test o (start o)) doings).holds

abbrev pub made : List Stage → List Doing
made stages = map Make stages

-- under the driver, so many stages from one on
abbrev pub after_stages : Opening → ℕ → ℕ → World
after_stages o clients n = fold make (start o) (take n (rounds_of o.size clients 16))

abbrev pub all_in : Test → Opening → ℕ → ℕ → ℕ → Bool
all_in test o clients first count = (walk_from test o (from test o (after_stages o clients first)) (made (take count (drop first (rounds_of o.size clients 16))))).holds

-- and where the node of a stage stops, or is cut off in its step, and restarts so many stages later; and in as many stages more
abbrev cut_stage : Bool → Stage → Doing
cut_stage is_kept (Know n m) = Stop n
cut_stage is_kept (Take n source) = CutOff n source is_kept

abbrev risen : Stage → Doing
risen (Know n m) = Rise n
risen (Take n source) = Rise n

abbrev down : Bool → ℕ → Stage → List Stage → List Doing
down is_kept more stage stages = (cut_stage is_kept stage ∷ []) ++ (made (take more stages) ++ ((risen stage ∷ []) ++ made (take more stages)))

abbrev walk_down : Test → Opening → Bool → ℕ → ℕ → Walk → List Stage → Bool
walk_down test o is_kept more zero walk stages = walk.holds
walk_down test o is_kept more (suc count) walk [] = walk.holds
walk_down test o is_kept more (suc count) walk (stage ∷ stages) =
    (walk_from test o walk (down is_kept more stage stages)).holds && walk_down test o is_kept more count (step test o walk (Make stage)) stages

abbrev pub all_after : Test → Opening → ℕ → Bool → ℕ → ℕ → ℕ → Bool
all_after test o clients is_kept more first count = walk_down test o is_kept more count (from test o (after_stages o clients first)) (drop first (rounds_of o.size clients 16))

-- ---- of worlds that are changed so that not all of them should pass

abbrev pub changed : Test → (World → World) → Test
changed test change o book world = test o (book_after (book_of o) (change world).journal) (change world)
