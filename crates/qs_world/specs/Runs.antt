-- Runs of the world: one move after another, each where it may be.
use Rattle.std.specs.Prelude.{◌≡◌, Bool, true, ◌&&◌, List, [], ◌∷◌}
use Rattle.qs_world.specs.World.{World}
use Rattle.qs_world.specs.Moves.{Move, moved, may_move}

abbrev pub Run : World → List Move → World → Type 0
Run old [] new = new ≡ old
Run old (move ∷ moves) new = (may_move old move ≡ true) × Run (moved move old) moves new

-- the same as functions: whether each may be, and where they lead
abbrev pub may_run : World → List Move → Bool
may_run world [] = true
may_run world (move ∷ moves) = may_move world move && may_run (moved move world) moves

abbrev pub after_moves : World → List Move → World
after_moves world [] = world
after_moves world (move ∷ moves) = after_moves (moved move world) moves
