-- The law of a run: what shows a transaction that has begun at one moment goes on to show it at each later one.
use Rattle.std.specs.Prelude.{◌<◌, ⊤, List, [], ◌∷◌}
use Rattle.qs_base.specs.declared.identifiers.Tid.{Tid}
use Rattle.qs_world.specs.Moves.{Move, moved}
use Rattle.qs_world.specs.Runs.{Run}
use Rattle.qs_world.specs.World.{World}
use Rattle.qs_world_agree.specs.World as machine
use Rattle.qs_world_refine.specs.EachMove.{ShowsAll, AllGoes, MessagesFit}
use Rattle.qs_world_refine.specs.Steady.{IsSteady, HasBegun}

-- what a move asks of the world before it
pub record MayGoOn (tid : Tid) (world : World) : Type 0 where
  pub steady : IsSteady world
  pub fits : MessagesFit world
  pub home_in : tid.home.0 < world.size
  pub began : HasBegun world tid

-- of each world of a run that is moved on
abbrev pub GoesAlong : Tid → World → List Move → Type 0
GoesAlong tid world [] = ⊤
GoesAlong tid world (move ∷ moves) = MayGoOn tid world × GoesAlong tid (moved move world) moves

abbrev pub EachRunGoes : Type 0
EachRunGoes = (tid : Tid) (moves : List Move) (old new : World) (w : machine.World) → Run old moves new → GoesAlong tid old moves → ShowsAll tid old w → AllGoes tid new w
