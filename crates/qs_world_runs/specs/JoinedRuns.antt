-- The law of every run: all that stands together of a world stands as a run begins and after each move, and so each run is lawful.
use Rattle.std.specs.Prelude.{◌≡◌, true, List}
use Rattle.qs_world.specs.Histories.{IsLawfulRun}
use Rattle.qs_world.specs.Moves.{Move, may_move, moved}
use Rattle.qs_world.specs.Openings.{IsOpening}
use Rattle.qs_world.specs.Runs.{Run}
use Rattle.qs_world.specs.World.{Opening, World, start}
use Rattle.qs_world_runs.specs.Joined.{Joined}

-- all stands together as a run begins, and after each move
abbrev pub EachOpensJoined : (Opening → World → Type 0) → Type 0
EachOpensJoined P = (o : Opening) → IsOpening o → Joined P o (start o)

abbrev pub EachMoveJoined : (Opening → World → Type 0) → Type 0
EachMoveJoined P = (o : Opening) (world : World) (move : Move) → Joined P o world → may_move world move ≡ true → Joined P o (moved move world)

-- so it does over every run, and the run's history is lawful
abbrev pub EachRunJoined : (Opening → World → Type 0) → Type 0
EachRunJoined P = (o : Opening) (moves : List Move) (new : World) → IsOpening o → Run (start o) moves new → Joined P o new

abbrev pub EachRunLawful : Type 0
EachRunLawful = (o : Opening) (moves : List Move) (new : World) → IsLawfulRun o moves new
