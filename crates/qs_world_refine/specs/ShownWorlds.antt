-- Worlds in which each transaction that has begun is shown: a move of one asks nothing, and leads to one where those that begin in it are shown.
use Rattle.std.specs.Prelude.{◌≡◌, true, false, List}
use Rattle.qs_base.specs.declared.identifiers.Tid.{Tid}
use Rattle.qs_world.specs.Moves.{Move, may_move, moved}
use Rattle.qs_world.specs.Runs.{Run}
use Rattle.qs_world.specs.World.{World}
use Rattle.qs_world_agree.specs.World as machine
use Rattle.qs_world_refine.specs.Begun.{has_begun}
use Rattle.qs_world_refine.specs.EachMove.{ShowsAll, AllGoes, MessagesFit}
use Rattle.qs_world_refine.specs.Listed.{IsListedWorld}
use Rattle.qs_world_refine.specs.Steadies.{IsSteadyWorld, MachineMoves}

-- ---- such a world

-- some world of the agreement machine shows the transaction
pub record IsShown (tid : Tid) (world : World) : Type 0 where
  pub machine : machine.World
  pub shows : ShowsAll tid world machine

-- each transaction whose number its home's node has given, or gives no more: those of the run, and those of an earlier one, whether a log names them or not
abbrev pub AllShown : World → Type 0
AllShown world = (tid : Tid) → has_begun world tid ≡ true → IsShown tid world

pub record IsShownWorld (world : World) : Type 0 where
  pub steady : IsSteadyWorld world
  pub listed : IsListedWorld world
  pub shown : AllShown world

-- ---- what it gives

-- whatever message comes fits
abbrev pub ShownFit : Type 0
ShownFit = (world : World) → IsShownWorld world → MessagesFit world

-- and is what the machine has
abbrev pub ShownGives : Type 0
ShownGives = (world : World) (move : Move) → may_move world move ≡ true → IsShownWorld world → MachineMoves world move

-- so a move goes on to show a transaction that has begun
abbrev pub ShownGoes : Type 0
ShownGoes = (tid : Tid) (world : World) (move : Move) (w : machine.World) → may_move world move ≡ true → IsShownWorld world → has_begun world tid ≡ true → ShowsAll tid world w → AllGoes tid (moved move world) w

-- ---- after moves

-- what has begun has begun for good
abbrev pub BegunStays : Type 0
BegunStays = (tid : Tid) (world : World) (move : Move) → may_move world move ≡ true → MachineMoves world move → IsSteadyWorld world → has_begun world tid ≡ true → has_begun (moved move world) tid ≡ true

-- those that begin in a move, or of whose home's incarnation it is the end, are shown after it
abbrev pub BegunAreShown : World → Move → Type 0
BegunAreShown world move = (tid : Tid) → has_begun world tid ≡ false → has_begun (moved move world) tid ≡ true → IsShown tid (moved move world)

abbrev pub MoveShown : Type 0
MoveShown = (world : World) (move : Move) → may_move world move ≡ true → IsShownWorld world → BegunAreShown world move → IsShownWorld (moved move world)

-- where that is a law of each move, it is so of each world of a run
abbrev pub EachBegunShown : Type 0
EachBegunShown = (world : World) (move : Move) → may_move world move ≡ true → IsShownWorld world → BegunAreShown world move

abbrev pub RunShown : Type 0
RunShown = (moves : List Move) (old new : World) → EachBegunShown → Run old moves new → IsShownWorld old → IsShownWorld new

-- and each transaction that has begun goes on, from any world of the run on
abbrev pub ShownRunGoes : Type 0
ShownRunGoes = (tid : Tid) (moves : List Move) (old new : World) (w : machine.World) → EachBegunShown → Run old moves new → IsShownWorld old → has_begun old tid ≡ true → ShowsAll tid old w → AllGoes tid new w
