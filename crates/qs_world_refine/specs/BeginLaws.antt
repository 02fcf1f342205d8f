-- The law of a transaction that begins: until its home has given its number the machine at its start shows it; from the move in which it begins, or in which its home
-- stops, what that start leads to shows it.
use Rattle.std.specs.Prelude.{◌≡◌, ℕ, ◌<◌, true, false}
use Rattle.qs_base.specs.declared.identifiers.Tid.{Tid}
use Rattle.qs_restart.specs.Recovery.{names_transaction}
use Rattle.qs_world.specs.Moves.{Move, Rise, may_move, moved}
use Rattle.qs_world.specs.World.{World}
use Rattle.qs_world_agree.specs.Carry.{IsLawful, Begins}
use Rattle.qs_world_agree.specs.World as machine
use Rattle.qs_world_refine.specs.Begun.{may_be_known}
use Rattle.qs_world_refine.specs.EachMove.{ShowsAll}
use Rattle.qs_world_refine.specs.Shows.{scene_of, sight}
use Rattle.qs_world_refine.specs.Starts.{IsUnseen, opening_seen}
use Rattle.qs_world_refine.specs.Steadies.{IsSteadyWorld, MachineMoves}
use Rattle.qs_world_refine.specs.Steady.{IsSteady}

-- a transaction of a node of the run whose number is still to be given
pub record IsUnbegun (tid : Tid) (world : World) : Type 0 where
  pub numbered : names_transaction tid ≡ true
  pub home_in : tid.home.0 < world.size
  pub unknown : may_be_known world tid ≡ false

-- nothing is seen of it
abbrev pub UnbegunUnseen : Type 0
UnbegunUnseen = (tid : Tid) (world : World) → IsSteadyWorld world → IsUnbegun tid world → IsUnseen tid (sight tid (scene_of world))

-- and where its home runs, in the incarnation that is to give the number, the machine at its start shows it, with all that nodes know
abbrev pub UnbegunShown : Type 0
UnbegunShown = (tid : Tid) (world : World) → IsSteadyWorld world → IsUnbegun tid world → world.channels.up tid.home.0 ≡ true → tid.inc ≡ world.channels.inc tid.home.0
    → ShowsAll tid world (machine.start (opening_seen tid (sight tid (scene_of world))))

-- after a move its number is still to be given; or the machine began, in the world before it, and has gone on to what shows it. So it is too where its home stops
-- before it gave the number
abbrev pub EachBegins : Type 0
EachBegins = (tid : Tid) (world : World) (move : Move) → may_move world move ≡ true → MachineMoves world move → IsSteady world → IsSteadyWorld world → IsUnbegun tid world → Begins IsUnbegun ShowsAll tid (moved move world)

-- a restart that passes it over
abbrev pub PassedShown : Type 0
PassedShown = (tid : Tid) (world : World) (stamp inc : ℕ) → IsSteadyWorld world → IsUnbegun tid world → world.channels.up tid.home.0 ≡ false → world.channels.inc tid.home.0 < inc → tid.inc < inc
    → (w : machine.World) × (IsLawful w × ShowsAll tid (moved (Rise tid.home.0 stamp inc) world) w)
