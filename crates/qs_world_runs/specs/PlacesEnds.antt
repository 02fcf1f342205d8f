-- A step begins with the field of its world, and the world has after it what the step ends with.
use Rattle.std.specs.Prelude.{◌≡◌, ℕ, ◌≤◌, true, length}
use Rattle.qs_base.specs.declared.identifiers.Tid.{Tid}
use Rattle.qs_session_channels.specs.Channels.{Channels}
use Rattle.qs_book_machine.specs.Book.{BookValue}
use Rattle.qs_node_step.specs.State.{Work, work_on}
use Rattle.qs_node_step.specs.Step.{accept}
use Rattle.qs_world.specs.Moves.{Source, stepped, taken_by}
use Rattle.qs_world.specs.World.{Parcel, World}
use Rattle.qs_world_runs.specs.Placed.{field_of}
use Rattle.qs_world_runs.specs.PlacedActs.{OpenPlaced}
use Rattle.qs_world_runs.specs.PlacesAmid.{Here, PlacedAmid, book_amid}

-- what comes in the step is off its way, or a restart is known
abbrev pub taken : World → ℕ → Source → World
taken world n source = record world { channels = taken_by world n source }

-- no more was handed up than was posted, and of a node that runs no later incarnation is known than there is
pub record AreInOrder (channels : Channels Parcel) (n : ℕ) : Type 0 where
  pub up : channels.up n ≡ true
  pub known : (q : ℕ) → channels.peer q n ≤ channels.inc n
  pub handed : (p q i j : ℕ) → length (channels.handed p q i j) ≤ length (channels.posted p q i j)

abbrev pub StepBegins : Type 0
StepBegins = (t : Tid) (book : BookValue) (world : World) (n stamp free : ℕ) → Here t (OpenPlaced t (field_of world)) book → PlacedAmid t (field_of world) (world.channels.peer n) n stamp book (work_on (world.hosts n).node free)

abbrev pub StepEnds : Type 0
StepEnds = (t : Tid) (book : BookValue) (world : World) (n stamp : ℕ) (source : Source) (work : Work) → AreInOrder (taken_by world n source) n → PlacedAmid t (field_of (taken world n source)) ((taken_by world n source).peer n) n stamp book work
    → Here t (OpenPlaced t (field_of (stepped world n stamp source (accept work.node) work.out))) (book_amid n stamp book work)
