-- A visit of a cell of a node among others, turn by turn: the packets that were carried, the clients, the queues and the clock. The cell with its clients
-- goes on in the world, where no memory was refused.
use Rattle.std.specs.Prelude.{◌≡◌, ℕ, List, Option, None, Some}
use Rattle.qs_cell.specs.Hearing.{Hears, Post}
use Rattle.qs_cell.specs.Restart.{in_round_as}
use Rattle.qs_cell.specs.State.{IsSeenAs}
use Rattle.qs_cell.specs.Visits.{IsSameNode, Seat, TakesTurn}
use Rattle.qs_cell.specs.WholeVisits.{Visits}
use Rattle.qs_cell.specs.declared.state.CellState.{CellState}
use Rattle.qs_cell.specs.declared.state.CellState.TheVariants as states
use Rattle.qs_cell_chronicle.specs.declared.occasion.Occasion.{Occasion}
use Rattle.qs_client.specs.declared.cell.ClientCell.{ClientCell}
use Rattle.qs_disk.specs.Disk.{DiskState}
use Rattle.qs_link.specs.declared.ends.NodeEnds.{NodeEnds}
use Rattle.qs_session_channels.specs.Network.{Among}
use Rattle.qs_world.specs.World.{Opening}
use Rattle.qs_world_seats.specs.Reached.{IsGranted, IsInWorld}
use Rattle.qs_world_seats.specs.Seats.{From, HasCell, IsDueFrom, left}

-- the cell of a post is in the world with its clients
abbrev pub PostInWorld : {D : Type 0} → Type 0 → (D → DiskState) → Opening → ℕ → Seat D → List ClientCell → Type 0
PostInWorld told state o n seat clients = IsInWorld told state o n seat.node seat.ends clients

-- ---- nothing happens as room is made, and as a visit begins

abbrev pub RoomGoesOn : {D : Type 0} → Type 0 → (D → DiskState) → Opening → ℕ → CellState D → CellState D → List NodeEnds → List ClientCell → Type 0
RoomGoesOn told state o n old ready ends clients = IsSameNode old ready → IsInWorld told state o n old ends clients → IsInWorld told state o n ready ends clients

abbrev pub VisitBegins : {D : Type 0} → Type 0 → (D → DiskState) → Opening → ℕ → CellState D → CellState D → List NodeEnds → List ClientCell → Type 0
VisitBegins told state o n old begun ends clients = IsSeenAs in_round_as old begun → IsInWorld told state o n old ends clients → IsInWorld told state o n begun ends clients

-- ---- a turn

-- what is due of a source, and the lanes that it leaves; nothing is due of a node that is down
abbrev pub IsTurn : {D : Type 0} → From → CellState D → List NodeEnds → List ClientCell → Option Occasion → List NodeEnds → Type 0
IsTurn source (states.Up running) ends clients None rest = rest ≡ ends
IsTurn source (states.Up running) ends clients (Some occasion) rest = IsDueFrom source occasion running.sessions running ends clients × (rest ≡ left source running ends)
IsTurn source (states.Down stopped) ends clients due rest = (due ≡ None) × (rest ≡ ends)

abbrev pub TurnGoesOn : {D : Type 0} → Type 0 → (D → DiskState) → (D → ℕ) → (D → ℕ) → Opening → ℕ → From → CellState D → List NodeEnds → Seat D → List ClientCell → Type 0
TurnGoesOn told state own size o n source ready ends new clients =
    (due : Option Occasion) (rest : List NodeEnds) → IsTurn source ready ends clients due rest → TakesTurn told state own size due rest (record { node = ready; ends = ends }) new
    → IsGranted new.node → IsInWorld told state o n ready ends clients → PostInWorld told state o n new clients

-- a packet of node m
abbrev pub HearsGoOn : {D : Type 0} → Type 0 → (D → DiskState) → (D → ℕ) → (D → ℕ) → Opening → ℕ → ℕ → Post D → Post D → List ClientCell → Type 0
HearsGoOn told state own size o n m old new clients =
    Hears told state own size m old new → IsGranted new.seat.node → PostInWorld told state o n old.seat clients → PostInWorld told state o n new.seat clients

-- ---- a visit

-- each lane of the node is of one of the clients
abbrev pub AreOfClients : List NodeEnds → List ClientCell → Type 0
AreOfClients ends clients = (end : NodeEnds) → Among ends end → HasCell end.client clients

abbrev pub VisitsGoOn : {D : Type 0} → Type 0 → (D → DiskState) → (D → ℕ) → (D → ℕ) → Opening → ℕ → Post D → Post D → List ClientCell → Type 0
VisitsGoOn told state own size o n old new clients =
    Visits told state own size old new → IsGranted new.seat.node → AreOfClients old.seat.ends clients → PostInWorld told state o n old.seat clients → PostInWorld told state o n new.seat clients
