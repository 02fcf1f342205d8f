-- As a round begins, what stands in the lanes between a node and its clients is carried, and each client has its turn: nothing happens in the world, and
-- the cell with its clients is there as before.
use Rattle.std.specs.Prelude.{ℕ, Bool, List, slice_get}
use Rattle.qs_cell.specs.Starts.{CellValue}
use Rattle.qs_client.specs.declared.cell.ClientCell.{ClientCell}
use Rattle.qs_disk.specs.Disk.{DiskState}
use Rattle.qs_world.specs.World.{Opening}
use Rattle.qs_world_one.specs.Seats.{AreApart}
use Rattle.qs_world_rounds.specs.Rounds.{CarriesAll, ClientVisitAt}
use Rattle.qs_world_seats.specs.Visiting.{PostInWorld}

-- no two clients have one number, and the cell is in the world with them
pub record IsWithClients {D : Type 0} (told : Type 0) (state : D → DiskState) (o : Opening) (n : ℕ) (cell : CellValue D) (clients : List ClientCell) : Type 0 where
  pub apart : AreApart clients
  pub there : PostInWorld told state o n cell.seat clients

-- the lanes are carried
abbrev pub CarriesGoOn : {D : Type 0} → Type 0 → (D → DiskState) → Opening → ℕ → CellValue D → CellValue D → List ClientCell → List ClientCell → Type 0
CarriesGoOn told state o n old new befores afters = CarriesAll old new befores afters → IsWithClients told state o n old befores → IsWithClients told state o n new afters

-- the client at a place has its turn
abbrev pub ClientsGoOn : {D : Type 0} → Type 0 → (D → DiskState) → Opening → ℕ → CellValue D → List ClientCell → List ClientCell → ℕ → Bool → Type 0
ClientsGoOn told state o n cell clients new at did = ClientVisitAt at (slice_get clients at) clients new did → IsWithClients told state o n cell clients → IsWithClients told state o n cell new
