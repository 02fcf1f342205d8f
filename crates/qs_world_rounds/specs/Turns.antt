-- The turn of a site in a burst, and so many of them: in a thread of its own, whatever other sites do meanwhile.
use Rattle.std.specs.Prelude.{◌≡◌, ◌⊎◌, ℕ, zero, suc, Bool, true, false, List, length, map}
use Rattle.qs_cell.specs.Acts.{Acts, BreaksAct}
use Rattle.qs_cell.specs.Starts.{CellValue, post_of}
use Rattle.qs_cell.specs.State.{cause_of}
use Rattle.qs_client.specs.declared.cell.ClientCell.{ClientCell}
use Rattle.qs_disk.specs.Disk.{DiskState}
use Rattle.qs_world_plans.specs.Order.{places_below}
use Rattle.qs_world_rounds.specs.Rounds.{CarriesAll, Cast, IsSameStart, VisitAll, is_refused}

-- ---- a turn

-- the places of the clients, which are behind the node's
abbrev pub client_places : List ClientCell → List ℕ
client_places clients = map suc (places_below (length clients))

-- the node acts, and memory is not refused within its step
pub record ActsInTurn {D : Type 0} (told : Type 0) (state : D → DiskState) (own size : D → ℕ) (old new : CellValue D) : Type 0 where
  pub acts : Acts told state own size (post_of old) (post_of new)
  pub granted : is_refused (cause_of new.seat.node) ≡ false
  pub start : IsSameStart old new

-- what stands in the lanes of its clients is carried; each client has its visit; and the node acts
pub record TakesTurn {D : Type 0} (told : Type 0) (state : D → DiskState) (own size : D → ℕ) (old new : Cast D) : Type 0 where
  pub carried : Cast D
  pub carries : CarriesAll old.node carried.node old.clients carried.clients
  pub visited : Cast D
  pub did : Bool
  pub visits : VisitAll told state own size (client_places carried.clients) carried visited did
  pub act : ActsInTurn told state own size visited.node new.node
  pub same : new.clients ≡ visited.clients

abbrev pub TakesTurns : {D : Type 0} → Type 0 → (D → DiskState) → (D → ℕ) → (D → ℕ) → ℕ → Cast D → Cast D → Type 0
TakesTurns told state own size zero old new = new ≡ old
TakesTurns told state own size (suc turns) old new = (mid : Cast _) × (TakesTurns told state own size turns old mid × TakesTurn told state own size mid new)

-- ---- memory was refused

-- as the node acted, be it within its step, which is then cut off or not made
abbrev pub IsRefusedInAct : {D : Type 0} → Type 0 → (D → DiskState) → (D → ℕ) → (D → ℕ) → CellValue D → CellValue D → Type 0
IsRefusedInAct told state own size old new =
    BreaksAct told state own size (post_of old) (post_of new) ⊎ (Acts told state own size (post_of old) (post_of new) × (is_refused (cause_of new.seat.node) ≡ true))

pub record ActIsRefused {D : Type 0} (told : Type 0) (state : D → DiskState) (own size : D → ℕ) (old new : Cast D) : Type 0 where
  pub carried : Cast D
  pub carries : CarriesAll old.node carried.node old.clients carried.clients
  pub visited : Cast D
  pub did : Bool
  pub visits : VisitAll told state own size (client_places carried.clients) carried visited did
  pub refused : IsRefusedInAct told state own size visited.node new.node

-- or as lanes were carried, or clients had their visits: the node and its links are as they were
abbrev pub TurnIsRefused : {D : Type 0} → Type 0 → (D → DiskState) → (D → ℕ) → (D → ℕ) → Cast D → Cast D → Type 0
TurnIsRefused told state own size old new =
    ((new.node.seat.node ≡ old.node.seat.node) × (new.node.links ≡ old.node.links)) ⊎ ActIsRefused told state own size old new

-- so many turns, or fewer up to one in which memory was refused
abbrev pub TakesSome : {D : Type 0} → Type 0 → (D → DiskState) → (D → ℕ) → (D → ℕ) → ℕ → Cast D → Cast D → Type 0
TakesSome told state own size turns old new =
    TakesTurns told state own size turns old new
    ⊎ ((few : ℕ) × ((mid : Cast _) × (TakesTurns told state own size few old mid × TurnIsRefused told state own size mid new)))
