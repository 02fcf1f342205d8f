-- A whole visit: the packets that were carried, then the turns of the node's own sources, then all that the node's steps put goes to the links.
use Rattle.std.specs.Prelude.{◌≡◌, ◌⊎◌, ℕ, Bool, List, drop, length}
use Rattle.std.specs.List.{flat_map, list_any}
use Rattle.qs_disk.specs.Disk.{DiskState}
use Rattle.qs_packet.specs.declared.packet.Packet.{Packet}
use Rattle.qs_node_step.specs.declared.trace.Step.{Step}
use Rattle.qs_cell_peers.specs.Links.{HasPut, HasPutSome, puts_any, puts_of}
use Rattle.qs_cell.specs.Hearing.{BreaksBelow, HearsBelow, Post}
use Rattle.qs_cell.specs.Restart.{in_round_as}
use Rattle.qs_cell.specs.State.{IsSeenAs, carried_of}
use Rattle.qs_cell.specs.Visits.{TurnsAll, TurnsSome, sources_of}
use Rattle.qs_cell.specs.declared.state.CellState.{CellState}

-- ---- what its steps put

abbrev pub steps_in : {D : Type 0} → CellState D → List Step
steps_in node = (carried_of node).chronicle.told.trace

-- of the steps behind those that there were
abbrev pub put_since : List Step → List Step → List Packet
put_since before now = flat_map puts_of (drop (length before) now)

abbrev pub has_put : List Step → List Step → Bool
has_put before now = list_any puts_any (drop (length before) now)

-- ---- a visit

-- one more round of the node
pub record HasBegun {D : Type 0} (old begun : Post D) : Type 0 where
  pub round : IsSeenAs in_round_as old.seat.node begun.seat.node
  pub ends : begun.seat.ends ≡ old.seat.ends
  pub links : begun.links ≡ old.links

pub record Visits {D : Type 0} (told : Type 0) (state : D → DiskState) (own size : D → ℕ) (old new : Post D) : Type 0 where
  pub begun : Post D
  pub begins : HasBegun old begun
  pub heard : Post D
  pub hears : HearsBelow told state own size old.links.size begun heard
  pub turns : TurnsAll told state own size (sources_of old.seat.ends) heard.seat new.seat
  pub put : HasPut (put_since (steps_in old.seat.node) (steps_in new.seat.node)) heard.links new.links

-- memory was refused as packets were taken, in a turn, or as what the steps put went to the links
pub record BreaksIn {D : Type 0} (told : Type 0) (state : D → DiskState) (own size : D → ℕ) (old begun new : Post D) : Type 0 where
  pub heard : Post D
  pub hears : HearsBelow told state own size old.links.size begun heard
  pub turns : TurnsSome told state own size (sources_of old.seat.ends) heard.seat new.seat
      ⊎ (TurnsAll told state own size (sources_of old.seat.ends) heard.seat new.seat × HasPutSome (put_since (steps_in old.seat.node) (steps_in new.seat.node)) heard.links new.links)

pub record Breaks {D : Type 0} (told : Type 0) (state : D → DiskState) (own size : D → ℕ) (old new : Post D) : Type 0 where
  pub begun : Post D
  pub begins : HasBegun old begun
  pub within : BreaksBelow told state own size old.links.size begun new ⊎ BreaksIn told state own size old begun new
