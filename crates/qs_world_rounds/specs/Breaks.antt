-- A round that is cut short: the disk of the node failed as the node was started again, or memory was refused.
use Rattle.std.specs.Prelude.{◌≡◌, ◌⊎◌, ℕ, zero, suc, Bool, true, false, Err}
use Rattle.qs_base.specs.Causes.{Rose}
use Rattle.qs_cell.specs.Starts.{CellValue, post_of}
use Rattle.qs_cell.specs.State.{StartsAgain, cause_of, disk_of}
use Rattle.qs_cell.specs.WholeVisits.{Breaks, Visits}
use Rattle.qs_cell.specs.declared.state.RestartFault.TheVariants as restart_faults
use Rattle.qs_disk.specs.Disk.{DiskState}
use Rattle.qs_world_rounds.specs.Rounds.{Cast, IsSameStart, is_refused, is_up}

-- what the disk itself has counted
abbrev pub own_faults : {D : Type 0} → (D → ℕ) → CellValue D → ℕ
own_faults own cell = own (disk_of cell.seat.node).disk

-- the node was down, and could not be started again: its disk failed, which has counted that since it was handed in
pub record NodeFails {D : Type 0} (told : Type 0) (state : D → DiskState) (own size : D → ℕ) (old new : CellValue D) : Type 0 where
  pub down : is_up old ≡ false
  pub starts : StartsAgain told state own size old.alloc old.seat.node new.seat.node (Err restart_faults.DiskFailed)
  pub rose : Rose old.faults (own_faults own new)
  pub ends : new.seat.ends ≡ old.seat.ends
  pub links : new.links ≡ old.links
  pub start : IsSameStart old new

-- at the place of the node
abbrev pub FailsAt : {D : Type 0} → Type 0 → (D → DiskState) → (D → ℕ) → (D → ℕ) → ℕ → Cast D → Cast D → Type 0
FailsAt told state own size zero old new = NodeFails told state own size old.node new.node × (new.clients ≡ old.clients)
FailsAt told state own size (suc at) old new = ⊥

-- ---- memory was refused

-- within the visit of a node that is up, be it within a step, which is then cut off or not made; or as one that is down was started again
abbrev pub NodeRefusedIf : {D : Type 0} → Bool → Type 0 → (D → DiskState) → (D → ℕ) → (D → ℕ) → CellValue D → CellValue D → Type 0
NodeRefusedIf true told state own size old new =
    Breaks told state own size (post_of old) (post_of new) ⊎ (Visits told state own size (post_of old) (post_of new) × (is_refused (cause_of new.seat.node) ≡ true))
NodeRefusedIf false told state own size old new =
    StartsAgain told state own size old.alloc old.seat.node new.seat.node (Err restart_faults.NoMemory)

-- at the place of the node, or at that of a client, where the node is as it was
abbrev pub RefusedAt : {D : Type 0} → Type 0 → (D → DiskState) → (D → ℕ) → (D → ℕ) → ℕ → Cast D → Cast D → Type 0
RefusedAt told state own size zero old new = NodeRefusedIf (is_up old.node) told state own size old.node new.node
RefusedAt told state own size (suc at) old new = new.node ≡ old.node
