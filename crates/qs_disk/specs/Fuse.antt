-- A fuse before a disk, and which calls it lets pass.
use Rattle.std.specs.Prelude.{◌≡◌, ◌≢◌, ◌≤◌, ℕ, ◌+◌, ◌-◌, ◌^◌, min, nat_le, Bool, true, false, ◌&&◌, ◌||◌, ◌⊎◌, not, ◌==◌, if◌then◌else◌, Option, Some, None, List}
use Rattle.std.specs.List.{list_any}
use Rattle.qs_base.specs.Causes.{Rose}
use Rattle.qs_disk.specs.Disk.{DiskState, with_range}
use Rattle.qs_disk.specs.Memory.{raised}

-- the plan from arming on, whether it has blown, and its counts of calls since then and of trips
pub record FuseValue : Type 0 where
  pub plan : Option (List ℕ)
  pub blown : Bool
  pub calls : ℕ
  pub trips : ℕ

-- the disk and the fuse before it
pub record FusedValue (D : Type 0) : Type 0 where
  pub disk : D
  pub fuse : FuseValue

-- the calls that the fuse tripped at or refused, and those that the disk itself failed, at most its type's last value
abbrev pub fused_count : {D : Type 0} → (D → ℕ) → FusedValue D → ℕ
fused_count own fused = min (fused.fuse.trips + own fused.disk) (2 ^ 64 - 1)

-- nothing is planned, and nothing tripped
abbrev pub new_fuse : FuseValue
new_fuse = record { plan = None; blown = false; calls = 0; trips = 0 }

-- with this plan, which counts calls from 1, and nothing tripped
abbrev pub armed : List ℕ → FuseValue
armed plan = record { plan = Some plan; blown = false; calls = 0; trips = 0 }

-- the plan has this number
abbrev pub is_planned : Option (List ℕ) → ℕ → Bool
is_planned None number = false
is_planned (Some plan) number = list_any (λ planned. planned == number) plan

-- the next read, write or sync is answered by the fuse
abbrev pub stops : FuseValue → Bool
stops fuse = fuse.blown || is_planned fuse.plan (raised fuse.calls)

-- it has not blown, and trips at the next one
abbrev pub trips_at : FuseValue → Bool
trips_at fuse = not fuse.blown && is_planned fuse.plan (raised fuse.calls)

-- the bytes stand on the disk, or its own count of faults rose
abbrev pub IsPassedOn : ℕ → List ℕ → DiskState → DiskState → ℕ → ℕ → Type 0
IsPassedOn at bytes old new before now = (new.content ≡ with_range old.content at bytes) ⊎ Rose before now

-- after a read, a write or a sync
abbrev pub after_call : FuseValue → FuseValue
after_call fuse = record {
  plan = fuse.plan;
  blown = stops fuse;
  calls = raised fuse.calls;
  trips = if stops fuse then raised fuse.trips else fuse.trips;
}

-- after a power cut
abbrev pub mended : FuseValue → FuseValue
mended fuse = record { plan = fuse.plan; blown = false; calls = fuse.calls; trips = fuse.trips }

-- ---- what calls, one after the other, may make of it

-- one of the calls behind the `from`-th and up to the `to`-th is planned
abbrev pub is_reached : Option (List ℕ) → ℕ → ℕ → Bool
is_reached None from to = false
is_reached (Some plan) from to = list_any (λ number. nat_le (raised from) number && nat_le number to) plan

-- why it trips, or has blown: it had blown before, or a planned call was reached
abbrev pub Trips : FuseValue → FuseValue → Type 0
Trips old new = (old.blown ≡ true) ⊎ (is_reached old.plan old.calls new.calls ≡ true)

-- it keeps its plan, counts on, and trips at planned calls alone
pub record GoesOn (old new : FuseValue) : Type 0 where
  pub plan : new.plan ≡ old.plan
  pub calls : old.calls ≤ new.calls
  pub trips : old.trips ≤ new.trips
  pub tripped : new.trips ≢ old.trips → Trips old new
  pub blown : new.blown ≡ true → Trips old new
