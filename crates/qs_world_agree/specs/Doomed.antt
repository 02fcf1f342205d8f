-- When a transaction can never commit any more, whatever comes.
use Rattle.std.specs.Prelude.{◌≡◌, ◌≢◌, ◌⊎◌, ℕ, ◌<◌, ◌≤◌, true, false}
use Rattle.qs_world_agree.specs.World.{Committed, Aborted, World}
use Rattle.qs_world_agree.specs.Guards.{Votes}
use Rattle.qs_world_agree.specs.Laws.{IsReached}
use Rattle.qs_world_agree.specs.Carry.{Leads}

-- no run from here on decides commit
abbrev pub IsDoomed : World → Type 0
IsDoomed w = (v : World) → Leads w v → v.cell ≢ Committed

-- ---- what is meant by it

-- a place that began, and stopped
pub record IsPast (w : World) (k : ℕ) : Type 0 where
  pub down : w.up k ≡ false
  pub begun : k ≤ w.present (w.node k)

-- request j of p was put for q, and was not handed up there
pub record IsLeft (w : World) (p q j : ℕ) : Type 0 where
  pub number : 1 ≤ j
  pub put : j ≤ w.posted p q
  pub untaken : w.received q p < j

-- request j of p waits for a place of node m, and p knows none
pub record IsKeptBack (w : World) (p m j : ℕ) : Type 0 where
  pub number : 1 ≤ j
  pub was_sent : j ≤ w.sent p m
  pub unknown : w.peer p m ≡ 0

-- ---- once it is so, it is so for good

abbrev pub DoomStays : Type 0
DoomStays = (w v : World) → IsDoomed w → Leads w v → IsDoomed v

-- nor is what was sent taken back
abbrev pub SentStays : Type 0
SentStays = (w v : World) (p m : ℕ) → Leads w v → w.sent p m ≤ v.sent p m

-- ---- what dooms it

abbrev pub AbortDooms : Type 0
AbortDooms = (w : World) → IsReached w → w.cell ≡ Aborted → IsDoomed w

-- a place that stopped while it was engaged
abbrev pub EngagedPastDooms : Type 0
EngagedPastDooms = (w : World) (k : ℕ) → IsReached w → IsPast w k → w.engaged k ≡ true → IsDoomed w

-- the home, stopped before it committed
abbrev pub PastHomeDooms : Type 0
PastHomeDooms = (w : World) → IsReached w → w.up w.home ≡ false → w.cell ≢ Committed → IsDoomed w

abbrev pub AbortVoteDooms : Type 0
AbortVoteDooms = (w : World) (q : ℕ) → IsReached w → w.abort_vote q ≡ true → IsDoomed w

abbrev pub GoneDooms : Type 0
GoneDooms = (w : World) (q : ℕ) → IsReached w → w.gone q ≡ true → IsDoomed w

-- an engaged place that was refused
abbrev pub RefusalDooms : Type 0
RefusalDooms = (w : World) (q : ℕ) → IsReached w → w.engaged q ≡ true → w.refused q ≡ true → IsDoomed w

-- a request that was put for a place which stopped without having taken it
abbrev pub LeftDooms : Type 0
LeftDooms = (w : World) (p q j : ℕ) → IsReached w → IsPast w q → IsLeft w p q j → IsDoomed w

-- a request of an earlier incarnation of a node than the one that its receiver knows
abbrev pub LeftBehindDooms : Type 0
LeftBehindDooms = (w : World) (p q j : ℕ) → IsReached w → p < w.peer q (w.node p) → IsLeft w p q j → IsDoomed w

-- a request that still waited to be put as its sender stopped
abbrev pub KeptBackDooms : Type 0
KeptBackDooms = (w : World) (p m j : ℕ) → IsReached w → IsPast w p → IsKeptBack w p m j → IsDoomed w

-- a request that is sent to a place which stopped before, and which its sender knows all the while
abbrev pub LateDooms : Type 0
LateDooms = (w v : World) (p q : ℕ) → IsReached w → IsPast w q → 1 ≤ q → w.peer p (w.node q) ≡ q → v.peer p (w.node q) ≡ q → Leads w v → w.sent p (w.node q) < v.sent p (w.node q) → IsDoomed v

-- ---- what is not committed while it lasts

-- a place is engaged where something is open: a request of its own is not covered, one waits, a vote does not cover what came, a loan stands, or a cause Gone
pub record IsBusy (w : World) (k : ℕ) : Type 0 where
  pub why : ((m : ℕ) × (w.covered k m < w.sent k m)) ⊎ (((s : ℕ) × (w.served k s < w.arrived k s)) ⊎ (((s : ℕ) × Votes w k s × (w.voted k s < w.arrived k s)) ⊎ ((1 ≤ w.loans k) ⊎ (w.gone k ≡ true))))

abbrev pub BusyEngaged : Type 0
BusyEngaged = (w : World) (k : ℕ) → IsReached w → w.cell ≢ Aborted → IsBusy w k → w.engaged k ≡ true

abbrev pub EngagedOpen : Type 0
EngagedOpen = (w : World) (k : ℕ) → IsReached w → w.engaged k ≡ true → w.cell ≢ Committed

abbrev pub LeftOpen : Type 0
LeftOpen = (w : World) (p q j : ℕ) → IsReached w → IsLeft w p q j → w.cell ≢ Committed

abbrev pub KeptBackOpen : Type 0
KeptBackOpen = (w : World) (p m j : ℕ) → IsReached w → IsKeptBack w p m j → w.cell ≢ Committed
