-- How the rounds of a run follow one another: serially, each in an order that is drawn; or in threads, a burst before each of them. And how they end: quietly, where the actors can go no
-- further; or with no rounds left; or cut short.
use Rattle.std.specs.Prelude.{◌≡◌, ◌⊎◌, ◌≤◌, ℕ, ◌+◌, ◌-◌, Bool, true, ◌&&◌, List}
use Rattle.qs_base.specs.declared.identifiers.NodeNo.{NodeNo}
use Rattle.qs_book_script.specs.declared.script.Script.{Script}
use Rattle.qs_disk.specs.Disk.{DiskState}
use Rattle.qs_world_plans.specs.Order.{drawn_order, places_below, seeded}
use Rattle.qs_world_rounds.specs.Repeats.{RoundsBy}
use Rattle.qs_world_rounds.specs.declared.rounds.Ending.{Ending}
use Rattle.qs_world_sites.specs.Breaks.{HasRisen}
use Rattle.qs_world_sites.specs.Bursts.{BreaksBehind, IsRefusedBehind, IsRoundBehind}
use Rattle.qs_world_sites.specs.Endings.{IsStill, budget_of}
use Rattle.qs_world_sites.specs.Rounds.{are_settled}
use Rattle.qs_world_sites.specs.Sites.{SitesValue, count_of}
use Rattle.qs_world_sites.specs.declared.schedule.Schedule.{Schedule}
use Rattle.qs_world_sites.specs.declared.schedule.Schedule.TheVariants as schedules
use Rattle.rand_pcg.specs.Lcg.{Lcg}

-- ---- what a schedule asks for

-- how many turns each site takes in a burst
abbrev pub turns_in : Schedule → ℕ
turns_in (schedules.Serial seed) = 0
turns_in schedules.Threads = 256

-- the order of a round of so many actors, and what is drawn from next
abbrev pub order_in : Schedule → ℕ → Lcg → List ℕ × Lcg
order_in (schedules.Serial seed) count rng = drawn_order count rng
order_in schedules.Threads count rng = (places_below count, rng)

abbrev pub drawn_first : Schedule → Lcg
drawn_first (schedules.Serial seed) = seeded seed
drawn_first schedules.Threads = seeded 0

-- ---- rounds

abbrev pub IsNextIn : {D : Type 0} → Type 0 → (D → DiskState) → (D → ℕ) → (D → ℕ) → Schedule → List ℕ → SitesValue D → SitesValue D → Bool → Type 0
IsNextIn told state own size schedule order old new quiet = IsRoundBehind told state own size (turns_in schedule) order old new quiet

-- so many of them
abbrev pub RoundsIn : {D : Type 0} → Type 0 → (D → DiskState) → (D → ℕ) → (D → ℕ) → Schedule → Lcg → ℕ → SitesValue D → SitesValue D → Lcg → Type 0
RoundsIn told state own size schedule rng n old new later = RoundsBy (order_in schedule) count_of (IsNextIn told state own size schedule) rng n old new later

-- ---- their end

-- so many rounds, at least one, of which this is what the last one was
pub record EndsIn {D : Type 0} (told : Type 0) (state : D → DiskState) (own size : D → ℕ) (schedule : Schedule) (rounds : ℕ) (old new : SitesValue D) (quiet : Bool) : Type 0 where
  pub before : SitesValue D
  pub drawn : Lcg
  pub some : 1 + (rounds - 1) ≡ rounds
  pub earlier : RoundsIn told state own size schedule (drawn_first schedule) (rounds - 1) old before drawn
  pub last : IsNextIn told state own size schedule (order_in schedule (count_of before) drawn).0 before new quiet

-- the rounds ended so: the last one was quiet and the actors can go no further, or all rounds that there are were made
pub record IsEndingIn {D : Type 0} (told : Type 0) (state : D → DiskState) (own size : D → ℕ) (script : Script) (schedule : Schedule) (old new : SitesValue D) (ending : Ending) : Type 0 where
  pub quiet : Bool
  pub ends : EndsIn told state own size schedule ending.rounds old new quiet
  pub settled : ending.settled ≡ (quiet && are_settled new)
  pub over : ((quiet ≡ true) × IsStill new) ⊎ (ending.rounds ≡ budget_of script new)
  pub within : ending.rounds ≤ budget_of script new

-- after so many rounds one was cut short, with a rise of what the disk of that node itself had counted since it was handed in
pub record IsCutIn {D : Type 0} (told : Type 0) (state : D → DiskState) (own size : D → ℕ) (schedule : Schedule) (node : NodeNo) (old new : SitesValue D) : Type 0 where
  pub rounds : ℕ
  pub before : SitesValue D
  pub drawn : Lcg
  pub earlier : RoundsIn told state own size schedule (drawn_first schedule) rounds old before drawn
  pub broken : BreaksBehind told state own size (turns_in schedule) (order_in schedule (count_of before) drawn).0 node before new
  pub rose : HasRisen own node old.sites new.sites

-- after so many rounds memory was refused
pub record IsOutOfMemoryIn {D : Type 0} (told : Type 0) (state : D → DiskState) (own size : D → ℕ) (schedule : Schedule) (old new : SitesValue D) : Type 0 where
  pub rounds : ℕ
  pub before : SitesValue D
  pub drawn : Lcg
  pub earlier : RoundsIn told state own size schedule (drawn_first schedule) rounds old before drawn
  pub refused : IsRefusedBehind told state own size (turns_in schedule) (order_in schedule (count_of before) drawn).0 before new
