-- How the rounds of a run end: quietly, where the actors can go no further; or with no rounds left; or cut short.
use Rattle.std.specs.Prelude.{◌≡◌, ◌⊎◌, ◌≤◌, ℕ, ◌+◌, ◌-◌, Bool, true, false, ◌&&◌, List, fold, length, min}
use Rattle.qs_base.specs.declared.identifiers.NodeNo.{NodeNo}
use Rattle.qs_book_script.specs.declared.script.Script.{Script}
use Rattle.qs_cell.specs.Starts.{journal_of}
use Rattle.qs_disk.specs.Disk.{DiskState}
use Rattle.qs_world_plans.specs.Budget.{disk_crashes, most_disk_crashes}
use Rattle.qs_world_plans.specs.Budget as one
use Rattle.qs_world_plans.specs.Order.{drawn_order, seeded}
use Rattle.qs_world_rounds.specs.Rounds.{Cast}
use Rattle.qs_world_rounds.specs.declared.rounds.Ending.{Ending}
use Rattle.qs_world_sites.specs.Breaks.{BreaksRound, HasRisen, RefusesRound}
use Rattle.qs_world_sites.specs.Rounds.{IsRound, Rounds, all_ended, are_settled}
use Rattle.qs_world_sites.specs.Sites.{SitesValue, count_of}
use Rattle.rand_pcg.specs.Lcg.{Lcg}

-- ---- how many rounds there are

-- the faults of all disks, as far as they are counted
abbrev pub add_crashes : {D : Type 0} → ℕ → Cast D → ℕ
add_crashes sum site = min (sum + disk_crashes (journal_of site.node)) most_disk_crashes

abbrev pub crashes_of : {D : Type 0} → List (Cast D) → ℕ
crashes_of sites = fold add_crashes 0 sites

abbrev pub budget_of : {D : Type 0} → Script → SitesValue D → ℕ
budget_of script all = one.budget_of (length script.lines) (length script.faults) (crashes_of all.sites)

-- ---- their end

-- so many rounds, at least one, of which this is what the last one was
pub record EndsWith {D : Type 0} (told : Type 0) (state : D → DiskState) (own size : D → ℕ) (rng : Lcg) (rounds : ℕ) (old new : SitesValue D) (quiet : Bool) : Type 0 where
  pub before : SitesValue D
  pub drawn : Lcg
  pub some : 1 + (rounds - 1) ≡ rounds
  pub earlier : Rounds told state own size rng (rounds - 1) old before drawn
  pub last : IsRound told state own size (drawn_order (count_of before) drawn).0 before new quiet

-- after a quiet round the actors can go no further: a script has not ended, or all have and no transaction is unended
abbrev pub IsStill : {D : Type 0} → SitesValue D → Type 0
IsStill all = (all_ended all ≡ false) ⊎ (are_settled all ≡ true)

-- so many rounds were made, and there is no more to make
pub record IsOver {D : Type 0} (script : Script) (rounds : ℕ) (quiet : Bool) (all : SitesValue D) (ending : Ending) : Type 0 where
  pub rounds_is : ending.rounds ≡ rounds
  pub settled : ending.settled ≡ (quiet && are_settled all)
  pub over : ((quiet ≡ true) × IsStill all) ⊎ (budget_of script all ≤ rounds)

-- the rounds ended so: the last one was quiet and the actors can go no further, or all rounds that there are were made
pub record IsEnding {D : Type 0} (told : Type 0) (state : D → DiskState) (own size : D → ℕ) (script : Script) (seed : ℕ) (old new : SitesValue D) (ending : Ending) : Type 0 where
  pub quiet : Bool
  pub ends : EndsWith told state own size (seeded seed) ending.rounds old new quiet
  pub settled : ending.settled ≡ (quiet && are_settled new)
  pub over : ((quiet ≡ true) × IsStill new) ⊎ (ending.rounds ≡ budget_of script new)
  pub within : ending.rounds ≤ budget_of script new

-- after so many rounds one was cut short, with a rise of what the disk of that node itself had counted since it was handed in
pub record IsCutShort {D : Type 0} (told : Type 0) (state : D → DiskState) (own size : D → ℕ) (seed : ℕ) (node : NodeNo) (old new : SitesValue D) : Type 0 where
  pub rounds : ℕ
  pub before : SitesValue D
  pub drawn : Lcg
  pub earlier : Rounds told state own size (seeded seed) rounds old before drawn
  pub broken : BreaksRound told state own size (drawn_order (count_of before) drawn).0 node before new
  pub rose : HasRisen own node old.sites new.sites

-- after so many rounds memory was refused
pub record IsOutOfMemory {D : Type 0} (told : Type 0) (state : D → DiskState) (own size : D → ℕ) (seed : ℕ) (old new : SitesValue D) : Type 0 where
  pub rounds : ℕ
  pub before : SitesValue D
  pub drawn : Lcg
  pub earlier : Rounds told state own size (seeded seed) rounds old before drawn
  pub refused : RefusesRound told state own size (drawn_order (count_of before) drawn).0 before new
