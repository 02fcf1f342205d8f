-- Bursts before rounds: the sites take their turns side by side, in threads, and then make a round in one. They stay in the world; so what they tell is a run of it.
use Rattle.std.specs.Prelude.{◌≡◌, ℕ, zero, suc, Bool, List}
use Rattle.std.specs.Global.{Global}
use Rattle.qs_book_script.specs.declared.script.Script.{Script}
use Rattle.qs_disk.specs.Disk.{DiskState}
use Rattle.qs_link.specs.declared.outgoing.LinkFault.{LinkFault}
use Rattle.qs_world.specs.World.{Opening}
use Rattle.qs_world_nodes.specs.Nodes.{AreSitesIn, OpensSites, plans_of}
use Rattle.qs_world_nodes.specs.Running.{AreTraced}
use Rattle.qs_world_rounds.specs.Rounds.{Cast}
use Rattle.qs_world_rounds.specs.Turns.{TakesTurn}
use Rattle.qs_world_seats.specs.Sites.{IsSiteIn}
use Rattle.qs_world_sites.specs.Bursts.{Bursts, IsRoundBehind}
use Rattle.qs_world_sites.specs.Seats.{HasBegun}
use Rattle.qs_world_sites.specs.Sites.{AreCarried, SitesValue}

-- ---- one site

abbrev pub TurnGoesOn : {D : Type 0} → Type 0 → (D → DiskState) → (D → ℕ) → (D → ℕ) → Opening → ℕ → Cast D → Cast D → Type 0
TurnGoesOn told state own size o n old new = told → TakesTurn told state own size old new → IsSiteIn told state o n old → IsSiteIn told state o n new

-- ---- all of them

-- a burst, and what is carried behind it
abbrev pub BurstKeeps : {D : Type 0} → Type 0 → (D → DiskState) → (D → ℕ) → (D → ℕ) → Opening → (ℕ → ℕ → List LinkFault) → ℕ → List (Cast D) → List (Cast D) → List (Cast D) → Type 0
BurstKeeps told state own size o plans turns old mid new =
    told → Bursts told state own size turns old mid → AreCarried mid new → AreSitesIn told state o plans old → AreSitesIn told state o plans new

-- a burst, and then a round
abbrev pub RoundBehindKeeps : {D : Type 0} → Type 0 → (D → DiskState) → (D → ℕ) → (D → ℕ) → Opening → (ℕ → ℕ → List LinkFault) → ℕ → List ℕ → SitesValue D → SitesValue D → Bool → Type 0
RoundBehindKeeps told state own size o plans turns order old new quiet =
    told → IsRoundBehind told state own size turns order old new quiet → AreSitesIn told state o plans old.sites → AreSitesIn told state o plans new.sites

-- so many of them, each in some order
abbrev pub RoundsBehind : {D : Type 0} → Type 0 → (D → DiskState) → (D → ℕ) → (D → ℕ) → ℕ → ℕ → SitesValue D → SitesValue D → Type 0
RoundsBehind told state own size turns zero old new = new ≡ old
RoundsBehind told state own size turns (suc n) old new =
    (mid : SitesValue _) × (RoundsBehind told state own size turns n old mid × ((order : List ℕ) × ((quiet : Bool) × IsRoundBehind told state own size turns order mid new quiet)))

-- after so many of a run that has begun so, what the cells tell is of a run of the world
abbrev pub RoundsBehindAreTraced : {D : Type 0} → Type 0 → (D → DiskState) → (D → ℕ) → (D → ℕ) → Global → Script → List D → Opening → ℕ → ℕ → SitesValue D → SitesValue D → Type 0
RoundsBehindAreTraced told state own size alloc script disks o turns n all new =
    told → (begun : HasBegun told state own alloc script disks all) → OpensSites told state own alloc script disks all begun o → RoundsBehind told state own size turns n all new
    → AreTraced o (plans_of script) new.sites
