-- Room in the logs of many nodes through bursts, in which each site goes on in a thread of its own: no step finds its log too full, whatever others do meanwhile.
use Rattle.std.specs.Prelude.{ℕ, Bool, List}
use Rattle.std.specs.Global.{Global}
use Rattle.qs_book_script.specs.declared.script.Script.{Script}
use Rattle.qs_disk.specs.Disk.{DiskState}
use Rattle.qs_link.specs.declared.outgoing.LinkFault.{LinkFault}
use Rattle.qs_world.specs.Openings.{IsOpening}
use Rattle.qs_world.specs.World.{Opening}
use Rattle.qs_world_bursts.specs.Threads.{RoundsBehind}
use Rattle.qs_world_nodes.specs.Nodes.{AreSitesIn}
use Rattle.qs_world_one.specs.Rooms.{Began}
use Rattle.qs_world_rooms.specs.Leaving.{BeginsRoomy, LeaveRoom}
use Rattle.qs_world_rooms.specs.Rooms.{StayRoomy}
use Rattle.qs_world_rounds.specs.Rounds.{Cast}
use Rattle.qs_world_sites.specs.Bursts.{Bursts, IsRefusedBurst, IsRoundBehind}
use Rattle.qs_world_sites.specs.Sites.{AreCarried, SitesValue}

-- a burst, where each ring is looked at from both ends behind it, as it is carried
abbrev pub BurstStaysRoomy : {D : Type 0} → Type 0 → (D → DiskState) → (D → ℕ) → (D → ℕ) → Opening → (ℕ → ℕ → List LinkFault) → (ℕ → Began) → ℕ → List (Cast D) → List (Cast D) → List (Cast D) → Type 0
BurstStaysRoomy told state own size o plans began turns old mid new =
    told → IsOpening o → AreSitesIn told state o plans old → Bursts told state own size turns old mid → AreCarried mid new → StayRoomy state size began old mid

-- one in which memory was refused, at one site or at several
abbrev pub RefusedBurstStaysRoomy : {D : Type 0} → Type 0 → (D → DiskState) → (D → ℕ) → (D → ℕ) → Opening → (ℕ → ℕ → List LinkFault) → (ℕ → Began) → ℕ → List (Cast D) → List (Cast D) → Type 0
RefusedBurstStaysRoomy told state own size o plans began turns old new =
    told → IsOpening o → AreSitesIn told state o plans old → IsRefusedBurst told state own size turns old new → StayRoomy state size began old new

-- a burst and the round behind it, and so many of them
abbrev pub RoundBehindStaysRoomy : {D : Type 0} → Type 0 → (D → DiskState) → (D → ℕ) → (D → ℕ) → Opening → (ℕ → ℕ → List LinkFault) → (ℕ → Began) → ℕ → List ℕ → SitesValue D → SitesValue D → Bool → Type 0
RoundBehindStaysRoomy told state own size o plans began turns order old new quiet =
    told → IsOpening o → AreSitesIn told state o plans old.sites → IsRoundBehind told state own size turns order old new quiet → StayRoomy state size began old.sites new.sites

abbrev pub RoundsBehindStayRoomy : {D : Type 0} → Type 0 → (D → DiskState) → (D → ℕ) → (D → ℕ) → Opening → (ℕ → ℕ → List LinkFault) → (ℕ → Began) → ℕ → ℕ → SitesValue D → SitesValue D → Type 0
RoundsBehindStayRoomy told state own size o plans began turns n old new =
    told → IsOpening o → AreSitesIn told state o plans old.sites → RoundsBehind told state own size turns n old new → StayRoomy state size began old.sites new.sites

-- of a run that has begun so
abbrev pub RoundsBehindLeaveRoom : {D : Type 0} → Type 0 → (D → DiskState) → (D → ℕ) → (D → ℕ) → Global → Script → List D → ℕ → ℕ → SitesValue D → SitesValue D → Type 0
RoundsBehindLeaveRoom told state own size alloc script disks turns n all new =
    told → BeginsRoomy told state own size alloc script disks all → RoundsBehind told state own size turns n all new → LeaveRoom state size new.sites
