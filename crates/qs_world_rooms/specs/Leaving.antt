-- A run of many nodes leaves room: where the log of each disk that was handed in had room for all that is kept there, each image of each disk that is left has it, and no
-- node stopped for want of it.
use Rattle.std.specs.Prelude.{ℕ, List, length, map}
use Rattle.std.specs.Global.{Global}
use Rattle.qs_base.specs.declared.identifiers.NodeNo.{NodeNo}
use Rattle.qs_book_script.specs.declared.script.Script.{Script}
use Rattle.qs_disk.specs.Disk.{DiskState}
use Rattle.qs_world_left.specs.Disks.{disks_of}
use Rattle.qs_world_nodes.specs.Lawful.{HaveCoherentLogs}
use Rattle.qs_world_nodes.specs.Openings.{SitOnce}
use Rattle.qs_world_opening.specs.Scripts.{Fits}
use Rattle.qs_world_rooms.specs.Rooms.{AreRoomyContents, AreRoomyDisks, NoneIsFull, sizes_of}
use Rattle.qs_world_rounds.specs.Rounds.{Cast}
use Rattle.qs_world_rounds.specs.declared.rounds.Ending.{Ending}
use Rattle.qs_world_sites.specs.Endings.{IsCutShort, IsEnding, IsOutOfMemory}
use Rattle.qs_world_sites.specs.Rounds.{Rounds}
use Rattle.qs_world_sites.specs.Seats.{HasBegun}
use Rattle.qs_world_sites.specs.Sites.{SitesValue}
use Rattle.rand_pcg.specs.Lcg.{Lcg}

pub record LeaveRoom {D : Type 0} (state : D → DiskState) (size : D → ℕ) (sites : List (Cast D)) : Type 0 where
  pub disks : AreRoomyDisks (sizes_of size sites) (disks_of state sites)
  pub none : NoneIsFull sites

-- it began with a script that fits, in which no client sits at two nodes, over logs that are coherent once they are raised, and with room in each
pub record BeginsRoomy {D : Type 0} (told : Type 0) (state : D → DiskState) (own size : D → ℕ) (alloc : Global) (script : Script) (disks : List D) (all : SitesValue D) : Type 0 where
  pub begun : HasBegun told state own alloc script disks all
  pub once : SitOnce script.seats
  pub fits : Fits (length disks) script
  pub coherent : HaveCoherentLogs alloc disks all.sites
  pub roomy : AreRoomyContents (sizes_of size all.sites) (map state disks)

-- after any rounds
abbrev pub RoundsLeaveRoom : {D : Type 0} → Type 0 → (D → DiskState) → (D → ℕ) → (D → ℕ) → Global → Script → List D → Lcg → ℕ → SitesValue D → SitesValue D → Lcg → Type 0
RoundsLeaveRoom told state own size alloc script disks rng n all new later =
    told → BeginsRoomy told state own size alloc script disks all → Rounds told state own size rng n all new later → LeaveRoom state size new.sites

-- as the rounds end
abbrev pub EndingsLeaveRoom : {D : Type 0} → Type 0 → (D → DiskState) → (D → ℕ) → (D → ℕ) → Global → Script → List D → ℕ → SitesValue D → SitesValue D → Ending → Type 0
EndingsLeaveRoom told state own size alloc script disks seed all new ending =
    told → BeginsRoomy told state own size alloc script disks all → IsEnding told state own size script seed all new ending → LeaveRoom state size new.sites

-- and where one was cut short
abbrev pub CutShortLeavesRoom : {D : Type 0} → Type 0 → (D → DiskState) → (D → ℕ) → (D → ℕ) → Global → Script → List D → ℕ → NodeNo → SitesValue D → SitesValue D → Type 0
CutShortLeavesRoom told state own size alloc script disks seed node all new =
    told → BeginsRoomy told state own size alloc script disks all → IsCutShort told state own size seed node all new → LeaveRoom state size new.sites

-- and where memory was refused
abbrev pub RefusedLeavesRoom : {D : Type 0} → Type 0 → (D → DiskState) → (D → ℕ) → (D → ℕ) → Global → Script → List D → ℕ → SitesValue D → SitesValue D → Type 0
RefusedLeavesRoom told state own size alloc script disks seed all new =
    told → BeginsRoomy told state own size alloc script disks all → IsOutOfMemory told state own size seed all new → LeaveRoom state size new.sites
