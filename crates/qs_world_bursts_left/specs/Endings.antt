-- What a run leaves, by whichever schedule its rounds follow one another, and whichever way they end: quietly, or with no rounds left; or cut short, as the disk of a node fails, or
-- as memory is refused.
use Rattle.std.specs.Prelude.{ℕ, List, length, map}
use Rattle.std.specs.Global.{Global}
use Rattle.qs_base.specs.declared.identifiers.NodeNo.{NodeNo}
use Rattle.qs_book_journal.specs.declared.entry.Entry.{Entry}
use Rattle.qs_book_machine.specs.Lawful.{IsLawful}
use Rattle.qs_book_script.specs.declared.script.Script.{Script}
use Rattle.qs_disk.specs.Disk.{DiskState}
use Rattle.qs_node_step.specs.declared.trace.Step.{Step}
use Rattle.qs_world.specs.Histories.{book_of}
use Rattle.qs_world_left.specs.Disks.{LeaveCoherent}
use Rattle.qs_world_left.specs.Standing.{IsTold, StandFor}
use Rattle.qs_world_nodes.specs.Lawful.{HaveCoherentLogs}
use Rattle.qs_world_nodes.specs.Nodes.{plans_of}
use Rattle.qs_world_nodes.specs.Openings.{SitOnce, opening_over}
use Rattle.qs_world_nodes.specs.Running.{AreTraced}
use Rattle.qs_world_opening.specs.Scripts.{Fits}
use Rattle.qs_world_rooms.specs.Leaving.{LeaveRoom}
use Rattle.qs_world_rooms.specs.Rooms.{AreRoomyContents, sizes_of}
use Rattle.qs_world_rounds.specs.declared.rounds.Ending.{Ending}
use Rattle.qs_world_sites.specs.Schedules.{IsCutIn, IsEndingIn, IsOutOfMemoryIn}
use Rattle.qs_world_sites.specs.Seats.{HasBegun}
use Rattle.qs_world_sites.specs.Sites.{SitesValue}
use Rattle.qs_world_sites.specs.declared.schedule.Schedule.{Schedule}

-- ---- what it leaves

-- what the cells tell, merged, is the steps of a run of the world over packets, over links that keep the script's plans, and its history, which is lawful; the disks are coherent, and
-- stand for the machine after that history; and where the disks that were handed in had room, they have it
pub record LeavesAll {D : Type 0} (state : D → DiskState) (size : D → ℕ) (alloc : Global) (script : Script) (disks : List D) (all new : SitesValue D) : Type 0 where
  pub traced : AreTraced (opening_over alloc script disks all.sites) (plans_of script) new.sites
  pub lawful : (journal : List Entry) (trace : List Step) → IsTold (length disks) journal trace new.sites → IsLawful (book_of (opening_over alloc script disks all.sites)) journal
  pub coherent : LeaveCoherent state new.sites
  pub stand : (journal : List Entry) (trace : List Step) → IsTold (length disks) journal trace new.sites → StandFor state (opening_over alloc script disks all.sites) journal trace new.sites
  pub room : AreRoomyContents (sizes_of size all.sites) (map state disks) → LeaveRoom state size new.sites

-- it began with a script that fits, in which no client sits at two nodes, over logs that are coherent once they are raised
pub record Begins {D : Type 0} (told : Type 0) (state : D → DiskState) (own : D → ℕ) (alloc : Global) (script : Script) (disks : List D) (all : SitesValue D) : Type 0 where
  pub begun : HasBegun told state own alloc script disks all
  pub once : SitOnce script.seats
  pub fits : Fits (length disks) script
  pub coherent : HaveCoherentLogs alloc disks all.sites

-- as its rounds end
abbrev pub EndingsLeaveAll : {D : Type 0} → Type 0 → (D → DiskState) → (D → ℕ) → (D → ℕ) → Global → Script → List D → Schedule → SitesValue D → SitesValue D → Ending → Type 0
EndingsLeaveAll told state own size alloc script disks schedule all new ending =
    told → Begins told state own alloc script disks all → IsEndingIn told state own size script schedule all new ending → LeavesAll state size alloc script disks all new

-- where one is cut short
abbrev pub CutLeavesAll : {D : Type 0} → Type 0 → (D → DiskState) → (D → ℕ) → (D → ℕ) → Global → Script → List D → Schedule → NodeNo → SitesValue D → SitesValue D → Type 0
CutLeavesAll told state own size alloc script disks schedule node all new =
    told → Begins told state own alloc script disks all → IsCutIn told state own size schedule node all new → LeavesAll state size alloc script disks all new

-- where memory is refused
abbrev pub RefusedLeavesAll : {D : Type 0} → Type 0 → (D → DiskState) → (D → ℕ) → (D → ℕ) → Global → Script → List D → Schedule → SitesValue D → SitesValue D → Type 0
RefusedLeavesAll told state own size alloc script disks schedule all new =
    told → Begins told state own alloc script disks all → IsOutOfMemoryIn told state own size schedule all new → LeavesAll state size alloc script disks all new
