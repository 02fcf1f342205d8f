-- What a run of many nodes leaves on its disks: another run may begin over them, whichever image a power cut leaves of each.
use Rattle.std.specs.Prelude.{◌≡◌, ℕ, List, length, map, Some, slice_get}
use Rattle.std.specs.Global.{Global}
use Rattle.qs_base.specs.declared.identifiers.NodeNo.{NodeNo}
use Rattle.qs_book_script.specs.declared.script.Script.{Script}
use Rattle.qs_disk.specs.Disk.{DiskState, IsImage}
use Rattle.qs_link.specs.declared.outgoing.LinkFault.{LinkFault}
use Rattle.qs_world.specs.Openings.{IsOpening}
use Rattle.qs_world.specs.World.{Opening}
use Rattle.qs_world_left.specs.Disks.{AreCoherentDisks, AreCoherentImages, HaveLogs, LeaveCoherent, content_at, disks_of}
use Rattle.qs_world_nodes.specs.Lawful.{HaveCoherentLogs}
use Rattle.qs_world_nodes.specs.Nodes.{AreCellsIn, AreSitesIn}
use Rattle.qs_world_nodes.specs.Openings.{SitOnce}
use Rattle.qs_world_opening.specs.Scripts.{Fits}
use Rattle.qs_world_rounds.specs.Rounds.{Cast}
use Rattle.qs_world_rounds.specs.declared.rounds.Ending.{Ending}
use Rattle.qs_world_sites.specs.Endings.{IsCutShort, IsEnding, IsOutOfMemory}
use Rattle.qs_world_sites.specs.Rounds.{Rounds}
use Rattle.qs_world_sites.specs.Seats.{HasBegun}
use Rattle.qs_world_sites.specs.Sites.{SitesValue}
use Rattle.rand_pcg.specs.Lcg.{Lcg}

-- ---- sites in the world, over disks that tell what is on them

-- whether their nodes are up or down
abbrev pub SitesLeaveCoherent : {D : Type 0} → Type 0 → (D → DiskState) → Opening → (ℕ → ℕ → List LinkFault) → List (Cast D) → Type 0
SitesLeaveCoherent told state o plans sites = told → IsOpening o → AreSitesIn told state o plans sites → LeaveCoherent state sites

-- each image has a log
abbrev pub SitesLeaveLogs : {D : Type 0} → Type 0 → (D → DiskState) → Opening → (ℕ → ℕ → List LinkFault) → List (Cast D) → Type 0
SitesLeaveLogs told state o plans sites = told → AreSitesIn told state o plans sites → HaveLogs (disks_of state sites)

-- and so where their cells alone are known to be there, whose links keep their plans
abbrev pub CellsLeaveCoherent : {D : Type 0} → Type 0 → (D → DiskState) → Opening → (ℕ → ℕ → List LinkFault) → List (Cast D) → Type 0
CellsLeaveCoherent told state o plans sites = told → IsOpening o → AreCellsIn told state o plans sites → LeaveCoherent state sites

abbrev pub CellsLeaveLogs : {D : Type 0} → Type 0 → (D → DiskState) → Opening → (ℕ → ℕ → List LinkFault) → List (Cast D) → Type 0
CellsLeaveLogs told state o plans sites = told → AreCellsIn told state o plans sites → HaveLogs (disks_of state sites)

-- ---- of a run that has begun with a script that fits, over logs that are coherent once they are raised

-- after any rounds
abbrev pub RoundsLeaveCoherent : {D : Type 0} → Type 0 → (D → DiskState) → (D → ℕ) → (D → ℕ) → Global → Script → List D → Lcg → ℕ → SitesValue D → SitesValue D → Lcg → Type 0
RoundsLeaveCoherent told state own size alloc script disks rng n all new later =
    told → HasBegun told state own alloc script disks all → SitOnce script.seats → Fits (length disks) script → HaveCoherentLogs alloc disks all.sites → Rounds told state own size rng n all new later
    → LeaveCoherent state new.sites

-- as the rounds of such a run end
abbrev pub EndingsLeaveCoherent : {D : Type 0} → Type 0 → (D → DiskState) → (D → ℕ) → (D → ℕ) → Global → Script → List D → ℕ → SitesValue D → SitesValue D → Ending → Type 0
EndingsLeaveCoherent told state own size alloc script disks seed all new ending =
    told → HasBegun told state own alloc script disks all → SitOnce script.seats → Fits (length disks) script → HaveCoherentLogs alloc disks all.sites → IsEnding told state own size script seed all new ending
    → LeaveCoherent state new.sites

-- and where one was cut short
abbrev pub CutShortLeavesCoherent : {D : Type 0} → Type 0 → (D → DiskState) → (D → ℕ) → (D → ℕ) → Global → Script → List D → ℕ → NodeNo → SitesValue D → SitesValue D → Type 0
CutShortLeavesCoherent told state own size alloc script disks seed node all new =
    told → HasBegun told state own alloc script disks all → SitOnce script.seats → Fits (length disks) script → HaveCoherentLogs alloc disks all.sites → IsCutShort told state own size seed node all new
    → LeaveCoherent state new.sites

-- and where memory was refused in a round, in whichever visit and within whichever step
abbrev pub RefusedLeavesCoherent : {D : Type 0} → Type 0 → (D → DiskState) → (D → ℕ) → (D → ℕ) → Global → Script → List D → ℕ → SitesValue D → SitesValue D → Type 0
RefusedLeavesCoherent told state own size alloc script disks seed all new =
    told → HasBegun told state own alloc script disks all → SitOnce script.seats → Fits (length disks) script → HaveCoherentLogs alloc disks all.sites → IsOutOfMemory told state own size seed all new
    → LeaveCoherent state new.sites

-- ---- as it begins

-- what the disks have as they are handed in, and the logs of that are coherent
abbrev pub HaveCoherentContents : {D : Type 0} → Global → (D → DiskState) → List D → Type 0
HaveCoherentContents alloc state disks = AreCoherentImages alloc (length disks) (content_at (map state disks))

-- then so are the logs that the nodes raise there
abbrev pub RaisedStayCoherent : {D : Type 0} → Type 0 → (D → DiskState) → (D → ℕ) → Global → Script → List D → SitesValue D → Type 0
RaisedStayCoherent told state own alloc script disks all = told → HasBegun told state own alloc script disks all → HaveCoherentContents alloc state disks → HaveCoherentLogs alloc disks all.sites

-- what a read gives is one of the images of each disk
abbrev pub AreReadAsLeft : List DiskState → Type 0
AreReadAsLeft disks = (n : ℕ) (disk : DiskState) → slice_get disks n ≡ Some disk → IsImage disk.now disk.content

-- so the contents of coherent disks are coherent
abbrev pub CoherentAreRead : List DiskState → Type 0
CoherentAreRead disks = AreReadAsLeft disks → AreCoherentDisks disks → (alloc : Global) → AreCoherentImages alloc (length disks) (content_at disks)

-- ---- a run may follow a run: what it leaves is coherent where what it began over was

-- it began with a script that fits, in which no client sits at two nodes, over disks whose contents are coherent
pub record BeginsCoherent {D : Type 0} (told : Type 0) (state : D → DiskState) (own : D → ℕ) (alloc : Global) (script : Script) (disks : List D) (all : SitesValue D) : Type 0 where
  pub begun : HasBegun told state own alloc script disks all
  pub once : SitOnce script.seats
  pub fits : Fits (length disks) script
  pub coherent : HaveCoherentContents alloc state disks

abbrev pub RoundsFollow : {D : Type 0} → Type 0 → (D → DiskState) → (D → ℕ) → (D → ℕ) → Global → Script → List D → Lcg → ℕ → SitesValue D → SitesValue D → Lcg → Type 0
RoundsFollow told state own size alloc script disks rng n all new later =
    told → BeginsCoherent told state own alloc script disks all → Rounds told state own size rng n all new later → LeaveCoherent state new.sites

abbrev pub EndingsFollow : {D : Type 0} → Type 0 → (D → DiskState) → (D → ℕ) → (D → ℕ) → Global → Script → List D → ℕ → SitesValue D → SitesValue D → Ending → Type 0
EndingsFollow told state own size alloc script disks seed all new ending =
    told → BeginsCoherent told state own alloc script disks all → IsEnding told state own size script seed all new ending → LeaveCoherent state new.sites

abbrev pub CutShortFollows : {D : Type 0} → Type 0 → (D → DiskState) → (D → ℕ) → (D → ℕ) → Global → Script → List D → ℕ → NodeNo → SitesValue D → SitesValue D → Type 0
CutShortFollows told state own size alloc script disks seed node all new =
    told → BeginsCoherent told state own alloc script disks all → IsCutShort told state own size seed node all new → LeaveCoherent state new.sites

abbrev pub RefusedFollows : {D : Type 0} → Type 0 → (D → DiskState) → (D → ℕ) → (D → ℕ) → Global → Script → List D → ℕ → SitesValue D → SitesValue D → Type 0
RefusedFollows told state own size alloc script disks seed all new =
    told → BeginsCoherent told state own alloc script disks all → IsOutOfMemory told state own size seed all new → LeaveCoherent state new.sites
