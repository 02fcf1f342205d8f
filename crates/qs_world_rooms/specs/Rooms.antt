-- Room in the logs of many nodes for all that is kept there: on their disks, at their nodes, and that visits, carrying and rounds keep it.
use Rattle.std.specs.Prelude.{◌≡◌, ℕ, Bool, false, List, map, Some, slice_get}
use Rattle.qs_base.specs.declared.identifiers.NodeNo.{NodeNo}
use Rattle.qs_cell.specs.State.{disk_of}
use Rattle.qs_cell.specs.declared.state.CellState.{CellState}
use Rattle.qs_cell.specs.declared.state.CellState.TheVariants as states
use Rattle.qs_disk.specs.Disk.{DiskState}
use Rattle.qs_link.specs.declared.outgoing.LinkFault.{LinkFault}
use Rattle.qs_node_host.specs.Roomy.{HasRoomyLog}
use Rattle.qs_world.specs.Openings.{IsOpening}
use Rattle.qs_world.specs.World.{Opening}
use Rattle.qs_world_left.specs.Left.{AreReadAsLeft}
use Rattle.qs_world_nodes.specs.Nodes.{AreSitesIn}
use Rattle.qs_world_one.specs.Rooms.{Began, IsRoomyCell, IsRoomyDisk}
use Rattle.qs_world_rounds.specs.Rounds.{Cast}
use Rattle.qs_world_sites.specs.Breaks.{BreaksRound, RefusesRound}
use Rattle.qs_world_sites.specs.Rounds.{IsRound, Rounds, VisitAll, VisitAt}
use Rattle.qs_world_sites.specs.Sites.{AreCarried, SitesValue}
use Rattle.rand_pcg.specs.Lcg.{Lcg}

-- ---- disks, by the numbers of their nodes, with so many bytes each

-- each image that a power cut may leave of each has a log with room for all that is kept there
abbrev pub AreRoomyDisks : List ℕ → List DiskState → Type 0
AreRoomyDisks sizes disks = (n size : ℕ) (disk : DiskState) → slice_get sizes n ≡ Some size → slice_get disks n ≡ Some disk → IsRoomyDisk size disk

-- and so has what a read gives of each
abbrev pub AreRoomyContents : List ℕ → List DiskState → Type 0
AreRoomyContents sizes disks = (n size : ℕ) (disk : DiskState) → slice_get sizes n ≡ Some size → slice_get disks n ≡ Some disk → HasRoomyLog 128 size disk.content

-- which is one of the images
abbrev pub RoomyAreRead : List ℕ → List DiskState → Type 0
RoomyAreRead sizes disks = AreReadAsLeft disks → AreRoomyDisks sizes disks → AreRoomyContents sizes disks

-- ---- nodes

-- the bytes of the disks of sites
abbrev pub disk_size : {D : Type 0} → (D → ℕ) → Cast D → ℕ
disk_size size site = size (disk_of site.node.seat.node).disk

abbrev pub sizes_of : {D : Type 0} → (D → ℕ) → List (Cast D) → List ℕ
sizes_of size sites = map (disk_size size) sites

-- a node that is down stopped for want of room in its log
abbrev pub is_full : {D : Type 0} → CellState D → Bool
is_full (states.Up running) = false
is_full (states.Down stopped) = stopped.is_full

abbrev pub NoneIsFull : {D : Type 0} → List (Cast D) → Type 0
NoneIsFull sites = (n : ℕ) (site : Cast _) → slice_get sites n ≡ Some site → is_full site.node.seat.node ≡ false

-- each node is set to keep what is enough, and has room, up or down; and so has its disk, of as many bytes as it began over
abbrev pub AreRoomySites : {D : Type 0} → (D → DiskState) → (D → ℕ) → (ℕ → Began) → List (Cast D) → Type 0
AreRoomySites state size began sites = (n : ℕ) (site : Cast _) → slice_get sites n ≡ Some site → IsRoomyCell state size (began n) site.node.seat.node

-- ---- they go on, in a world that a run may begin with

abbrev pub StayRoomy : {D : Type 0} → (D → DiskState) → (D → ℕ) → (ℕ → Began) → List (Cast D) → List (Cast D) → Type 0
StayRoomy state size began old new = AreRoomySites state size began old → AreRoomySites state size began new

abbrev pub CarriesStayRoomy : {D : Type 0} → (D → DiskState) → (D → ℕ) → (ℕ → Began) → List (Cast D) → List (Cast D) → Type 0
CarriesStayRoomy state size began old new = AreCarried old new → StayRoomy state size began old new

abbrev pub VisitStaysRoomy : {D : Type 0} → Type 0 → (D → DiskState) → (D → ℕ) → (D → ℕ) → Opening → (ℕ → ℕ → List LinkFault) → (ℕ → Began) → ℕ → SitesValue D → SitesValue D → Bool → Type 0
VisitStaysRoomy told state own size o plans began place old new did =
    told → IsOpening o → AreSitesIn told state o plans old.sites → VisitAt told state own size place old new did → StayRoomy state size began old.sites new.sites

abbrev pub VisitsStayRoomy : {D : Type 0} → Type 0 → (D → DiskState) → (D → ℕ) → (D → ℕ) → Opening → (ℕ → ℕ → List LinkFault) → (ℕ → Began) → List ℕ → SitesValue D → SitesValue D → Bool → Type 0
VisitsStayRoomy told state own size o plans began places old new did =
    told → IsOpening o → AreSitesIn told state o plans old.sites → VisitAll told state own size places old new did → StayRoomy state size began old.sites new.sites

abbrev pub RoundStaysRoomy : {D : Type 0} → Type 0 → (D → DiskState) → (D → ℕ) → (D → ℕ) → Opening → (ℕ → ℕ → List LinkFault) → (ℕ → Began) → List ℕ → SitesValue D → SitesValue D → Bool → Type 0
RoundStaysRoomy told state own size o plans began order old new quiet =
    told → IsOpening o → AreSitesIn told state o plans old.sites → IsRound told state own size order old new quiet → StayRoomy state size began old.sites new.sites

abbrev pub RoundsStayRoomy : {D : Type 0} → Type 0 → (D → DiskState) → (D → ℕ) → (D → ℕ) → Opening → (ℕ → ℕ → List LinkFault) → (ℕ → Began) → Lcg → ℕ → SitesValue D → SitesValue D → Lcg → Type 0
RoundsStayRoomy told state own size o plans began rng n old new later =
    told → IsOpening o → AreSitesIn told state o plans old.sites → Rounds told state own size rng n old new later → StayRoomy state size began old.sites new.sites

-- a round that is cut short, as the disk of a node fails
abbrev pub BrokenRoundStaysRoomy : {D : Type 0} → Type 0 → (D → DiskState) → (D → ℕ) → (D → ℕ) → Opening → (ℕ → ℕ → List LinkFault) → (ℕ → Began) → List ℕ → NodeNo → SitesValue D → SitesValue D → Type 0
BrokenRoundStaysRoomy told state own size o plans began order node old new =
    told → IsOpening o → AreSitesIn told state o plans old.sites → BreaksRound told state own size order node old new → StayRoomy state size began old.sites new.sites

-- and one in which memory was refused, in whichever visit and within whichever step
abbrev pub RefusedRoundStaysRoomy : {D : Type 0} → Type 0 → (D → DiskState) → (D → ℕ) → (D → ℕ) → Opening → (ℕ → ℕ → List LinkFault) → (ℕ → Began) → List ℕ → SitesValue D → SitesValue D → Type 0
RefusedRoundStaysRoomy told state own size o plans began order old new =
    told → IsOpening o → AreSitesIn told state o plans old.sites → RefusesRound told state own size order old new → StayRoomy state size began old.sites new.sites
