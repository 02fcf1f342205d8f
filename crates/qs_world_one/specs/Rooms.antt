-- Room in the log of a node's disk for all that is kept there: how much there is to be, and what a run that began with it has.
use Rattle.std.specs.Prelude.{◌≡◌, ℕ, List}
use Rattle.qs_cell.specs.Roomy.{IsRoomyNode, IsSetToKeep}
use Rattle.qs_cell.specs.State.{carried_of, disk_of}
use Rattle.qs_cell.specs.declared.state.CellState.{CellState}
use Rattle.qs_disk.specs.Disk.{DiskState, EachImage}
use Rattle.qs_node_host.specs.Roomy.{HasRoomyLog}

-- each image that a power cut may leave has a log with room for all that is kept there, on a disk of so many bytes
abbrev pub IsRoomyDisk : ℕ → DiskState → Type 0
IsRoomyDisk size disk = EachImage (HasRoomyLog 128 size) disk.now

-- ---- along a run

-- the disk that it began over: what it held, and how many bytes it has
pub record Began : Type 0 where
  pub content : List ℕ
  pub bytes : ℕ

abbrev pub BeganRoomy : Began → Type 0
BeganRoomy began = HasRoomyLog 128 began.bytes began.content

-- a node, up or down, is set to keep what is enough; it is roomy, or not stopped for a full log; and so is its disk
pub record IsRoomyCell {D : Type 0} (state : D → DiskState) (size : D → ℕ) (began : Began) (node : CellState D) : Type 0 where
  pub set : IsSetToKeep 128 (carried_of node).setting
  pub roomy : IsRoomyNode 128 (size (disk_of node).disk) node
  pub disk : IsRoomyDisk (size (disk_of node).disk) (state (disk_of node).disk)
  pub bytes : size (disk_of node).disk ≡ began.bytes
