-- A serial run of a script over disks: each node begins over its own, they make their rounds up to an end, and each disk is back in its place.
use Rattle.std.specs.Prelude.{◌≡◌, ◌≤◌, ◌<◌, ◌^◌, ℕ, List, length, Some, Result, Err, IfOk, slice_get}
use Rattle.std.specs.Global.{Global}
use Rattle.qs_base.specs.Causes.{Rose}
use Rattle.qs_base.specs.declared.identifiers.NodeNo.{NodeNo}
use Rattle.qs_base.specs.declared.memory.NoMemory.{NoMemory}
use Rattle.qs_book_script.specs.declared.script.Script.{Script}
use Rattle.qs_cell.specs.Logged.{HasLog}
use Rattle.qs_cell.specs.Starts.{journal_of, trace_of}
use Rattle.qs_cell.specs.State.{LogStands, disk_of}
use Rattle.qs_disk.specs.Disk.{DiskState, EachImage}
use Rattle.qs_disk.specs.Moments.{Keeps}
use Rattle.qs_log.specs.Image.{IsDamaged}
use Rattle.qs_log.specs.declared.fault.OpenFault.{OpenFault}
use Rattle.qs_log.specs.declared.fault.OpenFault.TheVariants as open_faults
use Rattle.qs_log_start.specs.Incarnation.{IsTouched, MayLeaveUnraised, open_limit}
use Rattle.qs_world_plans.specs.Budget.{most_budget}
use Rattle.qs_world_rounds.specs.Rounds.{Cast}
use Rattle.qs_world_rounds.specs.declared.faults.RoundFault.{RoundFault}
use Rattle.qs_world_rounds.specs.declared.faults.RoundFault.TheVariants as faults
use Rattle.qs_world_rounds.specs.declared.rounds.Ending.{Ending}
use Rattle.qs_world_serial.specs.declared.serial.SerialRun.{SerialRun}
use Rattle.qs_world_serial.specs.declared.serial.SerialRun.TheVariants as runs
use Rattle.qs_world_serial.specs.declared.serial.SiteTold.{SiteTold}
use Rattle.qs_world_sites.specs.Endings.{IsCutShort, IsEnding, IsOutOfMemory}
use Rattle.qs_world_sites.specs.Seats.{HasBegun}
use Rattle.qs_world_sites.specs.Sites.{Each, GoesOn, SitesValue}

-- P of each of them, which stand beside one another, by number
pub record EachBeside {A B : Type 0} (P : ℕ → A → B → Type 0) (these : List A) (those : List B) : Type 0 where
  pub count : length those ≡ length these
  pub each : (n : ℕ) (a : A) (b : B) → slice_get these n ≡ Some a → slice_get those n ≡ Some b → P n a b

-- ---- a disk whose node did not begin, or began and made no round

-- it is changed at most by the raise of its log's incarnation, at each moment
pub record IsTouchedDisk {D : Type 0} (told : Type 0) (state : D → DiskState) (size : D → ℕ) (disk after : D) : Type 0 where
  pub moments : told → Keeps (IsTouched (state disk)) (state disk) (state after)
  pub bytes : size after ≡ size disk

-- up to that of the node whose log was not opened; those behind it are as they were
pub record IsTouchedUpTo {D : Type 0} (told : Type 0) (state : D → DiskState) (size : D → ℕ) (node n : ℕ) (disk after : D) : Type 0 where
  pub touched : IsTouchedDisk told state size disk after
  pub behind : node < n → after ≡ disk

-- why the log of a disk was not opened, and what that leaves
pub record IsUnopened {D : Type 0} (told : Type 0) (state : D → DiskState) (own : D → ℕ) (why : OpenFault) (disk after : D) : Type 0 where
  pub damaged : told → (at : ℕ) → why ≡ open_faults.Damaged at → IsDamaged open_limit (state disk).content at
  pub failed : why ≡ open_faults.DiskFailed → Rose (own disk) (own after)
  pub kept : told → why ≡ open_faults.DiskFailed → MayLeaveUnraised (state disk) (state after)

-- the log of that node was not opened
pub record IsNotOpened {D : Type 0} (told : Type 0) (state : D → DiskState) (own size : D → ℕ) (node : ℕ) (why : OpenFault) (disks afters : List D) : Type 0 where
  pub disk : D
  pub after : D
  pub disk_is : slice_get disks node ≡ Some disk
  pub after_is : slice_get afters node ≡ Some after
  pub unopened : IsUnopened told state own why disk after
  pub each : EachBeside (IsTouchedUpTo told state size node) disks afters

-- ---- the rounds

-- what a site leaves: its disk, and what is told of its node
pub record LeavesDisk {D : Type 0} (told : Type 0) (state : D → DiskState) (site : Cast D) (after : D) : Type 0 where
  pub disk : after ≡ (disk_of site.node.seat.node).disk
  pub stands : told → LogStands state site.node.seat.node
  pub logged : told → EachImage (HasLog site.node.opened) (state after).now

pub record IsToldBy {D : Type 0} (site : Cast D) (tells : SiteTold) : Type 0 where
  pub opened : tells.opened ≡ site.node.opened
  pub journal : tells.journal ≡ journal_of site.node
  pub trace : tells.trace ≡ trace_of site.node

-- the sites began over the disks, as the script sets them, and made rounds in orders that the seed draws, up to this end; no restart found its log damaged
-- where the disks tell what is on them
pub record HasRun {D : Type 0} (told : Type 0) (state : D → DiskState) (own size : D → ℕ) (script : Script) (seed : ℕ) (ending : Result Ending RoundFault) (tells : Result (List SiteTold) NoMemory) (disks afters : List D) : Type 0 where
  pub alloc : Global
  pub first : SitesValue D
  pub last : SitesValue D
  pub begins : HasBegun told state own alloc script disks first
  pub bytes : EachBeside (λ n disk (site : Cast D). size (disk_of site.node.seat.node).disk ≡ size disk) disks first.sites
  pub ends : IfOk ending (IsEnding told state own size script seed first last)
  pub cut : (node : NodeNo) → ending ≡ Err (faults.DiskFault node) → IsCutShort told state own size seed node first last
  pub refused : ending ≡ Err faults.NoMemory → IsOutOfMemory told state own size seed first last
  pub undamaged : told → most_budget script ≤ 2 ^ 32 → ending ≡ Err faults.Damaged → ⊥
  pub stays : Each GoesOn first.sites last.sites
  pub leaves : EachBeside (λ n. LeavesDisk told state) last.sites afters
  pub tells_is : IfOk tells (EachBeside (λ n. IsToldBy) last.sites)

-- ---- what a run came to

abbrev pub IsRun : {D : Type 0} → Type 0 → (D → DiskState) → (D → ℕ) → (D → ℕ) → Script → ℕ → SerialRun → List D → List D → Type 0
IsRun told state own size script seed (runs.NotOpened node why) disks afters = IsNotOpened told state own size node.0 why disks afters
IsRun told state own size script seed runs.NoMemory disks afters = EachBeside (λ n. IsTouchedDisk told state size) disks afters
IsRun told state own size script seed (runs.Ended ending tells) disks afters = HasRun told state own size script seed ending tells disks afters
