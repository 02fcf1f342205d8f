-- Within a serial run: what comes of the places behind the sites that have begun.
use Rattle.std.specs.Prelude.{◌≡◌, ◌≢◌, ◌+◌, ◌*◌, ◌++◌, ℕ, List, [], ◌∷◌, length, map, Some, Result, Ok, Err, IfOk, slice_get}
use Rattle.qs_base.specs.declared.identifiers.NodeNo.{NodeNo}
use Rattle.qs_base.specs.declared.memory.NoMemory.{NoMemory}
use Rattle.qs_book_journal.specs.declared.entry.Entry.{Entry}
use Rattle.qs_book_machine.specs.declared.opened.Opened.{Opened}
use Rattle.qs_book_script.specs.declared.script.FaultLine.{FaultLine}
use Rattle.qs_book_script.specs.declared.script.Script.{Script}
use Rattle.qs_cell.specs.State.{disk_of}
use Rattle.qs_cell_peers.specs.Links.{LinksValue, into_of, out_of}
use Rattle.qs_disk.specs.Disk.{DiskState}
use Rattle.qs_log.specs.declared.fault.OpenFault.{OpenFault}
use Rattle.qs_log.specs.declared.fault.OpenFault.TheVariants as open_faults
use Rattle.qs_node_step.specs.declared.trace.Step.{Step}
use Rattle.qs_world_plans.specs.Budget.{most_budget}
use Rattle.qs_world_rounds.specs.Rounds.{Cast}
use Rattle.qs_world_rounds.specs.Seats.{AreLinksOf, BeginsAt}
use Rattle.qs_world_rounds.specs.declared.faults.RoundFault.{RoundFault}
use Rattle.qs_world_rounds.specs.declared.faults.RoundFault.TheVariants as faults
use Rattle.qs_world_rounds.specs.declared.rounds.Ending.{Ending}
use Rattle.qs_world_serial.specs.Serial.{EachBeside, IsNotOpened, IsToldBy, IsTouchedDisk, IsUnopened, LeavesDisk}
use Rattle.qs_world_serial.specs.declared.places.Course.{Course}
use Rattle.qs_world_serial.specs.declared.serial.SerialRun.{SerialRun}
use Rattle.qs_world_serial.specs.declared.serial.SerialRun.TheVariants as runs
use Rattle.qs_world_serial.specs.declared.serial.SiteTold.{SiteTold}
use Rattle.qs_world_sites.specs.Endings.{IsCutShort, IsEnding, IsOutOfMemory}
use Rattle.qs_world_sites.specs.Late.{IsLate}
use Rattle.qs_world_sites.specs.Seats.{IsNewLink, plan_between, turns_of}
use Rattle.qs_world_sites.specs.Sites.{Each, GoesOn, SitesValue, count_of, links_of}

-- ---- the links

-- those of all nodes, by number
pub record AreAllLinks (lines : List FaultLine) (size : ℕ) (all : List LinksValue) : Type 0 where
  pub count : length all ≡ size
  pub own : (n : ℕ) (links : LinksValue) → slice_get all n ≡ Some links → AreLinksOf size (record { 0 = n }) links
  pub links : (n m : ℕ) (a b : LinksValue) → slice_get all n ≡ Some a → slice_get all m ≡ Some b → n ≢ m → IsNewLink (plan_between n m lines) (out_of a m) (into_of b n)

-- those of the nodes that have begun, and the others
abbrev pub all_links : {D : Type 0} → List (Cast D) → List LinksValue → List LinksValue
all_links sites others = map links_of sites ++ others

-- ---- one site more

-- it began over the disk
pub record HasJoined {D : Type 0} (told : Type 0) (state : D → DiskState) (own size : D → ℕ) (course : Course) (script : Script) (sites joined : List (Cast D)) (links others : List LinksValue) (disk : D) : Type 0 where
  pub site : Cast D
  pub sites_are : joined ≡ sites ++ site ∷ []
  pub links_are : links ≡ links_of site ∷ others
  pub begins : BeginsAt told state own course.alloc script course.nodes (record { 0 = length sites }) disk site
  pub touched : IsTouchedDisk told state size disk (disk_of site.node.seat.node).disk

-- its log was not opened
pub record HasNotJoined {D : Type 0} (told : Type 0) (state : D → DiskState) (own size : D → ℕ) (why : OpenFault) (disk after : D) : Type 0 where
  pub unopened : IsUnopened told state own why disk after
  pub touched : IsTouchedDisk told state size disk after

-- so the run is of that node
abbrev pub not_begun : NodeNo → OpenFault → SerialRun
not_begun node open_faults.NoMemory = runs.NoMemory
not_begun node why = runs.NotOpened node why

-- ---- the last site is taken apart

-- what has P stands before what is told of the sites behind it, or memory was refused
abbrev pub IsTellMore : (SiteTold → Type 0) → Result (List SiteTold) NoMemory → Result (List SiteTold) NoMemory → Type 0
IsTellMore P old new = IfOk new (λ tells. (first : SiteTold) × ((rest : List SiteTold) × ((old ≡ Ok rest) × ((tells ≡ first ∷ rest) × P first))))

-- where the rounds ended
abbrev pub TellsMore : (SiteTold → Type 0) → SerialRun → SerialRun → Type 0
TellsMore P (runs.Ended ending tells) run = (more : Result (List SiteTold) NoMemory) × ((run ≡ runs.Ended ending more) × IsTellMore P tells more)
TellsMore P runs.NoMemory run = run ≡ runs.NoMemory
TellsMore P (runs.NotOpened node why) run = run ≡ runs.NotOpened node why

-- of these parts, the first of which may have been refused memory
pub record IsMadeOf (opened : Result Opened NoMemory) (journal : List Entry) (trace : List Step) (tells : SiteTold) : Type 0 where
  pub opened_is : opened ≡ Ok tells.opened
  pub journal_is : tells.journal ≡ journal
  pub trace_is : tells.trace ≡ trace

pub record HasLeft {D : Type 0} (told : Type 0) (state : D → DiskState) (sites left : List (Cast D)) (before run : SerialRun) (after : D) : Type 0 where
  pub site : Cast D
  pub sites_are : sites ≡ left ++ site ∷ []
  pub leaves : LeavesDisk told state site after
  pub tells : TellsMore (IsToldBy site) before run

-- ---- the rounds of all

pub record MadeRounds {D : Type 0} (told : Type 0) (state : D → DiskState) (own size : D → ℕ) (script : Script) (seed : ℕ) (ending : Result Ending RoundFault) (first last : SitesValue D) : Type 0 where
  pub ends : IfOk ending (IsEnding told state own size script seed first last)
  pub cut : (node : NodeNo) → ending ≡ Err (faults.DiskFault node) → IsCutShort told state own size seed node first last
  pub refused : ending ≡ Err faults.NoMemory → IsOutOfMemory told state own size seed first last
  pub damaged : told → ending ≡ Err faults.Damaged → IsLate (count_of first * most_budget script) first.sites
  pub stays : Each GoesOn first.sites last.sites

-- ---- what came of the places behind these sites, and of the sites

-- of the node that stands so many places behind them the log was not opened
pub record IsNotOpenedBehind {D : Type 0} (told : Type 0) (state : D → DiskState) (own size : D → ℕ) (before node : ℕ) (why : OpenFault) (disks afters : List D) : Type 0 where
  pub at : ℕ
  pub node_is : node ≡ before + at
  pub not_opened : IsNotOpened told state own size at why disks afters

-- all began, and made their rounds with the sites before them
pub record HasRunBehind {D : Type 0} (told : Type 0) (state : D → DiskState) (own size : D → ℕ) (course : Course) (script : Script) (ending : Result Ending RoundFault) (tells : Result (List SiteTold) NoMemory) (sites left : List (Cast D)) (disks afters : List D) : Type 0 where
  pub first : SitesValue D
  pub last : SitesValue D
  pub begun : List (Cast D)
  pub gone : List (Cast D)
  pub first_is : first.sites ≡ sites ++ begun
  pub last_is : last.sites ≡ left ++ gone
  pub kept : length left ≡ length sites
  pub turns : first.turns ≡ turns_of course.nodes script.seats
  pub links : AreAllLinks script.faults course.nodes (map links_of first.sites)
  pub begins : EachBeside (λ n disk site. BeginsAt told state own course.alloc script course.nodes (record { 0 = length sites + n }) disk site) disks begun
  pub bytes : EachBeside (λ n disk (site : Cast D). size (disk_of site.node.seat.node).disk ≡ size disk) disks begun
  pub made : MadeRounds told state own size script course.seed ending first last
  pub leaves : EachBeside (λ n. LeavesDisk told state) gone afters
  pub tells_is : IfOk tells (EachBeside (λ n. IsToldBy) gone)

abbrev pub CameOf : {D : Type 0} → Type 0 → (D → DiskState) → (D → ℕ) → (D → ℕ) → Course → Script → SerialRun → List (Cast D) → List (Cast D) → List D → List D → Type 0
CameOf told state own size course script (runs.NotOpened node why) sites left disks afters = (left ≡ sites) × IsNotOpenedBehind told state own size (length sites) node.0 why disks afters
CameOf told state own size course script runs.NoMemory sites left disks afters = (left ≡ sites) × EachBeside (λ n. IsTouchedDisk told state size) disks afters
CameOf told state own size course script (runs.Ended ending tells) sites left disks afters = HasRunBehind told state own size course script ending tells sites left disks afters
