-- What the top call promises of a run: what its journal is, how it ended, what was given, and what is left on the disks.
use Rattle.std.specs.Prelude.{◌≡◌, ◌⊎◌, ◌<◌, ℕ, Bool, List, [], length, map}
use Rattle.qs_base.specs.declared.identifiers.NodeNo.{NodeNo}
use Rattle.qs_book_conformance.specs.Borrowing.{node_no}
use Rattle.qs_book_conformance.specs.Conforming.{Conforms}
use Rattle.qs_book_journal.specs.declared.entry.Entry.{Entry}
use Rattle.qs_book_machine.specs.Book.{BookValue}
use Rattle.qs_book_machine.specs.Lawful.{IsLawful, book_after}
use Rattle.qs_book_machine.specs.Opening.{opening}
use Rattle.qs_book_machine.specs.declared.opened.Opened.{Opened}
use Rattle.qs_book_script.specs.declared.script.Script.{Script}
use Rattle.qs_book_script.specs.declared.status.Status.{Status}
use Rattle.qs_book_script.specs.declared.status.Status.TheVariants as statuses
use Rattle.qs_cell.specs.Logged.{HasLog}
use Rattle.qs_disk.specs.Disk.{DiskState, EachImage, Frame}
use Rattle.qs_node_step.specs.declared.trace.Step.{Step}
use Rattle.qs_top.specs.Disks.{AreOnlyTouched, IsHeldBy, IsOnlyTouched, OfThese}
use Rattle.qs_text.specs.Given.{given_of}
use Rattle.qs_top.specs.Ends.{status_of}
use Rattle.qs_top.specs.Verdicts.{IsRefusedAt, rule_of_script}
use Rattle.qs_world_left.specs.Disks.{AreCoherentDisks}
use Rattle.qs_world_left.specs.Standing.{DisksStandFor, HaveOthersStampsLeft, StandsAlone}
use Rattle.qs_world_plans.specs.Waiting.{waiting_of}
use Rattle.qs_world_serial.specs.Serial.{EachBeside}
use Rattle.qs_text.specs.declared.given.Shown.{Shown}

-- ---- the journal

-- the logs of these disks held this, each with the incarnation that it is raised to
abbrev pub AreHeldBy : {D : Type 0} → (D → DiskState) → Script → ℕ → List D → List Opened → Type 0
AreHeldBy {D} state script nodes disks opened = EachBeside (λ n (disk : D) found. IsHeldBy script nodes (node_no n) (state disk).content found) disks opened

-- what the logs of a run of so many nodes held
pub record HeldOnce {D : Type 0} (state : D → DiskState) (nodes : ℕ) (opened : List Opened) (old new : List D) : Type 0 where
  pub script : Script
  pub these : OfThese nodes (λ disks afters. AreHeldBy state script nodes disks opened) old new

-- the entries are lawful from what the logs of the first so many disks held
pub record HasLawful {D : Type 0} (told : Type 0) (state : D → DiskState) (nodes : ℕ) (journal : List Entry) (old new : List D) : Type 0 where
  pub opened : List Opened
  pub lawful : IsLawful (opening opened) journal
  pub count : 0 < length journal → length opened ≡ nodes
  pub held : 0 < length journal → told → HeldOnce state nodes opened old new

-- ---- what is told

-- nothing is told
pub record IsNothing (journal : List Entry) (trace : List Step) : Type 0 where
  pub entries : journal ≡ []
  pub steps : trace ≡ []

-- whichever image a power cut leaves of each disk, another run may begin over them; and where no other node made a step with the last stamp each image of a disk stands
-- for this machine, by whether its node is up. That of the only node of a run does with pending changes and locks
pub record AreLasting {D : Type 0} (state : D → DiskState) (book : BookValue) (ups : ℕ → Bool) (trace : List Step) (afters : List D) : Type 0 where
  pub coherent : AreCoherentDisks (map state afters)
  pub stands : DisksStandFor book ups (HaveOthersStampsLeft trace) (map state afters)
  pub alone : StandsAlone book (ups 0) (map state afters)

-- the logs held this; the journal conforms to the script from there; and where the logs were coherent, what is left lasts for the machine after it. Which nodes are up is
-- what the machine has: none but a node that is up may stop, and none but one that is down restart
pub record AreTold {D : Type 0} (told : Type 0) (state : D → DiskState) (script : Script) (nodes : ℕ) (opened : List Opened) (ups : ℕ → Bool) (disks afters : List D) (journal : List Entry) (trace : List Step) : Type 0 where
  pub held : told → AreHeldBy state script nodes disks opened
  pub conforms : Conforms script (opening opened) journal
  pub lasts : told → AreCoherentDisks (map state disks) → AreLasting state (book_after (opening opened) journal) ups trace afters

-- ---- how a run ended

-- what is to be given: the output, or the line of a load
abbrev pub output_from : Script → List Entry → Shown → BookValue → List ℕ
output_from script journal shown book = given_of script journal (book_after book journal) shown

-- it came to its end, after so many rounds and with all work done or not, so that it has this status, and of its output that much was given
pub record IsWhole {D : Type 0} (told : Type 0) (state : D → DiskState) (nodes : ℕ) (script : Script) (shown : Shown) (Has : Status → Type 0) (Gave : List ℕ → Type 0) (journal : List Entry) (trace : List Step) (disks afters : List D) : Type 0 where
  pub opened : List Opened
  pub ups : ℕ → Bool
  pub is_told : AreTold told state script nodes opened ups disks afters journal trace
  pub rounds : ℕ
  pub settled : Bool
  pub status : Has (status_of rounds settled (waiting_of script journal))
  pub gave : Gave (output_from script journal shown (opening opened))

-- a disk failed as its node was started again: it is told up to there
pub record IsShort {D : Type 0} (told : Type 0) (state : D → DiskState) (nodes : ℕ) (script : Script) (journal : List Entry) (trace : List Step) (disks afters : List D) : Type 0 where
  pub opened : List Opened
  pub ups : ℕ → Bool
  pub is_told : AreTold told state script nodes opened ups disks afters journal trace

-- a disk failed before each node had begun: nothing is told, and each disk was changed at most by the raise of its log's incarnation
pub record IsNotBegun {D : Type 0} (told : Type 0) (state : D → DiskState) (journal : List Entry) (trace : List Step) (disks afters : List D) : Type 0 where
  pub nothing : IsNothing journal trace
  pub touched : AreOnlyTouched told state disks afters

-- the judge refused what the nodes made, at this line for this clause; where the logs were coherent each entry is a lawful step, and it is for a rule of the script
pub record IsRefused {D : Type 0} (told : Type 0) (state : D → DiskState) (nodes : ℕ) (script : Script) (line clause : ℕ) (disks afters : List D) : Type 0 where
  pub opened : List Opened
  pub journal : List Entry
  pub held : told → AreHeldBy state script nodes disks opened
  pub refused : IsRefusedAt script (opening opened) journal line clause
  pub by_script : told → AreCoherentDisks (map state disks) → clause ≡ rule_of_script

-- ---- what is left on the disks

-- each image has a log that goes on from what the log of that node's content held
pub record GoesOnFrom (nodes : ℕ) (node : NodeNo) (content : List ℕ) (frame : Frame) : Type 0 where
  pub script : Script
  pub opened : Opened
  pub held : IsHeldBy script nodes node content opened
  pub each : EachImage (HasLog opened) frame

-- nothing that the log held is lost
abbrev pub IsLogged : {D : Type 0} → Type 0 → (D → DiskState) → ℕ → ℕ → D → D → Type 0
IsLogged told state nodes n disk after = told → GoesOnFrom nodes (node_no n) (state disk).content (state after).now

-- a run with this status leaves this on the disk of its node n: what it was handed in where no disk was opened; that, but for the raise, where a log was
-- not opened; and a log that goes on from its own where all nodes began
abbrev pub Leaves : {D : Type 0} → Type 0 → (D → DiskState) → ℕ → Status → ℕ → D → D → Type 0
Leaves told state nodes (statuses.Damaged node at) n disk after = IsOnlyTouched told state disk after
Leaves told state nodes (statuses.DiskFault node) n disk after = IsOnlyTouched told state disk after ⊎ IsLogged told state nodes n disk after
Leaves told state nodes statuses.NoMemory n disk after = IsOnlyTouched told state disk after ⊎ IsLogged told state nodes n disk after
Leaves told state nodes statuses.Finished n disk after = IsLogged told state nodes n disk after
Leaves told state nodes (statuses.Unfinished rounds waiting) n disk after = IsLogged told state nodes n disk after
Leaves told state nodes statuses.WriteFault n disk after = IsLogged told state nodes n disk after
Leaves told state nodes (statuses.Unlawful line clause) n disk after = IsLogged told state nodes n disk after
Leaves told state nodes status n disk after = after ≡ disk

-- so on each
abbrev pub LeaveAll : {D : Type 0} → Type 0 → (D → DiskState) → ℕ → Status → List D → List D → Type 0
LeaveAll told state nodes status disks afters = EachBeside (Leaves told state nodes status) disks afters
