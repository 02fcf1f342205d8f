-- What the log of an image of a node's disk stands for: the node goes on from the machine, after a crash where it is up, by a lawful restart over that log; and
-- what the machine has of that node then is what the log says.
use Rattle.std.specs.Prelude.{◌≡◌, ◌≢◌, ℕ, ◌+◌, ◌<◌, Bool, true, false, List, [], ◌∷◌, length, Option, None, Some, is_none, slice_get}
use Rattle.std.specs.List.{AllByRecursion}
use Rattle.std.specs.Global.{Global}
use Rattle.qs_base.specs.declared.identifiers.NodeNo.{NodeNo}
use Rattle.qs_book_conformance.specs.Crashes.{last_stamp}
use Rattle.qs_book_journal.specs.Merge.{IsMerged}
use Rattle.qs_book_journal.specs.declared.entry.Act.TheVariants as acts
use Rattle.qs_book_journal.specs.declared.entry.CrashCause.TheVariants as causes
use Rattle.qs_book_journal.specs.declared.entry.Entry.{Entry}
use Rattle.qs_book_machine.specs.Book.{BookValue}
use Rattle.qs_book_machine.specs.Lawful.{IsLawful, book_after}
use Rattle.qs_book_machine.specs.Nodes as machine
use Rattle.qs_book_machine.specs.Opening.{opened_node}
use Rattle.qs_book_script.specs.declared.script.Script.{Script}
use Rattle.qs_cell.specs.State.{cause_of}
use Rattle.qs_disk.specs.Disk.{DiskState, EachImage}
use Rattle.qs_link.specs.declared.outgoing.LinkFault.{LinkFault}
use Rattle.qs_log.specs.Image.{IsLog}
use Rattle.qs_node_step.specs.Opening.{recovered_of}
use Rattle.qs_node_step.specs.declared.setting.Setting.{Setting}
use Rattle.qs_node_step.specs.declared.trace.Step.{Step}
use Rattle.qs_record.specs.declared.record.Record.{Record}
use Rattle.qs_restart.specs.Recovery.{Recovery, recovery}
use Rattle.qs_slot.specs.Slot.{Present}
use Rattle.qs_world.specs.Histories.{book_of, opened_with}
use Rattle.qs_world.specs.Openings.{IsOpening}
use Rattle.qs_world.specs.Posting.{entry_of}
use Rattle.qs_world.specs.World.{Opening}
use Rattle.qs_world_lawful.specs.Logged.{HoldsLogged}
use Rattle.qs_world_lawful.specs.Logs.{found_votes}
use Rattle.qs_world_lawful.specs.Said.{HoldsSaid, SameContents}
use Rattle.qs_world_left.specs.Disks.{disks_of}
use Rattle.qs_world_merge.specs.MergedByKey.{IsMergedBy}
use Rattle.qs_world_merge.specs.Observed.{journals_of}
use Rattle.qs_world_merge.specs.StepMoves.{step_key}
use Rattle.qs_world_nodes.specs.Lawful.{HaveCoherentLogs}
use Rattle.qs_world_nodes.specs.Nodes.{AreCellsIn, AreSitesIn, journal_at, trace_at}
use Rattle.qs_world_nodes.specs.Openings.{SitOnce, opening_over}
use Rattle.qs_world_opening.specs.Scripts.{Fits}
use Rattle.qs_world_packets.specs.PacketMoves.{Move, is_in_order}
use Rattle.qs_world_packets.specs.PacketRuns.{Run}
use Rattle.qs_world_packets.specs.PacketWorld.{PacketWorld, start}
use Rattle.qs_world_rounds.specs.Rounds.{Cast}
use Rattle.qs_world_rounds.specs.declared.rounds.Ending.{Ending}
use Rattle.qs_world_sites.specs.Endings.{IsCutShort, IsEnding, IsOutOfMemory}
use Rattle.qs_world_sites.specs.Rounds.{Rounds}
use Rattle.qs_world_sites.specs.Seats.{HasBegun}
use Rattle.qs_world_sites.specs.Sites.{SitesValue}
use Rattle.qs_world_traces.specs.Links.{observed_by}
use Rattle.rand_pcg.specs.Lcg.{Lcg}

-- ---- how node n goes on over a log

-- where it is up, it stops first, for a cause of which the machine asks nothing
abbrev pub stop_entries : ℕ → Bool → ℕ → List Entry
stop_entries n true stamp = entry_of n stamp (acts.Crash causes.Memory) ∷ []
stop_entries n false stamp = []

-- and it finds these votes and Commits
abbrev pub restart_entry : ℕ → ℕ → ℕ → Recovery → Entry
restart_entry n stamp inc log = entry_of n stamp (acts.Restart inc (found_votes log) log.committed)

-- a node that is down restarts: no vote is found that was not made, none is lost unless it is decided, and what the log commits is committed; and contents are
-- what the log's Commits leave, and on record is what its Prepares have
pub record Restarts (book : BookValue) (n stamp inc : ℕ) (records : List Record) : Type 0 where
  pub lawful : IsLawful book (restart_entry n stamp inc (recovery records) ∷ [])
  pub state : machine.NodeValue
  pub there : slice_get (book_after book (restart_entry n stamp inc (recovery records) ∷ [])).nodes n ≡ Some state
  pub said : HoldsSaid n (book_after book (restart_entry n stamp inc (recovery records) ∷ [])) state (recovery records)
  pub logged : HoldsLogged n (book_after book (restart_entry n stamp inc (recovery records) ∷ [])) state (recovery records)

-- where it was up, it has the contents of before
abbrev pub KeepsContents : Bool → Option machine.NodeValue → machine.NodeValue → Type 0
KeepsContents up before state = up ≡ true → (was : machine.NodeValue) → before ≡ Some was → SameContents state.files was.files × SameContents state.audit was.audit

pub record StandsFor (book : BookValue) (n : ℕ) (up : Bool) (inc : ℕ) (records : List Record) : Type 0 where
  pub stamp : ℕ
  pub stops : IsLawful book (stop_entries n up stamp)
  pub restarts : Restarts (book_after book (stop_entries n up stamp)) n stamp inc records
  pub kept : KeepsContents up (slice_get book.nodes n) restarts.state

-- the log of each node of a run of packets stands for the machine after its journal, at each stamp that is in order
abbrev pub EachRunStands : Type 0
EachRunStands = (o : Opening) (moves : List Move) (world : PacketWorld) (n stamp inc : ℕ) → IsOpening o → Run (start o) moves world → is_in_order world n stamp ≡ true → world.network.inc n < inc
    → StandsFor (book_after (book_of o) world.journal) n (world.network.up n) inc (world.hosts n).log

-- ---- disks

-- what the image has for a log does, in the next incarnation
abbrev pub IsStanding : BookValue → ℕ → Bool → List ℕ → Type 0
IsStanding book n up image = (present : Present) (records : List Record) (used : ℕ) → IsLog present records used image → StandsFor book n up (present.value.inc + 1) records

-- each image of each disk of which this holds does, by whether its node is up
abbrev pub DisksStandFor : BookValue → (ℕ → Bool) → (ℕ → Type 0) → List DiskState → Type 0
DisksStandFor book ups Holds disks = (n : ℕ) (disk : DiskState) → slice_get disks n ≡ Some disk → Holds n → EachImage (IsStanding book n (ups n)) disk.now

-- no other node has made a step with the last stamp, so that this one may make one more behind all of theirs
abbrev pub HaveOthersStampsLeft : List Step → ℕ → Type 0
HaveOthersStampsLeft trace n = AllByRecursion (λ (step : Step). step.node.0 ≢ n → step.stamp < last_stamp) trace

-- ---- of a run of one node: nothing is crossed in it, so the machine has all of files and audit as the log says, with pending changes and locks

-- it has what a node that opens over the log by itself has, whatever its setting
pub record StandsWhole (book : BookValue) (up : Bool) (inc : ℕ) (records : List Record) : Type 0 where
  pub stands : StandsFor book 0 up inc records
  pub files : (setting : Setting) → stands.restarts.state.files ≡ (opened_node (opened_with setting (recovered_of records))).files
  pub audit : (setting : Setting) → stands.restarts.state.audit ≡ (opened_node (opened_with setting (recovered_of records))).audit

abbrev pub EachRunStandsAlone : Type 0
EachRunStandsAlone = (o : Opening) (moves : List Move) (world : PacketWorld) (stamp inc : ℕ) → IsOpening o → Run (start o) moves world → o.size ≡ 1 → is_in_order world 0 stamp ≡ true → world.network.inc 0 < inc
    → StandsWhole (book_after (book_of o) world.journal) (world.network.up 0) inc (world.hosts 0).log

-- each image of the only disk does, by whether its node is up
abbrev pub StandsAlone : BookValue → Bool → List DiskState → Type 0
StandsAlone book up disks = (disk : DiskState) → disks ≡ disk ∷ [] → EachImage (λ image. (present : Present) (records : List Record) (used : ℕ) → IsLog present records used image → StandsWhole book up (present.value.inc + 1) records) disk.now

-- ---- of sites

abbrev pub up_by : {D : Type 0} → Option (Cast D) → Bool
up_by None = false
up_by (Some site) = is_none (cause_of site.node.seat.node)

abbrev pub up_at : {D : Type 0} → List (Cast D) → ℕ → Bool
up_at sites n = up_by (slice_get sites n)

-- all that the cells tell, merged: their entries and their steps
pub record IsTold {D : Type 0} (size : ℕ) (journal : List Entry) (trace : List Step) (sites : List (Cast D)) : Type 0 where
  pub entries : IsMerged (journals_of size (λ k. observed_by (journal_at sites k) (trace_at sites k))) journal
  pub steps : IsMergedBy step_key size (trace_at sites) trace

pub record StandFor {D : Type 0} (state : D → DiskState) (o : Opening) (journal : List Entry) (trace : List Step) (sites : List (Cast D)) : Type 0 where
  pub each : DisksStandFor (book_after (book_of o) journal) (up_at sites) (HaveOthersStampsLeft trace) (disks_of state sites)
  pub alone : StandsAlone (book_after (book_of o) journal) (up_at sites 0) (disks_of state sites)

-- the disks of sites in the world stand for the machine after that
abbrev pub SitesLeaveStanding : {D : Type 0} → Type 0 → (D → DiskState) → Opening → (ℕ → ℕ → List LinkFault) → List (Cast D) → List Entry → List Step → Type 0
SitesLeaveStanding told state o plans sites journal trace =
    told → IsOpening o → AreSitesIn told state o plans sites → IsTold o.size journal trace sites → StandFor state o journal trace sites

-- and so where their cells alone are known to be there, whose links keep their plans
abbrev pub CellsLeaveStanding : {D : Type 0} → Type 0 → (D → DiskState) → Opening → (ℕ → ℕ → List LinkFault) → List (Cast D) → List Entry → List Step → Type 0
CellsLeaveStanding told state o plans sites journal trace =
    told → IsOpening o → AreCellsIn told state o plans sites → IsTold o.size journal trace sites → StandFor state o journal trace sites

-- and so do those of a run that has begun with a script that fits over coherent logs: after any rounds
abbrev pub RoundsLeaveStanding : {D : Type 0} → Type 0 → (D → DiskState) → (D → ℕ) → (D → ℕ) → Global → Script → List D → Lcg → ℕ → SitesValue D → SitesValue D → Lcg → List Entry → List Step → Type 0
RoundsLeaveStanding told state own size alloc script disks rng n all new later journal trace =
    told → HasBegun told state own alloc script disks all → SitOnce script.seats → Fits (length disks) script → HaveCoherentLogs alloc disks all.sites → Rounds told state own size rng n all new later
    → IsTold (length disks) journal trace new.sites → StandFor state (opening_over alloc script disks all.sites) journal trace new.sites

-- as the rounds end
abbrev pub EndingsLeaveStanding : {D : Type 0} → Type 0 → (D → DiskState) → (D → ℕ) → (D → ℕ) → Global → Script → List D → ℕ → SitesValue D → SitesValue D → Ending → List Entry → List Step → Type 0
EndingsLeaveStanding told state own size alloc script disks seed all new ending journal trace =
    told → HasBegun told state own alloc script disks all → SitOnce script.seats → Fits (length disks) script → HaveCoherentLogs alloc disks all.sites → IsEnding told state own size script seed all new ending
    → IsTold (length disks) journal trace new.sites → StandFor state (opening_over alloc script disks all.sites) journal trace new.sites

-- and where one was cut short
abbrev pub CutShortLeavesStanding : {D : Type 0} → Type 0 → (D → DiskState) → (D → ℕ) → (D → ℕ) → Global → Script → List D → ℕ → NodeNo → SitesValue D → SitesValue D → List Entry → List Step → Type 0
CutShortLeavesStanding told state own size alloc script disks seed node all new journal trace =
    told → HasBegun told state own alloc script disks all → SitOnce script.seats → Fits (length disks) script → HaveCoherentLogs alloc disks all.sites → IsCutShort told state own size seed node all new
    → IsTold (length disks) journal trace new.sites → StandFor state (opening_over alloc script disks all.sites) journal trace new.sites

-- and where memory was refused: the history is all that the cells would tell, and in it the node stopped, with or without its last step
abbrev pub RefusedLeavesStanding : {D : Type 0} → Type 0 → (D → DiskState) → (D → ℕ) → (D → ℕ) → Global → Script → List D → ℕ → SitesValue D → SitesValue D → List Entry → List Step → Type 0
RefusedLeavesStanding told state own size alloc script disks seed all new journal trace =
    told → HasBegun told state own alloc script disks all → SitOnce script.seats → Fits (length disks) script → HaveCoherentLogs alloc disks all.sites → IsOutOfMemory told state own size seed all new
    → IsTold (length disks) journal trace new.sites → StandFor state (opening_over alloc script disks all.sites) journal trace new.sites
