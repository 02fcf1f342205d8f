-- What the nodes of a run tell, once it is judged: it is of a run of the world, lawful where the logs were coherent, and what is left lasts.
use Rattle.std.proofs.Common.{◌≡◌, refl, subst, sym, ℕ, List, length, map, Result, Ok, Err}
use Rattle.qs_base.specs.declared.identifiers.NodeNo.{NodeNo}
use Rattle.qs_book_journal.specs.declared.entry.Entry.{Entry}
use Rattle.qs_book_journal.specs.Merge.{IsMerged}
use Rattle.qs_book_machine.specs.Book.{BookValue}
use Rattle.qs_book_machine.specs.Lawful.{IsLawful, book_after}
use Rattle.qs_book_script.specs.declared.script.Script.{Script}
use Rattle.qs_disk.specs.Disk.{DiskState}
use Rattle.qs_node_step.specs.declared.trace.Step.{Step}
use Rattle.qs_top.specs.Inner.CameTo.{IsJudged}
use Rattle.qs_top.specs.Ran.{AreMerged, AreToldOf, AreTraced, machine_of, opened_in}
use Rattle.qs_top.specs.Run.{AreHeldBy, AreLasting}
use Rattle.qs_top.proofs.NodesMachine.{left_states, machine_is}
use Rattle.qs_top.proofs.NodesTold.{held_all, map_length, merged_journals, merged_traces, sites_count}
use Rattle.qs_world.specs.Histories.{book_of}
use Rattle.qs_world_left.specs.Disks.{AreCoherentDisks, AreCoherentImages, LeaveCoherent, content_at, disks_of}
use Rattle.qs_world_left.specs.Left.{AreReadAsLeft, BeginsCoherent, CoherentAreRead, CutShortFollows, EndingsFollow, HaveCoherentContents, RaisedStayCoherent}
use Rattle.qs_world_left.specs.Standing.{CutShortLeavesStanding, DisksStandFor, EndingsLeaveStanding, HaveOthersStampsLeft, IsTold, StandFor, StandsAlone, up_at}
use Rattle.qs_world_merge.specs.MergedByKey.{IsMergedBy}
use Rattle.qs_world_merge.specs.Observed.{journals_of}
use Rattle.qs_world_merge.specs.StepMoves.{step_key}
use Rattle.qs_world_nodes.specs.Lawful.{CutShortIsLawful, EndingsAreLawful, HaveCoherentLogs}
use Rattle.qs_world_nodes.specs.Nodes.{journal_at, plans_of, trace_at}
use Rattle.qs_world_opening.specs.Scripts.{Fits}
use Rattle.qs_world_nodes.specs.Openings.{NodesHaveOpening, SitOnce, opening_over}
use Rattle.qs_world_nodes.specs.Running.{CutShortIsTraced, EndingsAreTraced}
use Rattle.qs_world.specs.World.{Opening}
use Rattle.qs_world_rounds.specs.declared.faults.RoundFault.{RoundFault}
use Rattle.qs_world_rounds.specs.declared.faults.RoundFault.TheVariants as faults
use Rattle.qs_world_rounds.specs.declared.rounds.Ending.{Ending}
use Rattle.qs_world_serial.specs.Serial.{HasRun}
use Rattle.qs_world_serial.specs.declared.serial.SiteTold.{SiteTold}
use Rattle.qs_world_sites.specs.Seats.{HasBegun}
use Rattle.qs_world_sites.specs.Sites.{SitesValue}
use Rattle.qs_world_traces.specs.Links.{observed_by}
use Rattle.qs_world_traces.specs.Traced.{IsTraced}
use Rattle.qs_book_conformance.specs.Conforming.{Conforms}
use Rattle.std.specs.Global.{Global}

-- the laws of the rounds of many nodes
pub record NodesLaws {D : Type 0} (told : Type 0) (state : D → DiskState) (own size : D → ℕ) : Type 0 where
  pub opens : (alloc : Global) (script : Script) (disks : List D) (all : SitesValue D) → NodesHaveOpening told state own alloc script disks all
  pub ends : (alloc : Global) (script : Script) (disks : List D) (o : Opening) (seed : ℕ) (all new : SitesValue D) (ending : Ending) → EndingsAreTraced told state own size alloc script disks o seed all new ending
  pub cut : (alloc : Global) (script : Script) (disks : List D) (o : Opening) (seed : ℕ) (node : NodeNo) (all new : SitesValue D) → CutShortIsTraced told state own size alloc script disks o seed node all new
  pub raised : (alloc : Global) (script : Script) (disks : List D) (all : SitesValue D) → RaisedStayCoherent told state own alloc script disks all
  pub read : (disks : List DiskState) → CoherentAreRead disks
  pub ends_follow : (alloc : Global) (script : Script) (disks : List D) (seed : ℕ) (all new : SitesValue D) (ending : Ending) → EndingsFollow told state own size alloc script disks seed all new ending
  pub cut_follows : (alloc : Global) (script : Script) (disks : List D) (seed : ℕ) (node : NodeNo) (all new : SitesValue D) → CutShortFollows told state own size alloc script disks seed node all new
  pub ends_stand : (alloc : Global) (script : Script) (disks : List D) (seed : ℕ) (all new : SitesValue D) (ending : Ending) (journal : List Entry) (trace : List Step) → EndingsLeaveStanding told state own size alloc script disks seed all new ending journal trace
  pub cut_stands : (alloc : Global) (script : Script) (disks : List D) (seed : ℕ) (node : NodeNo) (all new : SitesValue D) (journal : List Entry) (trace : List Step) → CutShortLeavesStanding told state own size alloc script disks seed node all new journal trace
  pub ends_lawful : (alloc : Global) (script : Script) (disks : List D) (seed : ℕ) (all new : SitesValue D) (ending : Ending) (journal : List Entry) (trace : List Step) → EndingsAreLawful told state own size alloc script disks seed all new ending journal trace
  pub cut_lawful : (alloc : Global) (script : Script) (disks : List D) (seed : ℕ) (node : NodeNo) (all new : SitesValue D) (journal : List Entry) (trace : List Step) → CutShortIsLawful told state own size alloc script disks seed node all new journal trace

-- ---- the contents, and so the logs that were raised, are coherent

contents_coherent : {D : Type 0} (told : Type 0) (state : D → DiskState) (own size : D → ℕ) (disks : List D) → (told → AreReadAsLeft (map state disks)) → NodesLaws told state own size → (alloc : Global) → told → AreCoherentDisks (map state disks)
    → HaveCoherentContents alloc state disks
contents_coherent told state own size disks read laws alloc t coherent =
    subst (λ (k : ℕ). AreCoherentImages alloc k (content_at (map state disks))) (map_length state disks) (laws.read (map state disks) (read t) coherent alloc)

pub begins_coherent : {D : Type 0} (told : Type 0) (state : D → DiskState) (own size : D → ℕ) (script : Script) (disks : List D) → SitOnce script.seats → Fits (length disks) script → (told → AreReadAsLeft (map state disks)) → NodesLaws told state own size
    → (alloc : Global) (first : SitesValue D) → HasBegun told state own alloc script disks first → told → AreCoherentDisks (map state disks) → BeginsCoherent told state own alloc script disks first
begins_coherent told state own size script disks once fits read laws alloc first begun t coherent =
    record { begun = begun; once = once; fits = fits; coherent = contents_coherent told state own size disks read laws alloc t coherent }

pub logs_coherent : {D : Type 0} (told : Type 0) (state : D → DiskState) (own size : D → ℕ) (script : Script) (disks : List D) → (told → AreReadAsLeft (map state disks)) → NodesLaws told state own size → (alloc : Global) (first : SitesValue D)
    → HasBegun told state own alloc script disks first → told → AreCoherentDisks (map state disks) → HaveCoherentLogs alloc disks first.sites
logs_coherent told state own size script disks read laws alloc first begun t coherent = laws.raised alloc script disks first t begun (contents_coherent told state own size disks read laws alloc t coherent)

-- ---- what is told

module _ {D : Type 0} (told : Type 0) (state : D → DiskState) (own size : D → ℕ) (script : Script) (seed nodes : ℕ) (disks afters : List D) (count : length disks ≡ nodes) (once : SitOnce script.seats) (fits : Fits nodes script) (read : told → AreReadAsLeft (map state disks)) (laws : NodesLaws told state own size) where
  abbrev Ran : Result Ending RoundFault → List SiteTold → Type 0
  Ran ending tells = HasRun told state own size script seed ending (Ok tells) disks afters

  fits_all : Fits (length disks) script
  fits_all = subst (λ (k : ℕ). Fits k script) (sym count) fits

  module _ (ending : Result Ending RoundFault) (tells : List SiteTold) (ran : Ran ending tells) (journal : List Entry) (trace : List Step) (merged : AreMerged tells journal trace) where
    opens : NodesHaveOpening told state own ran.alloc script disks ran.first
    opens = laws.opens ran.alloc script disks ran.first

    entries : IsMerged (journals_of (length disks) (λ k. observed_by (journal_at ran.last.sites k) (trace_at ran.last.sites k))) journal
    entries = merged_journals ran.last.sites tells ran.tells_is (length disks) (sites_count told state own size script seed ending tells disks afters ran) journal merged.entries

    steps : IsMergedBy step_key (length disks) (trace_at ran.last.sites) trace
    steps = merged_traces ran.last.sites tells ran.tells_is (length disks) (sites_count told state own size script seed ending tells disks afters ran) trace merged.steps

    tells_all : IsTold (length disks) journal trace ran.last.sites
    tells_all = record { entries = entries; steps = steps }

    begins : told → AreCoherentDisks (map state disks) → BeginsCoherent told state own ran.alloc script disks ran.first
    begins t coherent = begins_coherent told state own size script disks once fits_all read laws ran.alloc ran.first ran.begins t coherent

    logs : told → AreCoherentDisks (map state disks) → HaveCoherentLogs ran.alloc disks ran.first.sites
    logs t coherent = logs_coherent told state own size script disks read laws ran.alloc ran.first ran.begins t coherent

    -- what is left of the sites is left on the disks
    abbrev Lasting : Type 0
    Lasting = AreLasting state (book_after (machine_of tells) journal) (up_at ran.last.sites) trace afters

    lasting : told → LeaveCoherent state ran.last.sites → StandFor state (opening_over ran.alloc script disks ran.first.sites) journal trace ran.last.sites → Lasting
    lasting t coherent stands = record {
      coherent = subst AreCoherentDisks (sym is) coherent;
      stands = subst (DisksStandFor (book_after (machine_of tells) journal) (up_at ran.last.sites) (HaveOthersStampsLeft trace)) (sym is)
          (subst (λ (b : BookValue). DisksStandFor (book_after b journal) (up_at ran.last.sites) (HaveOthersStampsLeft trace) (disks_of state ran.last.sites)) (machine_is told state own size script seed ending tells disks afters ran t once opens) stands.each);
      alone = subst (StandsAlone (book_after (machine_of tells) journal) (up_at ran.last.sites 0)) (sym is)
          (subst (λ (b : BookValue). StandsAlone (book_after b journal) (up_at ran.last.sites 0) (disks_of state ran.last.sites)) (machine_is told state own size script seed ending tells disks afters ran t once opens) stands.alone);
    }
      where
        is : map state afters ≡ disks_of state ran.last.sites
        is = left_states told state own size script seed ending (Ok tells) disks afters ran

    traced_as : (told → IsTraced (opening_over ran.alloc script disks ran.first.sites) (plans_of script) journal trace) → AreTraced told state own size script seed ending tells disks afters ran journal trace
    traced_as traced = record { merged = merged; traced = traced }

    lawful_by : told → IsLawful (book_of (opening_over ran.alloc script disks ran.first.sites)) journal → IsLawful (machine_of tells) journal
    lawful_by t lawful = subst (λ (b : BookValue). IsLawful b journal) (machine_is told state own size script seed ending tells disks afters ran t once opens) lawful

  -- where the logs were coherent the journal is lawful, whether it conforms or not
  pub lawful_judged : (ending : Result Ending RoundFault) → IsJudged ending → (tells : List SiteTold) (ran : Ran ending tells) (journal : List Entry) (trace : List Step) → AreMerged tells journal trace → told → AreCoherentDisks (map state disks)
      → IsLawful (machine_of tells) journal
  lawful_judged (Ok ending) judged tells ran journal trace merged t coherent = lawful_by (Ok ending) tells ran journal trace merged t
      (laws.ends_lawful ran.alloc script disks seed ran.first ran.last ending journal trace t ran.begins once fits_all (logs (Ok ending) tells ran journal trace merged t coherent) ran.ends
      (entries (Ok ending) tells ran journal trace merged) (steps (Ok ending) tells ran journal trace merged))
  lawful_judged (Err (faults.DiskFault node)) judged tells ran journal trace merged t coherent = lawful_by (Err (faults.DiskFault node)) tells ran journal trace merged t
      (laws.cut_lawful ran.alloc script disks seed node ran.first ran.last journal trace t ran.begins once fits_all (logs (Err (faults.DiskFault node)) tells ran journal trace merged t coherent) (ran.cut node refl)
      (entries (Err (faults.DiskFault node)) tells ran journal trace merged) (steps (Err (faults.DiskFault node)) tells ran journal trace merged))
  lawful_judged (Err faults.Damaged) judged tells ran journal trace merged t coherent = absurd judged
  lawful_judged (Err faults.NoMemory) judged tells ran journal trace merged t coherent = absurd judged

  -- and what is left lasts
  pub lasts_judged : (ending : Result Ending RoundFault) → IsJudged ending → (tells : List SiteTold) (ran : Ran ending tells) (journal : List Entry) (trace : List Step) → AreMerged tells journal trace → told → AreCoherentDisks (map state disks)
      → AreLasting state (book_after (machine_of tells) journal) (up_at ran.last.sites) trace afters
  lasts_judged (Ok ending) judged tells ran journal trace merged t coherent = lasting (Ok ending) tells ran journal trace merged t
      (laws.ends_follow ran.alloc script disks seed ran.first ran.last ending t (begins (Ok ending) tells ran journal trace merged t coherent) ran.ends)
      (laws.ends_stand ran.alloc script disks seed ran.first ran.last ending journal trace t ran.begins once fits_all (logs (Ok ending) tells ran journal trace merged t coherent) ran.ends (tells_all (Ok ending) tells ran journal trace merged))
  lasts_judged (Err (faults.DiskFault node)) judged tells ran journal trace merged t coherent = lasting (Err (faults.DiskFault node)) tells ran journal trace merged t
      (laws.cut_follows ran.alloc script disks seed node ran.first ran.last t (begins (Err (faults.DiskFault node)) tells ran journal trace merged t coherent) (ran.cut node refl))
      (laws.cut_stands ran.alloc script disks seed node ran.first ran.last journal trace t ran.begins once fits_all (logs (Err (faults.DiskFault node)) tells ran journal trace merged t coherent) (ran.cut node refl) (tells_all (Err (faults.DiskFault node)) tells ran journal trace merged))
  lasts_judged (Err faults.Damaged) judged tells ran journal trace merged t coherent = absurd judged
  lasts_judged (Err faults.NoMemory) judged tells ran journal trace merged t coherent = absurd judged

  -- the journal and the trace are of a run of the world
  pub traced_judged : (ending : Result Ending RoundFault) → IsJudged ending → (tells : List SiteTold) (ran : Ran ending tells) (journal : List Entry) (trace : List Step) → AreMerged tells journal trace
      → AreTraced told state own size script seed ending tells disks afters ran journal trace
  traced_judged (Ok ending) judged tells ran journal trace merged = traced_as (Ok ending) tells ran journal trace merged
      (λ t. laws.ends ran.alloc script disks (opening_over ran.alloc script disks ran.first.sites) seed ran.first ran.last ending t ran.begins (laws.opens ran.alloc script disks ran.first ran.begins once) ran.ends journal trace
      (entries (Ok ending) tells ran journal trace merged) (steps (Ok ending) tells ran journal trace merged))
  traced_judged (Err (faults.DiskFault node)) judged tells ran journal trace merged = traced_as (Err (faults.DiskFault node)) tells ran journal trace merged
      (λ t. laws.cut ran.alloc script disks (opening_over ran.alloc script disks ran.first.sites) seed node ran.first ran.last t ran.begins (laws.opens ran.alloc script disks ran.first ran.begins once) (ran.cut node refl) journal trace
      (entries (Err (faults.DiskFault node)) tells ran journal trace merged) (steps (Err (faults.DiskFault node)) tells ran journal trace merged))
  traced_judged (Err faults.Damaged) judged tells ran journal trace merged = absurd judged
  traced_judged (Err faults.NoMemory) judged tells ran journal trace merged = absurd judged

  pub told_judged : (ending : Result Ending RoundFault) → IsJudged ending → (tells : List SiteTold) (ran : Ran ending tells) (journal : List Entry) (trace : List Step) → AreMerged tells journal trace → Conforms script (machine_of tells) journal
      → AreToldOf told state script nodes tells ran.last.sites disks afters journal trace
  told_judged ending judged tells ran journal trace merged conforms = record {
    held = λ t. subst (λ (k : ℕ). AreHeldBy state script k disks (map opened_in tells)) count (held_all told state own size script seed ending tells disks afters ran t);
    conforms = conforms;
    lasts = lasts_judged ending judged tells ran journal trace merged;
  }
