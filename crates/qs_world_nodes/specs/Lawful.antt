-- What is told after any rounds is a lawful history, where the script fits and the logs that the nodes raised are coherent.
use Rattle.std.specs.Prelude.{ℕ, List, length, slice_get}
use Rattle.std.specs.Global.{Global}
use Rattle.qs_book_journal.specs.Merge.{IsMerged}
use Rattle.qs_book_journal.specs.declared.entry.Entry.{Entry}
use Rattle.qs_book_machine.specs.Lawful.{IsLawful}
use Rattle.qs_base.specs.declared.identifiers.NodeNo.{NodeNo}
use Rattle.qs_book_script.specs.declared.script.Script.{Script}
use Rattle.qs_disk.specs.Disk.{DiskState}
use Rattle.qs_node_step.specs.declared.trace.Step.{Step}
use Rattle.qs_world.specs.Histories.{book_of}
use Rattle.qs_world.specs.Openings.{IsOpening}
use Rattle.qs_world_merge.specs.MergedByKey.{IsMergedBy}
use Rattle.qs_world_merge.specs.Observed.{journals_of}
use Rattle.qs_world_merge.specs.StepMoves.{step_key}
use Rattle.qs_world_nodes.specs.Nodes.{journal_at, trace_at}
use Rattle.qs_world_nodes.specs.Openings.{SitOnce, inc_by, log_by, opening_over}
use Rattle.qs_world_opening.specs.Coherent.{AreCoherentLogs}
use Rattle.qs_world_opening.specs.Scripts.{Fits}
use Rattle.qs_world_rounds.specs.Rounds.{Cast}
use Rattle.qs_world_rounds.specs.declared.rounds.Ending.{Ending}
use Rattle.qs_world_sites.specs.Rounds.{Rounds}
use Rattle.qs_world_sites.specs.Seats.{HasBegun}
use Rattle.qs_world_sites.specs.Endings.{IsCutShort, IsEnding, IsOutOfMemory}
use Rattle.qs_world_sites.specs.Sites.{SitesValue}
use Rattle.qs_world_traces.specs.Links.{observed_by}
use Rattle.rand_pcg.specs.Lcg.{Lcg}

-- the logs of all nodes stand together as they began, each in the incarnation to which it was raised
abbrev pub HaveCoherentLogs : {D : Type 0} → Global → List D → List (Cast D) → Type 0
HaveCoherentLogs alloc disks sites = AreCoherentLogs alloc (length disks) (λ n. inc_by (slice_get sites n)) (λ n. log_by (slice_get sites n))

-- a run of the world may begin so
abbrev pub NodesMayBegin : {D : Type 0} → Type 0 → (D → DiskState) → (D → ℕ) → Global → Script → List D → SitesValue D → Type 0
NodesMayBegin told state own alloc script disks all =
    told → HasBegun told state own alloc script disks all → Fits (length disks) script → HaveCoherentLogs alloc disks all.sites → IsOpening (opening_over alloc script disks all.sites)

abbrev pub RoundsAreLawful : {D : Type 0} → Type 0 → (D → DiskState) → (D → ℕ) → (D → ℕ) → Global → Script → List D → Lcg → ℕ → SitesValue D → SitesValue D → Lcg → List Entry → List Step → Type 0
RoundsAreLawful told state own size alloc script disks rng n all new later journal trace =
    told → HasBegun told state own alloc script disks all → SitOnce script.seats → Fits (length disks) script → HaveCoherentLogs alloc disks all.sites → Rounds told state own size rng n all new later
    → IsMerged (journals_of (length disks) (λ k. observed_by (journal_at new.sites k) (trace_at new.sites k))) journal → IsMergedBy step_key (length disks) (trace_at new.sites) trace
    → IsLawful (book_of (opening_over alloc script disks all.sites)) journal

-- and so is what is told as the rounds of such a run end
abbrev pub EndingsAreLawful : {D : Type 0} → Type 0 → (D → DiskState) → (D → ℕ) → (D → ℕ) → Global → Script → List D → ℕ → SitesValue D → SitesValue D → Ending → List Entry → List Step → Type 0
EndingsAreLawful told state own size alloc script disks seed all new ending journal trace =
    told → HasBegun told state own alloc script disks all → SitOnce script.seats → Fits (length disks) script → HaveCoherentLogs alloc disks all.sites → IsEnding told state own size script seed all new ending
    → IsMerged (journals_of (length disks) (λ k. observed_by (journal_at new.sites k) (trace_at new.sites k))) journal → IsMergedBy step_key (length disks) (trace_at new.sites) trace
    → IsLawful (book_of (opening_over alloc script disks all.sites)) journal

-- and where one was cut short
abbrev pub CutShortIsLawful : {D : Type 0} → Type 0 → (D → DiskState) → (D → ℕ) → (D → ℕ) → Global → Script → List D → ℕ → NodeNo → SitesValue D → SitesValue D → List Entry → List Step → Type 0
CutShortIsLawful told state own size alloc script disks seed node all new journal trace =
    told → HasBegun told state own alloc script disks all → SitOnce script.seats → Fits (length disks) script → HaveCoherentLogs alloc disks all.sites → IsCutShort told state own size seed node all new
    → IsMerged (journals_of (length disks) (λ k. observed_by (journal_at new.sites k) (trace_at new.sites k))) journal → IsMergedBy step_key (length disks) (trace_at new.sites) trace
    → IsLawful (book_of (opening_over alloc script disks all.sites)) journal

-- and where memory was refused
abbrev pub RefusedIsLawful : {D : Type 0} → Type 0 → (D → DiskState) → (D → ℕ) → (D → ℕ) → Global → Script → List D → ℕ → SitesValue D → SitesValue D → List Entry → List Step → Type 0
RefusedIsLawful told state own size alloc script disks seed all new journal trace =
    told → HasBegun told state own alloc script disks all → SitOnce script.seats → Fits (length disks) script → HaveCoherentLogs alloc disks all.sites → IsOutOfMemory told state own size seed all new
    → IsMerged (journals_of (length disks) (λ k. observed_by (journal_at new.sites k) (trace_at new.sites k))) journal → IsMergedBy step_key (length disks) (trace_at new.sites) trace
    → IsLawful (book_of (opening_over alloc script disks all.sites)) journal
