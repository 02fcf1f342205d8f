-- The sites of a run stay in the world through whatever a round is of; so the rounds of a run, told by the traces of their cells, are a run of the world.
use Rattle.std.specs.Prelude.{ℕ, Bool, List}
use Rattle.std.specs.Global.{Global}
use Rattle.qs_base.specs.declared.identifiers.NodeNo.{NodeNo}
use Rattle.qs_book_journal.specs.Merge.{IsMerged}
use Rattle.qs_book_journal.specs.declared.entry.Entry.{Entry}
use Rattle.qs_book_script.specs.declared.script.Script.{Script}
use Rattle.qs_disk.specs.Disk.{DiskState}
use Rattle.qs_link.specs.declared.outgoing.LinkFault.{LinkFault}
use Rattle.qs_node_step.specs.declared.trace.Step.{Step}
use Rattle.qs_world.specs.World.{Opening}
use Rattle.qs_world_merge.specs.MergedByKey.{IsMergedBy}
use Rattle.qs_world_merge.specs.Observed.{journals_of}
use Rattle.qs_world_merge.specs.StepMoves.{step_key}
use Rattle.qs_world_nodes.specs.Nodes.{AreCellsIn, AreSitesIn, OpensSites, journal_at, plans_of, trace_at}
use Rattle.qs_world_rounds.specs.Rounds.{Cast}
use Rattle.qs_world_rounds.specs.declared.rounds.Ending.{Ending}
use Rattle.qs_world_sites.specs.Breaks.{BreaksRound, RefusesRound}
use Rattle.qs_world_sites.specs.Endings.{IsCutShort, IsEnding, IsOutOfMemory}
use Rattle.qs_world_sites.specs.Rounds.{IsRound, Rounds, VisitAll, VisitAt}
use Rattle.qs_world_sites.specs.Seats.{HasBegun}
use Rattle.qs_world_sites.specs.Sites.{AreCarried, SitesValue}
use Rattle.qs_world_traces.specs.Links.{observed_by}
use Rattle.qs_world_traces.specs.Traced.{IsTraced}
use Rattle.rand_pcg.specs.Lcg.{Lcg}

-- ---- they begin, over disks that tell what is on them

abbrev pub NodesBegin : {D : Type 0} → Type 0 → (D → DiskState) → (D → ℕ) → Global → Script → List D → SitesValue D → Opening → Type 0
NodesBegin told state own alloc script disks all o =
    told → (begun : HasBegun told state own alloc script disks all) → OpensSites told state own alloc script disks all begun o → AreSitesIn told state o (plans_of script) all.sites

-- ---- they go on

abbrev pub CarriesKeep : {D : Type 0} → Type 0 → (D → DiskState) → Opening → (ℕ → ℕ → List LinkFault) → List (Cast D) → List (Cast D) → Type 0
CarriesKeep told state o plans old new = AreCarried old new → AreSitesIn told state o plans old → AreSitesIn told state o plans new

abbrev pub VisitKeeps : {D : Type 0} → Type 0 → (D → DiskState) → (D → ℕ) → (D → ℕ) → Opening → (ℕ → ℕ → List LinkFault) → ℕ → SitesValue D → SitesValue D → Bool → Type 0
VisitKeeps told state own size o plans place old new did = told → VisitAt told state own size place old new did → AreSitesIn told state o plans old.sites → AreSitesIn told state o plans new.sites

abbrev pub VisitsKeep : {D : Type 0} → Type 0 → (D → DiskState) → (D → ℕ) → (D → ℕ) → Opening → (ℕ → ℕ → List LinkFault) → List ℕ → SitesValue D → SitesValue D → Bool → Type 0
VisitsKeep told state own size o plans places old new did = told → VisitAll told state own size places old new did → AreSitesIn told state o plans old.sites → AreSitesIn told state o plans new.sites

abbrev pub RoundKeeps : {D : Type 0} → Type 0 → (D → DiskState) → (D → ℕ) → (D → ℕ) → Opening → (ℕ → ℕ → List LinkFault) → List ℕ → SitesValue D → SitesValue D → Bool → Type 0
RoundKeeps told state own size o plans order old new quiet = told → IsRound told state own size order old new quiet → AreSitesIn told state o plans old.sites → AreSitesIn told state o plans new.sites

abbrev pub RoundsKeep : {D : Type 0} → Type 0 → (D → DiskState) → (D → ℕ) → (D → ℕ) → Opening → (ℕ → ℕ → List LinkFault) → Lcg → ℕ → SitesValue D → SitesValue D → Lcg → Type 0
RoundsKeep told state own size o plans rng n old new later = told → Rounds told state own size rng n old new later → AreSitesIn told state o plans old.sites → AreSitesIn told state o plans new.sites

-- a round that is cut short, as the disk of a node fails
abbrev pub BrokenRoundKeeps : {D : Type 0} → Type 0 → (D → DiskState) → (D → ℕ) → (D → ℕ) → Opening → (ℕ → ℕ → List LinkFault) → List ℕ → NodeNo → SitesValue D → SitesValue D → Type 0
BrokenRoundKeeps told state own size o plans order node old new = told → BreaksRound told state own size order node old new → AreSitesIn told state o plans old.sites → AreSitesIn told state o plans new.sites

-- ---- their cells are there

abbrev pub SitesHaveCells : {D : Type 0} → Type 0 → (D → DiskState) → Opening → (ℕ → ℕ → List LinkFault) → List (Cast D) → Type 0
SitesHaveCells told state o plans sites = AreSitesIn told state o plans sites → AreCellsIn told state o plans sites

-- also where memory was refused in a round, in whichever visit and within whichever step
abbrev pub RefusedRoundLeaves : {D : Type 0} → Type 0 → (D → DiskState) → (D → ℕ) → (D → ℕ) → Opening → (ℕ → ℕ → List LinkFault) → List ℕ → SitesValue D → SitesValue D → Type 0
RefusedRoundLeaves told state own size o plans order old new =
    told → RefusesRound told state own size order old new → AreSitesIn told state o plans old.sites → AreCellsIn told state o plans new.sites

-- ---- what they tell

-- merged by stamp and node, it is the steps of a run of the world, over links that keep their plans, and its history
abbrev pub AreTraced : {D : Type 0} → Opening → (ℕ → ℕ → List LinkFault) → List (Cast D) → Type 0
AreTraced o plans sites = (journal : List Entry) (trace : List Step) → IsMerged (journals_of o.size (λ n. observed_by (journal_at sites n) (trace_at sites n))) journal → IsMergedBy step_key o.size (trace_at sites) trace
    → IsTraced o plans journal trace

abbrev pub CellsAreTraced : {D : Type 0} → Type 0 → (D → DiskState) → Opening → (ℕ → ℕ → List LinkFault) → List (Cast D) → Type 0
CellsAreTraced told state o plans sites = AreCellsIn told state o plans sites → AreTraced o plans sites

abbrev pub SitesAreTraced : {D : Type 0} → Type 0 → (D → DiskState) → Opening → (ℕ → ℕ → List LinkFault) → List (Cast D) → Type 0
SitesAreTraced told state o plans sites = AreSitesIn told state o plans sites → AreTraced o plans sites

-- after so many rounds of a run that has begun so
abbrev pub RoundsAreTraced : {D : Type 0} → Type 0 → (D → DiskState) → (D → ℕ) → (D → ℕ) → Global → Script → List D → Opening → Lcg → ℕ → SitesValue D → SitesValue D → Lcg → Type 0
RoundsAreTraced told state own size alloc script disks o rng n all new later =
    told → (begun : HasBegun told state own alloc script disks all) → OpensSites told state own alloc script disks all begun o → Rounds told state own size rng n all new later
    → AreTraced o (plans_of script) new.sites

-- as the rounds of such a run end
abbrev pub EndingsAreTraced : {D : Type 0} → Type 0 → (D → DiskState) → (D → ℕ) → (D → ℕ) → Global → Script → List D → Opening → ℕ → SitesValue D → SitesValue D → Ending → Type 0
EndingsAreTraced told state own size alloc script disks o seed all new ending =
    told → (begun : HasBegun told state own alloc script disks all) → OpensSites told state own alloc script disks all begun o → IsEnding told state own size script seed all new ending
    → AreTraced o (plans_of script) new.sites

-- and where one was cut short
abbrev pub CutShortIsTraced : {D : Type 0} → Type 0 → (D → DiskState) → (D → ℕ) → (D → ℕ) → Global → Script → List D → Opening → ℕ → NodeNo → SitesValue D → SitesValue D → Type 0
CutShortIsTraced told state own size alloc script disks o seed node all new =
    told → (begun : HasBegun told state own alloc script disks all) → OpensSites told state own alloc script disks all begun o → IsCutShort told state own size seed node all new
    → AreTraced o (plans_of script) new.sites

-- and where memory was refused
abbrev pub RefusedIsTraced : {D : Type 0} → Type 0 → (D → DiskState) → (D → ℕ) → (D → ℕ) → Global → Script → List D → Opening → ℕ → SitesValue D → SitesValue D → Type 0
RefusedIsTraced told state own size alloc script disks o seed all new =
    told → (begun : HasBegun told state own alloc script disks all) → OpensSites told state own alloc script disks all begun o → IsOutOfMemory told state own size seed all new
    → AreTraced o (plans_of script) new.sites
