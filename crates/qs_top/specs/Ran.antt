-- By which rounds and visits a run came to what is promised of it: the nodes began over the disks, made rounds in orders that the seed draws, and tell what they did; the trace
-- is that of a run of the world over packets.
use Rattle.std.specs.Prelude.{◌≡◌, ◌⊎◌, ℕ, List, [], Option, Result, Ok, Err, get_or, length, map}
use Rattle.std.specs.Io.KnownBytes.{Appends}
use Rattle.qs_base.specs.declared.identifiers.NodeNo.{NodeNo}
use Rattle.qs_base.specs.declared.memory.NoMemory.{NoMemory}
use Rattle.qs_book_journal.specs.Merge.{IsMerged}
use Rattle.qs_book_journal.specs.declared.entry.Entry.{Entry}
use Rattle.qs_book_machine.specs.Book.{BookValue}
use Rattle.qs_book_machine.specs.Lawful.{IsLawful, book_after}
use Rattle.qs_book_machine.specs.Opening.{opening}
use Rattle.qs_book_machine.specs.declared.opened.Opened.{Opened}
use Rattle.qs_book_script.specs.declared.script.Script.{Script}
use Rattle.qs_book_script.specs.declared.status.Status.{Status}
use Rattle.qs_book_script.specs.declared.status.Status.TheVariants as statuses
use Rattle.qs_disk.specs.Disk.{DiskState}
use Rattle.qs_io.specs.Streams.{GivesPart}
use Rattle.qs_log.specs.declared.fault.OpenFault.TheVariants as open_faults
use Rattle.qs_node_step.specs.declared.trace.Step.{Step}
use Rattle.qs_text.specs.declared.given.Shown.{Shown}
use Rattle.qs_top.specs.Disks.{AreOnlyTouched, OfThese}
use Rattle.qs_top.specs.Ends.{status_of}
use Rattle.qs_top.specs.Run.{AreHeldBy, AreLasting, AreTold, IsNothing, output_from}
use Rattle.qs_top.specs.Statuses.{IsEnd}
use Rattle.qs_top.specs.Texts.{HasText, OfScript}
use Rattle.qs_top.specs.Verdicts.{IsRefusedAt, rule_of_script}
use Rattle.qs_top.specs.declared.outcome.Run.{Run}
use Rattle.qs_world.specs.Histories.{book_of}
use Rattle.qs_world.specs.World.{Opening}
use Rattle.qs_world_left.specs.Disks.{AreCoherentDisks}
use Rattle.qs_world_left.specs.Standing.{DisksStandFor, HaveOthersStampsLeft, IsTold, StandsAlone, up_at}
use Rattle.qs_world_merge.specs.MergedByKey.{IsMergedBy}
use Rattle.qs_world_merge.specs.StepMoves.{step_key}
use Rattle.qs_world_nodes.specs.Nodes.{plans_of}
use Rattle.qs_world_nodes.specs.Openings.{opening_over}
use Rattle.qs_world_plans.specs.Waiting.{waiting_of}
use Rattle.qs_world_rounds.specs.Rounds.{Cast}
use Rattle.qs_world_rounds.specs.declared.faults.RoundFault.{RoundFault}
use Rattle.qs_world_rounds.specs.declared.faults.RoundFault.TheVariants as round_faults
use Rattle.qs_world_rounds.specs.declared.rounds.Ending.{Ending}
use Rattle.qs_world_serial.specs.Serial.{HasRun, IsNotOpened}
use Rattle.qs_world_serial.specs.declared.serial.SiteTold.{SiteTold}
use Rattle.qs_world_traces.specs.Traced.{IsTraced}

-- ---- what the nodes tell

abbrev pub opened_in : SiteTold → Opened
opened_in tells = tells.opened

abbrev pub journal_in : SiteTold → List Entry
journal_in tells = tells.journal

abbrev pub trace_in : SiteTold → List Step
trace_in tells = tells.trace

-- the reference machine over what the logs held
abbrev pub machine_of : List SiteTold → BookValue
machine_of tells = opening (map opened_in tells)

-- the entries and the steps of all nodes, by stamp and node
pub record AreMerged (tells : List SiteTold) (journal : List Entry) (trace : List Step) : Type 0 where
  pub entries : IsMerged (map journal_in tells) journal
  pub steps : IsMergedBy step_key (length (map trace_in tells)) (λ n. get_or (map trace_in tells) n []) trace

-- they are what the nodes made, and of a run of the world over packets from the logs that were raised, on whose links packets come by the script's lines alone
pub record AreTraced {D : Type 0} (told : Type 0) (state : D → DiskState) (own size : D → ℕ) (script : Script) (seed : ℕ) (ending : Result Ending RoundFault) (tells : List SiteTold) (disks afters : List D) (ran : HasRun told state own size script seed ending (Ok tells) disks afters) (journal : List Entry) (trace : List Step) : Type 0 where
  pub merged : AreMerged tells journal trace
  pub traced : told → IsTraced (opening_over ran.alloc script disks ran.first.sites) (plans_of script) journal trace

-- what is told of them
abbrev pub AreToldOf : {D : Type 0} → Type 0 → (D → DiskState) → Script → ℕ → List SiteTold → List (Cast D) → List D → List D → List Entry → List Step → Type 0
AreToldOf told state script nodes tells sites disks afters journal trace = AreTold told state script nodes (map opened_in tells) (up_at sites) disks afters journal trace

-- ---- how their rounds ended

-- all of them were made, so that the run has this status, and of its output that much was given
pub record RanWhole {D : Type 0} (told : Type 0) (state : D → DiskState) (own size : D → ℕ) (seed nodes : ℕ) (script : Script) (shown : Shown) (Has : Status → Type 0) (Gave : List ℕ → Type 0) (journal : List Entry) (trace : List Step) (disks afters : List D) : Type 0 where
  pub ending : Ending
  pub tells : List SiteTold
  pub ran : HasRun told state own size script seed (Ok ending) (Ok tells) disks afters
  pub traced : AreTraced told state own size script seed (Ok ending) tells disks afters ran journal trace
  pub is_told : AreToldOf told state script nodes tells ran.last.sites disks afters journal trace
  pub status : Has (status_of ending.rounds ending.settled (waiting_of script journal))
  pub gave : Gave (output_from script journal shown (machine_of tells))

-- the log of that node was not opened, as its disk failed: nothing is told, the logs of the nodes before it were raised, and what is behind it is as it was
pub record RanNotBegun {D : Type 0} (told : Type 0) (state : D → DiskState) (own size : D → ℕ) (node : NodeNo) (journal : List Entry) (trace : List Step) (disks afters : List D) : Type 0 where
  pub nothing : IsNothing journal trace
  pub not : IsNotOpened told state own size node.0 open_faults.DiskFailed disks afters

-- the disk of that node failed, as it was started again
pub record RanShort {D : Type 0} (told : Type 0) (state : D → DiskState) (own size : D → ℕ) (seed nodes : ℕ) (script : Script) (node : NodeNo) (journal : List Entry) (trace : List Step) (disks afters : List D) : Type 0 where
  pub tells : List SiteTold
  pub ran : HasRun told state own size script seed (Err (round_faults.DiskFault node)) (Ok tells) disks afters
  pub traced : AreTraced told state own size script seed (Err (round_faults.DiskFault node)) tells disks afters ran journal trace
  pub is_told : AreToldOf told state script nodes tells ran.last.sites disks afters journal trace

-- the judge refused what the nodes made, at this line for this clause; where the logs were coherent, what is left lasts, as of a run that is told
pub record RanRefused {D : Type 0} (told : Type 0) (state : D → DiskState) (own size : D → ℕ) (seed nodes : ℕ) (script : Script) (line clause : ℕ) (disks afters : List D) : Type 0 where
  pub ending : Result Ending RoundFault
  pub tells : List SiteTold
  pub ran : HasRun told state own size script seed ending (Ok tells) disks afters
  pub journal : List Entry
  pub trace : List Step
  pub traced : AreTraced told state own size script seed ending tells disks afters ran journal trace
  pub held : told → AreHeldBy state script nodes disks (map opened_in tells)
  pub lasts : told → AreCoherentDisks (map state disks) → AreLasting state (book_after (machine_of tells) journal) (up_at ran.last.sites) trace afters
  pub refused : IsRefusedAt script (machine_of tells) journal line clause
  pub by_script : told → AreCoherentDisks (map state disks) → clause ≡ rule_of_script  -- then each entry is a lawful step

-- ---- memory was refused

-- whichever image a power cut leaves of each disk, another run may begin over them. All that the nodes made, merged, is lawful from what the logs held, and where no
-- other node made a step with the last stamp each image of a disk stands for the machine after it
pub record AreLastingUntold {D : Type 0} (state : D → DiskState) (o : Opening) (nodes : ℕ) (sites : List (Cast D)) (afters : List D) : Type 0 where
  pub coherent : AreCoherentDisks (map state afters)
  pub lawful : (journal : List Entry) (trace : List Step) → IsTold nodes journal trace sites → IsLawful (book_of o) journal
  pub stands : (journal : List Entry) (trace : List Step) → IsTold nodes journal trace sites → DisksStandFor (book_after (book_of o) journal) (up_at sites) (HaveOthersStampsLeft trace) (map state afters)
  pub alone : (journal : List Entry) (trace : List Step) → IsTold nodes journal trace sites → StandsAlone (book_after (book_of o) journal) (up_at sites 0) (map state afters)

-- the nodes began, and memory was refused in their rounds, or behind them as what they made was gathered, judged or told. Where the logs were coherent, what is left
-- lasts
pub record RanOutOfMemory {D : Type 0} (told : Type 0) (state : D → DiskState) (own size : D → ℕ) (seed : ℕ) (script : Script) (disks afters : List D) : Type 0 where
  pub ending : Result Ending RoundFault
  pub tells : Result (List SiteTold) NoMemory
  pub ran : HasRun told state own size script seed ending tells disks afters
  pub lasts : told → AreCoherentDisks (map state disks) → AreLastingUntold state (opening_over ran.alloc script disks ran.first.sites) (length disks) ran.last.sites afters

-- ---- a run of a script

-- what comes of it by its status, where the text was taken of a source from `old_text` to `new_text`, and the sink had got `old_out` and has `new_out`
pub record RanByRounds {D : Type 0} (told : Type 0) (state : D → DiskState) (own size : D → ℕ) (seed nodes : ℕ) (shown : Shown) (old_text new_text old_out new_out : Option (List ℕ)) (run : Run) (old new : List D) : Type 0 where
  -- it ended: its nodes made rounds over the links between them, up to the end
  pub ended : IsEnd run.status
      → HasText shown old_text new_text (OfScript nodes (λ script. OfThese nodes (RanWhole told state own size seed nodes script shown (λ status. run.status ≡ status) (Appends old_out new_out) run.journal run.trace) old new))
  -- so it did where the sink failed
  pub cut_off : run.status ≡ statuses.WriteFault
      → HasText shown old_text new_text (OfScript nodes (λ script. OfThese nodes (RanWhole told state own size seed nodes script shown IsEnd (GivesPart old_out new_out) run.journal run.trace) old new))
  -- a disk failed as its log was opened, or as its node was started again: up to there
  pub cut_short : (node : NodeNo) → run.status ≡ statuses.DiskFault node
      → HasText shown old_text new_text (OfScript nodes (λ script. OfThese nodes (λ disks afters. RanNotBegun told state own size node run.journal run.trace disks afters ⊎ RanShort told state own size seed nodes script node run.journal run.trace disks afters) old new))
  -- the judge refused the journal
  pub refused : (line clause : ℕ) → run.status ≡ statuses.Unlawful line clause → HasText shown old_text new_text (OfScript nodes (λ script. OfThese nodes (RanRefused told state own size seed nodes script line clause) old new))
  -- memory was refused before all nodes had begun, or later
  pub out_of_memory : run.status ≡ statuses.NoMemory
      → OfThese nodes (AreOnlyTouched told state) old new ⊎ HasText shown old_text new_text (OfScript nodes (λ script. OfThese nodes (RanOutOfMemory told state own size seed script) old new))
