-- What the traces of all nodes come to, merged: the steps of a run of the world over packets, over links that keep their plans.
use Rattle.std.specs.Prelude.{◌≡◌, ◌≢◌, ℕ, ◌<◌, List, map}
use Rattle.qs_book_journal.specs.Merge.{IsMerged}
use Rattle.qs_book_journal.specs.declared.entry.Entry.{Entry}
use Rattle.qs_link.specs.declared.outgoing.LinkFault.{LinkFault}
use Rattle.qs_node_step.specs.declared.trace.Step.{Step}
use Rattle.qs_world.specs.World.{Opening}
use Rattle.qs_world_packets.specs.PacketRuns.{Run}
use Rattle.qs_world_packets.specs.PacketWorld.{PacketWorld, start}
use Rattle.qs_world_merge.specs.LocalRuns.{TimedMove}
use Rattle.qs_world_merge.specs.MergedByKey.{IsMergedBy, of_node}
use Rattle.qs_world_merge.specs.MergedRuns.{EventsAre, untimed}
use Rattle.qs_world_merge.specs.Observed.{AreOfLocalRuns, journals_of}
use Rattle.qs_world_merge.specs.PlainPackets.{AreAlike}
use Rattle.qs_world_merge.specs.StepMoves.{AreTheirMoves, StepMoves, all_moves, step_key, step_of}
use Rattle.qs_world_traces.specs.Links.{IsTakenByPlan, KeepPlans, observed_by, put_to, took_from}

-- the trace is the steps of a run from that opening, and the journal is its history
pub record IsTraceOfRun (o : Opening) (journal : List Entry) (trace : List Step) : Type 0 where
  pub steps : List StepMoves
  pub are : AreTheirMoves o.size steps
  pub trace_is : map step_of steps ≡ trace
  pub moves : List TimedMove
  pub alike : AreAlike (all_moves steps) moves
  pub world : PacketWorld
  pub run : Run (start o) (untimed moves) world
  pub events : EventsAre (start o) moves
  pub journal_is : world.journal ≡ journal

-- what node n took of node m, by the trace, is a front of all that goes out by the plan of what m put for n
abbrev pub LinksKeepPlans : ℕ → (ℕ → ℕ → List LinkFault) → List Step → Type 0
LinksKeepPlans size plans trace = (n m : ℕ) → n < size → m < size → m ≢ n → IsTakenByPlan (plans m n) (put_to n (of_node step_key m trace)) (took_from m (of_node step_key n trace))

pub record IsTraced (o : Opening) (plans : ℕ → ℕ → List LinkFault) (journal : List Entry) (trace : List Step) : Type 0 where
  pub run : IsTraceOfRun o journal trace
  pub links : LinksKeepPlans o.size plans trace

-- what cells tell over links that keep their plans is so traced, once it is merged
abbrev pub EachTraced : Type 0
EachTraced = (o : Opening) (plans : ℕ → ℕ → List LinkFault) (journals : ℕ → List Entry) (traces : ℕ → List Step)
    → AreOfLocalRuns o (λ n. observed_by (journals n) (traces n)) → KeepPlans o.size plans traces
    → (journal : List Entry) (trace : List Step) → IsMerged (journals_of o.size (λ n. observed_by (journals n) (traces n))) journal → IsMergedBy step_key o.size traces trace
    → IsTraced o plans journal trace
