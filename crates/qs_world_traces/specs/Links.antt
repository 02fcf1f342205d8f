-- What cells put to links and took of them, as their traces tell it.
use Rattle.std.specs.Prelude.{◌≡◌, ◌≢◌, ℕ, ◌==◌, ◌<◌, Bool, List, [], ◌∷◌, ◌++◌, map}
use Rattle.std.specs.List.{filter, flat_map}
use Rattle.qs_cell_peers.specs.Peers.{is_to}
use Rattle.qs_book_journal.specs.declared.entry.Entry.{Entry}
use Rattle.qs_link.specs.Planned.{goes_out}
use Rattle.qs_link.specs.declared.outgoing.LinkFault.{LinkFault}
use Rattle.qs_world_merge.specs.StepMoves.{seen}
use Rattle.qs_world_merge.specs.Observed.{TookWhatWasPut, Observed}
use Rattle.qs_packet.specs.declared.packet.Packet.{Packet}
use Rattle.qs_node_step.specs.declared.trace.Did.{Did}
use Rattle.qs_node_step.specs.declared.trace.Did.TheVariants as dids
use Rattle.qs_node_step.specs.declared.trace.Step.{Step}

abbrev pub is_from : ℕ → Packet → Bool
is_from m packet = packet.from.0 == m

-- all that was put for node m, in order
abbrev pub puts_of : Step → List Packet
puts_of step = step.put

abbrev pub put_to : ℕ → List Step → List Packet
put_to m trace = filter (is_to m) (flat_map puts_of trace)

-- all that was taken of node m, in order, be it that a crash stood in place of the event
abbrev pub packet_in : Did → List Packet
packet_in (dids.Packet packet) = packet ∷ []
packet_in (dids.Command line) = []
packet_in dids.ServeAll = []
packet_in dids.Tick = []
packet_in (dids.Restart inc) = []
packet_in dids.Nothing = []

abbrev pub takes_of : Step → List Packet
takes_of step = packet_in step.did

abbrev pub took_from : ℕ → List Step → List Packet
took_from m trace = filter (is_from m) (flat_map takes_of trace)

-- so all that is observed of a cell is in its journal and its trace
abbrev pub observed_by : List Entry → List Step → Observed
observed_by journal trace = record { journal = journal; trace = trace; put = λ m. map seen (put_to m trace); took = λ m. map seen (took_from m trace) }

-- what was taken is a front of all that goes out by the plan of what was put
pub record IsTakenByPlan (plan : List LinkFault) (put took : List Packet) : Type 0 where
  pub rest : List Packet
  pub is : took ++ rest ≡ goes_out plan [] put

-- what each node took of each other one is such a front; plans m n is that of the link from m to n
abbrev pub KeepPlans : ℕ → (ℕ → ℕ → List LinkFault) → (ℕ → List Step) → Type 0
KeepPlans size plans traces = (n m : ℕ) → n < size → m < size → m ≢ n → IsTakenByPlan (plans m n) (put_to n (traces m)) (took_from m (traces n))

abbrev pub EachLinkBrings : Type 0
EachLinkBrings = (size : ℕ) (plans : ℕ → ℕ → List LinkFault) (journals : ℕ → List Entry) (traces : ℕ → List Step)
    → KeepPlans size plans traces → TookWhatWasPut size (λ n. observed_by (journals n) (traces n))
