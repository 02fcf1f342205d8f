-- What all places hold goes on through a whole step, or the transaction is doomed, where what comes is served or taken in, and what is issued and voted finds what it needs.
use Rattle.std.specs.Prelude.{◌≡◌, ◌⊎◌, ℕ, ⊤, true, false, Some, None}
use Rattle.qs_base.specs.declared.identifiers.ServerNo.{ServerNo}
use Rattle.qs_base.specs.declared.identifiers.Tid.{Tid}
use Rattle.qs_engage.specs.Nodes.{same_node}
use Rattle.qs_ipc.specs.Ipc as ipc
use Rattle.qs_ipc.specs.Queue.{is_for}
use Rattle.qs_ipc.specs.declared.delivery.Delivery.{Delivery}
use Rattle.qs_book_machine.specs.Book.{BookValue}
use Rattle.qs_book_machine.specs.Lawful.{IsLawful, book_after}
use Rattle.qs_packet.specs.declared.message.Message.{Message}
use Rattle.qs_packet.specs.declared.message.Message.TheVariants as messages
use Rattle.qs_node_step.specs.Serving.{is_dropped, may_serve, reply_here, serve_all, serve_next}
use Rattle.qs_node_step.specs.Settling.{due_tids, settle, settle_tid}
use Rattle.qs_node_step.specs.State.{Work, here, part_of, with_queues, work_on}
use Rattle.qs_node_step.specs.Step.{effects_of, wait_on, waiting_clients, with_command}
use Rattle.qs_node_step.specs.declared.event.Event.{Event}
use Rattle.qs_node_step.specs.declared.event.Event.TheVariants as events
use Rattle.qs_world.specs.Moves.{Source, event_of, step_with, taken_by}
use Rattle.qs_world.specs.Posting.{entries_of}
use Rattle.qs_world.specs.World.{World}
use Rattle.qs_world_agree.specs.World as machine
use Rattle.qs_world_agree.specs.Doomed.{IsDoomed}
use Rattle.qs_world_walk.specs.Walked.{AtEach, done_work}
use Rattle.qs_world_lawful.specs.GivenStep.{first_work}
use Rattle.qs_world_runs.specs.Placed.{Field, field_of}
use Rattle.qs_world_runs.specs.PlacedActs.{OpenPlaced}
use Rattle.qs_world_runs.specs.PlacesAmid.{Here, PlacedAmid}
use Rattle.qs_world_runs.specs.PlacesEnds.{AreInOrder, taken}
use Rattle.qs_world_runs.specs.PlacesGo.{CommandsWell, Goes, PassesWell, WaitsWell}
use Rattle.qs_world_runs.specs.PlacesRules.{IsAmid}

-- ---- serving

-- what waits first at a server, if it is of the transaction, is served, or that is doomed
pub record ServesWell (D : Type 0) (t : Tid) (work : Work) (server : ServerNo) : Type 0 where
  pub fits : (delivery : Delivery) → ipc.next server work.node.queues ≡ Some delivery → delivery.tid ≡ t → is_for server delivery.op ≡ true
  pub serves : (delivery : Delivery) → ipc.next server work.node.queues ≡ Some delivery → delivery.tid ≡ t → D ⊎ (may_serve delivery.tid (with_queues (ipc.after_next server) work) ≡ true)
  pub replies : (delivery : Delivery) → ipc.next server work.node.queues ≡ Some delivery → delivery.tid ≡ t → reply_here server delivery.tid delivery.op (with_queues (ipc.after_next server) work).node ≡ None → D

abbrev pub ServeAllGoes : Type 0
ServeAllGoes = (w : machine.World) (t : Tid) (base : Field) (knows : ℕ → ℕ) (n stamp : ℕ) (before : BookValue) (work : Work) → AtEach (ServesWell (IsDoomed w) t) serve_next work (ipc.turns work.node.queues)
    → Goes (IsDoomed w) t base knows n stamp before work (serve_all work)

-- ---- what comes

-- a request of it is taken in, or it is doomed
abbrev pub TakesIn : Type 0 → Tid → Work → Message → Type 0
TakesIn D t work (messages.Request tid label member number issuer op) = tid ≡ t → (is_for member.server op ≡ true) × (D ⊎ (is_dropped (same_node t.home (here work)) (part_of t work) ≡ false))
TakesIn D t work message = ⊤

abbrev pub ComesWell : Type 0 → Tid → World → ℕ → ℕ → BookValue → Source → Event → Work → Type 0
ComesWell D t world n stamp before source (events.Command client line label command) work = CommandsWell D t (field_of world) (world.channels.peer n) n stamp before client label command (with_command (record { client = client; line = line; label = label; command = command }) work)
ComesWell D t world n stamp before source (events.Received peer message) work = TakesIn D t work message
ComesWell D t world n stamp before source events.ServeAll work = AtEach (ServesWell D t) serve_next work (ipc.turns work.node.queues)
ComesWell D t world n stamp before source (events.PeerRestarted peer old new) work = D ⊎ (PlacedAmid t (field_of world) (world.channels.peer n) n stamp before work → PlacedAmid t (field_of (taken world n source)) ((taken_by world n source).peer n) n stamp before work)
ComesWell D t world n stamp before source events.Tick work = ⊤

-- ---- the whole step

pub record StepsWell (D : Type 0) (t : Tid) (world : World) (n stamp free : ℕ) (before : BookValue) (source : Source) (event : Event) : Type 0 where
  pub comes : ComesWell D t world n stamp before source event (first_work (world.hosts n).node free)
  pub settles : AtEach (λ (work : Work) (tid : Tid). tid ≡ t → PassesWell D t (field_of (taken world n source)) ((taken_by world n source).peer n) n stamp before work) settle_tid (done_work (world.hosts n).node event free) (due_tids (done_work (world.hosts n).node event free))
  pub waits : AtEach (WaitsWell D t (field_of (taken world n source)) ((taken_by world n source).peer n) n stamp before) wait_on (settle (done_work (world.hosts n).node event free)) (waiting_clients (settle (done_work (world.hosts n).node event free)))

abbrev pub StepPlaces : Type 0
StepPlaces = (w : machine.World) (t : Tid) (world : World) (n stamp free : ℕ) (before : BookValue) (source : Source) (event : Event) → event_of world n stamp source ≡ Some event → AreInOrder (taken_by world n source) n
    → IsAmid (field_of world) n stamp before (work_on (world.hosts n).node free) → StepsWell (IsDoomed w) t world n stamp free before source event
    → IsLawful before (entries_of n stamp (effects_of (world.hosts n).node event free).entries)
    → IsDoomed w ⊎ Here t (OpenPlaced t (field_of world)) before
    → IsDoomed w ⊎ Here t (OpenPlaced t (field_of (step_with world n stamp free source (Some event)))) (book_after before (entries_of n stamp (effects_of (world.hosts n).node event free).entries))
