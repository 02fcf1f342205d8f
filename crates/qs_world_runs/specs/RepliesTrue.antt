-- A reply that comes is true: where a node takes in a reply, no request of its own stands under that number at the member, or the transaction is crossed there. Each
-- request that is on its way or waits has a number that its node gave, and a later request of that incarnation has a greater one.
use Rattle.std.specs.Prelude.{◌≡◌, ◌⊎◌, ℕ, ◌==◌, ◌≤◌, ◌<◌, ⊤, true, false, Some, None}
use Rattle.std.specs.List.{filter}
use Rattle.qs_base.specs.declared.identifiers.Member.{Member}
use Rattle.qs_base.specs.declared.identifiers.NodeNo.{NodeNo}
use Rattle.qs_base.specs.declared.identifiers.ServerNo.{ServerNo}
use Rattle.qs_base.specs.declared.identifiers.Tid.{Tid}
use Rattle.qs_ipc.specs.Ipc as ipc
use Rattle.qs_ipc.specs.Ipc.{IpcValue, queue_at}
use Rattle.qs_ipc.specs.Queue.{is_of}
use Rattle.qs_ipc.specs.declared.delivery.Delivery.{Delivery}
use Rattle.qs_book_laws.proofs.Turns.{Stands}
use Rattle.qs_book_machine.specs.Book.{BookValue, find_transaction, inc_at}
use Rattle.qs_book_machine.specs.Lawful.{IsLawful, broken, effect}
use Rattle.qs_book_machine.specs.Transaction.{TransactionValue, is_crossed, sent_in, sent_on, standing_request}
use Rattle.qs_ops.specs.declared.operation.Op.{Op}
use Rattle.qs_ops.specs.declared.reply.Reply.{Reply}
use Rattle.qs_packet.specs.declared.message.Message.{Message}
use Rattle.qs_packet.specs.declared.message.Message.TheVariants as messages
use Rattle.qs_node_step.specs.State.{NodeValue}
use Rattle.qs_node_step.specs.Step.{after_step, effects_of}
use Rattle.qs_node_step.specs.Telling.{drop_counts}
use Rattle.qs_node_step.specs.declared.event.Event.{Event}
use Rattle.qs_node_step.specs.declared.event.Event.TheVariants as events
use Rattle.qs_node_step.specs.declared.event.Sending.{Sending}
use Rattle.qs_world.specs.Histories.{book_of}
use Rattle.qs_world.specs.Moves.{Move, Source, may_move, moved, step_with, taken_by}
use Rattle.qs_world.specs.Posting.{entry_of}
use Rattle.qs_world.specs.World.{Opening, Parcel, World}
use Rattle.qs_book_journal.specs.declared.entry.Act.TheVariants as acts
use Rattle.qs_book_journal.specs.declared.entry.Entry.{Entry}
use Rattle.qs_book_laws.proofs.Outcomes.{Inv}
use Rattle.qs_world_lawful.specs.Face.{waiting_at}
use Rattle.qs_world_lawful.specs.Logs.{Every}
use Rattle.qs_world_lawful.specs.Parcels.{way_between}
use Rattle.qs_world_lawful.proofs.LastsWell.{LastsWell}
use Rattle.qs_world_runs.specs.Agrees.{MakesStep}
use Rattle.qs_world_runs.specs.Joined.{Joined, book_in}
use Rattle.qs_world_runs.specs.JoinedLaws.{IsBetweenSteps, Opens, book_then, entries_in}
use Rattle.qs_world_runs.specs.JoinedPlaces.{PlacesAt}
use Rattle.qs_world_runs.specs.Placed.{Placed, field_of}

-- ---- of a transaction

-- node n gave that number to a request to node m in its incarnation i
abbrev pub HasGiven : ℕ → ℕ → ℕ → ℕ → TransactionValue → Type 0
HasGiven n i m number tx = number ≤ sent_in i (sent_on tx (way_between n m number).link)

-- and that request stands at the member no more
pub record IsServed (n i : ℕ) (member : Member) (number : ℕ) (tx : TransactionValue) : Type 0 where
  pub none : (is_crossed tx member ≡ true) ⊎ (standing_request tx (way_between n member.node.0 number) member ≡ None)
  pub given : HasGiven n i member.node.0 number tx

-- so it is while node n begins no later incarnation
pub record IsOfLast (book : BookValue) (n i : ℕ) (tid : Tid) (P : TransactionValue → Type 0) : Type 0 where
  pub begun : i ≤ inc_at book (record { 0 = n })
  pub holds : inc_at book (record { 0 = n }) ≡ i → Stands tid P book

-- ---- what incarnation i of node n posted to incarnation j of node m, and what it keeps back

abbrev pub IsTold : BookValue → ℕ → ℕ → ℕ → ℕ → Message → Type 0
IsTold book n m i j (messages.Request tid label member number issuer op) = IsOfLast book n i tid (HasGiven n i m number)
IsTold book n m i j (messages.Answered tid member number reply) = IsOfLast book m j tid (IsServed m j member number)
IsTold book n m i j message = ⊤

-- no reply is kept back: it goes to a node from which a request came
abbrev pub IsKeptBack : BookValue → ℕ → ℕ → ℕ → Message → Type 0
IsKeptBack book n m i (messages.Request tid label member number issuer op) = IsOfLast book n i tid (HasGiven n i m number)
IsKeptBack book n m i (messages.Answered tid member number reply) = ⊥
IsKeptBack book n m i message = ⊤

-- ---- what waits at node m is of the incarnations that it knows, or stale

pub record IsOfKnown (book : BookValue) (knows : ℕ → ℕ) (m : ℕ) (delivery : Delivery) : Type 0 where
  pub known : 1 ≤ knows delivery.from.0
  pub given : IsOfLast book delivery.from.0 (knows delivery.from.0) delivery.tid (HasGiven delivery.from.0 (knows delivery.from.0) m delivery.number)

abbrev pub IsFresh : BookValue → (ℕ → ℕ) → ℕ → Delivery → Type 0
IsFresh book knows m delivery = delivery.stale ≡ false → (delivery.from.0 == m) ≡ false → IsOfKnown book knows m delivery

abbrev pub AreFresh : BookValue → (ℕ → ℕ) → ℕ → NodeValue → Type 0
AreFresh book knows m node = (tid : Tid) (server : ServerNo) → Every (IsFresh book knows m) (waiting_at node tid server)

-- ---- all of it

pub record HoldsReplies (book : BookValue) (world : World) : Type 0 where
  pub posted : (n m i j : ℕ) → Every (λ (parcel : Parcel). IsTold book n m i j parcel.message) (world.channels.posted n m i j)
  pub keeps : (n m : ℕ) → Every (λ (parcel : Parcel). IsKeptBack book n m (world.channels.inc n) parcel.message) (world.channels.waits n m)
  pub queued : (m : ℕ) → m < world.size → AreFresh book (world.channels.peer m) m (world.hosts m).node

abbrev pub RepliesAt : Opening → World → Type 0
RepliesAt o world = HoldsReplies (book_in o world) world

-- ---- what it takes: it goes on through each entry, an issue has the next number, and what is served stands no more

abbrev pub ServedStays : Type 0
ServedStays = (book : BookValue) (entry : Entry) (n i : ℕ) (tid : Tid) (member : Member) (number : ℕ) → Inv book → broken book entry ≡ None → IsOfLast book n i tid (IsServed n i member number) → IsOfLast (effect book entry) n i tid (IsServed n i member number)

abbrev pub GivenStays : Type 0
GivenStays = (book : BookValue) (entry : Entry) (n i m : ℕ) (tid : Tid) (number : ℕ) → Inv book → broken book entry ≡ None → IsOfLast book n i tid (HasGiven n i m number) → IsOfLast (effect book entry) n i tid (HasGiven n i m number)

-- a request that is served was of a number that its node gave: it stands no more
abbrev pub ServesOnce : Type 0
ServesOnce = (book : BookValue) (n stamp i : ℕ) (tid : Tid) (member : Member) (from : NodeNo) (number : ℕ) (reply : Reply) → LastsWell book → broken book (entry_of n stamp (acts.Serve tid member from number reply)) ≡ None → IsOfLast book from.0 i tid (HasGiven from.0 i member.node.0 number)
    → IsOfLast (effect book (entry_of n stamp (acts.Serve tid member from number reply))) from.0 i tid (IsServed from.0 i member number)

-- ---- so a reply that comes is true

abbrev pub RepliesTrue : Type 0
RepliesTrue = (o : Opening) (world : World) (n stamp : ℕ) (source : Source) (peer : NodeNo) (tid : Tid) (member : Member) (number : ℕ) (reply : Reply) (tx : TransactionValue) → Joined PlacesAt o world → RepliesAt o world → n < world.size
    → MakesStep world n stamp source (events.Received peer (messages.Answered tid member number reply)) → find_transaction (book_in o world) tid ≡ Some tx → Placed tid tx (field_of world) → standing_request tx (way_between n member.node.0 number) member ≡ None

-- ---- moves

-- it is so as a run begins, and a crash, a restart and a first meeting keep it
abbrev pub OpensReplies : Type 0
OpensReplies = Opens RepliesAt

abbrev pub BetweenKeepReplies : Type 0
BetweenKeepReplies = (o : Opening) (world : World) (move : Move) → IsBetweenSteps move → Joined PlacesAt o world → RepliesAt o world → may_move world move ≡ true → IsLawful (book_of o) (moved move world).journal → RepliesAt o (moved move world)

-- ---- a whole step

-- what node n sends in its incarnation i to another, of which it knows these incarnations
abbrev pub IsSentSo : BookValue → ℕ → ℕ → (ℕ → ℕ) → ℕ → Message → Type 0
IsSentSo book n i knows to (messages.Request tid label member number issuer op) = IsOfLast book n i tid (HasGiven n i to number)
IsSentSo book n i knows to (messages.Answered tid member number reply) = (1 ≤ knows to) × IsOfLast book to (knows to) tid (IsServed to (knows to) member number)
IsSentSo book n i knows to message = ⊤

-- all that a step of it sends, and what waits there after it
pub record TellsSo (o : Opening) (world : World) (n stamp free : ℕ) (source : Source) (event : Event) : Type 0 where
  pub sent : Every (λ (s : Sending). IsSentSo (book_then o world n stamp free event) n (world.channels.inc n) ((taken_by world n source).peer n) s.to.0 s.message) (effects_of (world.hosts n).node event free).messages
  pub queued : AreFresh (book_then o world n stamp free event) ((taken_by world n source).peer n) n (after_step (world.hosts n).node event free)

abbrev pub EachStepTells : Type 0
EachStepTells = (o : Opening) (world : World) (n stamp free : ℕ) (source : Source) (event : Event) → Joined PlacesAt o world → RepliesAt o world → MakesStep world n stamp source event → IsLawful (book_in o world) (entries_in world n stamp free event) → TellsSo o world n stamp free source event

abbrev pub StepKeepsReplies : Type 0
StepKeepsReplies = (o : Opening) (world : World) (n stamp free : ℕ) (source : Source) (event : Event) → Joined PlacesAt o world → RepliesAt o world → IsLawful (book_in o world) (entries_in world n stamp free event) → TellsSo o world n stamp free source event
    → RepliesAt o (step_with world n stamp free source (Some event))

-- ---- what the rules of a step do

-- a request that is issued has a number that its node gave
abbrev pub IssuesGive : Type 0
IssuesGive = (book : BookValue) (n stamp : ℕ) (tid : Tid) (issuer member : Member) (number : ℕ) (op : Op) (tx : TransactionValue) → Inv book → find_transaction book tid ≡ Some tx → broken book (entry_of n stamp (acts.Issue tid issuer member number op)) ≡ None
    → IsOfLast (effect book (entry_of n stamp (acts.Issue tid issuer member number op))) n (inc_at book (record { 0 = n })) tid (HasGiven n (inc_at book (record { 0 = n })) member.node.0 number)

abbrev pub IsFreshIn : BookValue → (ℕ → ℕ) → ℕ → IpcValue → Type 0
IsFreshIn book knows m queues = (tid : Tid) (server : ServerNo) → Every (IsFresh book knows m) (filter (is_of tid) (queue_at queues server).waiting)

-- queues leave it so
pub record KeepFresh (book : BookValue) (knows : ℕ → ℕ) (m : ℕ) (queues : IpcValue) : Type 0 where
  pub queued : (at : ServerNo) (delivery : Delivery) → IsFresh book knows m delivery → IsFreshIn book knows m (ipc.enqueue at delivery queues)
  pub left : (at : ServerNo) → IsFreshIn book knows m (ipc.after_next at queues)
  pub forgotten : (tid : Tid) → IsFreshIn book knows m (drop_counts tid queues)
  pub next_is : (at : ServerNo) (delivery : Delivery) → ipc.next at queues ≡ Some delivery → IsFresh book knows m delivery

abbrev pub FreshQueues : Type 0
FreshQueues = (book : BookValue) (knows : ℕ → ℕ) (m : ℕ) (queues : IpcValue) → IsFreshIn book knows m queues → KeepFresh book knows m queues

-- and so do marks, as a later incarnation of a node becomes known
abbrev pub FreshMarked : Type 0
FreshMarked = (book : BookValue) (knows later : ℕ → ℕ) (m : ℕ) (peer : NodeNo) (queues : IpcValue) → ((k : ℕ) → (k == peer.0) ≡ false → later k ≡ knows k) → IsFreshIn book knows m queues → IsFreshIn book later m (ipc.mark_queues peer queues)
