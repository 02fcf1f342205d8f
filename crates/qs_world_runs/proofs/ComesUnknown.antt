-- Of what the reference machine does not have yet no request waits and none is on its way, so nothing of it comes but a command.
use Rattle.qs_world_runs.proofs.Words.{◌≡◌, inr, ℕ, ◌+◌, ◌<◌, ◌==◌, ◌&&◌, Bool, true, false, List, [], ◌∷◌, length, map, zero, suc, Option, Some, None, is_some, refl, sym, ap, subst, ◌∙◌, arith, if◌then◌else◌, drop, slice_get, filter, same_tid, ServerNo, Tid, IpcValue, queue_at, Delivery, KeptLabel, BookValue, find_transaction, TransactionValue, Message, label_at, serve_next, serve_or_drop, Work, with_queues, work_on, Event, Clock, Commanded, Handed, Noticed, Queues, Source, event_of, Opening}
use Rattle.qs_world_runs.proofs.Words.{Parcel, World, server_no, from_client, from_node, from_notice, steady, StepMay, step_may, same_is, begun_tidy, c, stage, tidy_reads, IsDoomed, AtEach, first_work, Every, IsParcel, is_asking_for, pending, Joined, book_in, PlacesAt, asked, message_of, ComesWell, ServesWell, some_same}
use Rattle.qs_ipc.specs.Ipc as ipc
use Rattle.qs_ipc.specs.Queue.{count_of, is_of}
use Rattle.qs_packet.specs.declared.message.Message.TheVariants as messages
use Rattle.qs_node_step.specs.declared.event.Event.TheVariants as events
use Rattle.qs_world_refine.specs.Begun.{has_begun}
use Rattle.qs_world_refine.specs.NodeFaces.{waiting_at}
use Rattle.qs_world_refine.proofs.BeginKeeps.{begin_keeps}
use Rattle.qs_world_refine.proofs.ServeFrames.{next_leaves}
use Rattle.qs_world_refine.proofs.ServeRoom.{one_more, turn_is}
use Rattle.qs_world_lawful.specs.Parcels.{IsSaid}
use Rattle.qs_world_runs.specs.ComesFind.{CommandFinds, CommandsUnbegun, ComesUnknown}
use Rattle.qs_world_runs.specs.PlacesWhole.{TakesIn}
use Rattle.qs_world_runs.proofs.NoticeComes.{notice_comes}

pub every_get : {A : Type 0} (P : A → Type 0) (k : ℕ) (xs : List A) (x : A) → Every P xs → slice_get xs k ≡ Some x → P x
every_get P zero [] x all is = absurd (cc is)
every_get P zero (y ∷ xs) x all is = subst P (some_same is) all.0
every_get P (suc k) [] x all is = absurd (cc is)
every_get P (suc k) (y ∷ xs) x all is = every_get P k xs x all.1 is

every_drop : {A : Type 0} (P : A → Type 0) (k : ℕ) (xs : List A) → Every P xs → Every P (drop k xs)
every_drop P zero xs all = all
every_drop P (suc k) [] all = tt
every_drop P (suc k) (x ∷ xs) all = every_drop P k xs all.1

-- ---- nothing waits of it, at any turn

module _ (D : Type 0) (t : Tid) where
  abbrev NoneWaits : Work → Type 0
  NoneWaits work = (s : ℕ) → waiting_at work.node t s ≡ 0

  none_next : (work : Work) (server : ServerNo) → NoneWaits work → (d : Delivery) → ipc.next server work.node.queues ≡ Some d → d.tid ≡ t → ⊥
  none_next work server none d next own = never (waiting_at work.node t server.0) _ (none server.0) (subst (λ (k : Tid). waiting_at work.node k server.0 ≡ count_of k (drop 1 (queue_at work.node.queues server).waiting) + 1) own (one_more server d work next))
    where
      never : (a b : ℕ) → a ≡ 0 → a ≡ b + 1 → ⊥
      never a b p q = omega (arith, p, q)

  none_on : (work : Work) (server : ServerNo) → NoneWaits work → NoneWaits (serve_next work server)
  none_on work server none = by (ipc.next server work.node.queues) refl
    where
      of : (d : Delivery) → ipc.next server work.node.queues ≡ Some d → (b : Bool) → same_tid t d.tid ≡ b → NoneWaits (serve_next work server)
      of d next true same = absurd (none_next work server none d next (sym (same_is t d.tid same)))
      of d next false apart = subst NoneWaits (sym (turn_is server d work next)) (λ s. (next_leaves t server d apart work next).node.around.waits s ∙ none s)

      by : (o : Option Delivery) → ipc.next server work.node.queues ≡ o → NoneWaits (serve_next work server)
      by None empty = subst NoneWaits (sym (ap (λ (o : Option Delivery). elim o [ None ↦ work | Some d ↦ serve_or_drop server d (with_queues (ipc.after_next server) work) ]) empty)) none
      by (Some d) next = of d next (same_tid t d.tid) refl

  none_served : (servers : List ServerNo) (work : Work) → NoneWaits work → AtEach (ServesWell D t) serve_next work servers
  none_served [] work none = tt
  none_served (server ∷ servers) work none = (
    record {
      fits = λ d next own. absurd (none_next work server none d next own);
      serves = λ d next own. absurd (none_next work server none d next own);
      replies = λ d next own no. absurd (none_next work server none d next own);
    },
    none_served servers (serve_next work server) (none_on work server none),
  )

none_counted : (t : Tid) (ds : List Delivery) → filter (is_of t) ds ≡ [] → count_of t ds ≡ 0
none_counted t [] none = refl
none_counted t (d ∷ ds) none = by (is_of t d) refl none (λ rest. none_counted t ds rest)
  where
    by : (b : Bool) → is_of t d ≡ b → (if b then d ∷ filter (is_of t) ds else filter (is_of t) ds) ≡ [] → (filter (is_of t) ds ≡ [] → count_of t ds ≡ 0) → (if is_of t d then count_of t ds + 1 else count_of t ds) ≡ 0
    by true is none more = absurd (cc none)
    by false is none more = rw is (more none)

-- ---- nothing is on its way

module _ (book : BookValue) (t : Tid) (none : find_transaction book t ≡ None) where
  not_there : (tid : Tid) → tid ≡ t → is_some (find_transaction book tid) ≡ true → ⊥
  not_there tid about there = let empty : is_some (find_transaction book tid) ≡ false = ap (λ (u : Tid). is_some (find_transaction book u)) about ∙ ap (λ (o : Option TransactionValue). is_some o) none in cc (there, empty)

  unasked : (server : ServerNo) (number : ℕ) (message : Message) → IsSaid book message → is_asking_for t server number message ≡ []
  unasked server number messages.Hello says = refl
  unasked server number (messages.Request tid label member k issuer op) says = by (same_tid t tid) refl
    where
      by : (b : Bool) → same_tid t tid ≡ b → (if same_tid t tid && ((member.server.0 == server.0) && (k == number)) then op ∷ [] else []) ≡ []
      by true same = absurd (not_there tid (sym (same_is t tid same)) says)
      by false apart = rw apart refl
  unasked server number (messages.Answered tid member k reply) says = refl
  unasked server number (messages.AskVote tid) says = refl
  unasked server number (messages.Covered tid up_to) says = refl
  unasked server number (messages.VotedYes tid up_to told) says = refl
  unasked server number (messages.VotedAbort tid cause) says = refl
  unasked server number (messages.Tell tid outcome) says = refl
  unasked server number (messages.Told tid further) says = refl
  unasked server number (messages.Inquire tid) says = refl

  none_asked : (size a b : ℕ) (server : ServerNo) (number : ℕ) (parcels : List Parcel) → Every (IsParcel book size a b) parcels → asked t server number (map message_of parcels) ≡ 0
  none_asked size a b server number [] all = refl
  none_asked size a b server number (parcel ∷ parcels) all = rw (unasked server number parcel.message all.0.says) (none_asked size a b server number parcels all.1)

  takes_none : (D : Type 0) (work : Work) (message : Message) → IsSaid book message → TakesIn D t work message
  takes_none D work messages.Hello says = tt
  takes_none D work (messages.Request tid label member number issuer op) says = λ about. absurd (not_there tid about says)
  takes_none D work (messages.Answered tid member number reply) says = tt
  takes_none D work (messages.AskVote tid) says = tt
  takes_none D work (messages.Covered tid up_to) says = tt
  takes_none D work (messages.VotedYes tid up_to told) says = tt
  takes_none D work (messages.VotedAbort tid cause) says = tt
  takes_none D work (messages.Tell tid outcome) says = tt
  takes_none D work (messages.Told tid further) says = tt
  takes_none D work (messages.Inquire tid) says = tt

-- ---- whatever comes

module _ (D : Type 0) (t : Tid) (o : Opening) (world : World) (j : Joined PlacesAt o world) (n stamp free : ℕ) (low : n < world.size) (none : find_transaction (book_in o world) t ≡ None) where
  abbrev book : BookValue
  book = book_in o world

  abbrev first : Work
  first = first_work (world.hosts n).node free

  abbrev Well : Source → Event → Type 0
  Well source event = ComesWell D t world n stamp book source event first

  waits_none : (s : ℕ) → waiting_at first.node t s ≡ 0
  waits_none s = ap (λ (queues : IpcValue). count_of t (queue_at queues (server_no s)).waiting) (begin_keeps (work_on (world.hosts n).node free)).queues ∙ none_counted t (queue_at (world.hosts n).node.queues (server_no s)).waiting (j.queued n low t (server_no s) none)

  came : (source : Source) (event : Event) → event_of world n stamp source ≡ Some event → CommandFinds D t world n stamp book event first → Well source event
  came (Commanded k) event comes finds = let from = from_client world n k event (steady world j.shown) comes in
      subst (λ (e : Event). CommandFinds D t world n stamp book e first → Well (Commanded k) e) (sym from.is) (λ its. its) finds
  came (Handed m) event comes finds = let from = from_node world n stamp m event comes in
      subst (λ (e : Event). Well (Handed m) e) (sym from.is) (takes_none book t none D first from.parcel.message
      (every_get (IsParcel book world.size m n) (length (world.channels.handed m n (world.channels.peer n m) (world.channels.inc n))) (world.channels.posted m n (world.channels.peer n m) (world.channels.inc n)) from.parcel (j.channels.posted m n (world.channels.peer n m) (world.channels.inc n)) from.found).says)
  came Queues event comes finds = subst (λ (e : Event). Well Queues e) (some_same comes) (none_served D t (ipc.turns first.node.queues) first waits_none)
  came Clock event comes finds = subst (λ (e : Event). Well Clock e) (some_same comes) tt
  came (Noticed m new) event comes finds = let from = from_notice world n stamp m new event comes in
      subst (λ (e : Event). Well (Noticed m new) e) (sym from.is) (inr (notice_comes t world n m new stamp free book from.known from.later from.begun
      (λ i server number less. none_asked book t none world.size m n server number (pending world.channels m n i (world.channels.inc n))
      (every_drop (IsParcel book world.size m n) (length (world.channels.handed m n i (world.channels.inc n))) (world.channels.posted m n i (world.channels.inc n)) (j.channels.posted m n i (world.channels.inc n))))))

pub comes_unknown : ComesUnknown
comes_unknown w t o world n stamp free source event j makes none finds = came (IsDoomed w) t o world j n stamp free (step_may world n stamp source makes.may).low none source event makes.comes finds

-- ---- no label names what has not begun

pub commands_unbegun : CommandsUnbegun
commands_unbegun w t world n stamp free before source event is makes unbegun = by event
  where
    its : StepMay world n source
    its = step_may world n stamp source makes.may

    Named : List ℕ → Type 0
    Named label = (begun : KeptLabel) → label_at label (first_work (world.hosts n).node free).node ≡ Some begun → begun.tid ≡ Some t → ⊥

    never : (label : List ℕ) → Named label
    never label begun named tid_is = let has : has_begun world t ≡ true = (tidy_reads (c world is.steady n free its.low its.runs) (stage world is.steady n free its.low its.runs)).label label begun t (first_work (world.hosts n).node free) (begun_tidy world is.steady n free its.low its.runs) named tid_is in
        cc (has, unbegun)

    by : (event : Event) → CommandFinds (IsDoomed w) t world n stamp before event (first_work (world.hosts n).node free)
    by (events.Command client line label command) = λ begun member op number named tid_is obeyed asks next. absurd (never label begun named tid_is)
    by (events.Received peer message) = tt
    by events.ServeAll = tt
    by (events.PeerRestarted peer old new) = tt
    by events.Tick = tt
