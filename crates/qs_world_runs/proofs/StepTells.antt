-- A step sends requests with numbers that its node gave, and replies to requests that it served; what comes to wait is of the incarnation that was known, and what
-- waits of a node that restarted is stale.
use Rattle.qs_world_runs.proofs.Words.{◌≡◌, ℕ, ◌==◌, Bool, true, false, List, length, Option, Some, None, refl, sym, ap, subst, ◌∙◌, if◌then◌else◌, Member, NodeNo, ServerNo, Tid, Delivery, BookValue, inc_at, Op, Message, work_on, step_work, Event, Clock, Commanded, Handed, Noticed, Queues, Source, event_of, hand_next, taken_by, entries_of, next_parcel, Opening, Parcel, World, from_client, from_node, from_notice, StepMay, step_may, steady, HoldsNodeAt, LastsWell, MakesStep, Deeds, deeds_of}
use Rattle.qs_world_runs.proofs.Words.{TakesInAt, Joined, book_in, PlacesAt, HasGiven, IsOfLast, RepliesAt}
use Rattle.qs_ipc.specs.Ipc as ipc
use Rattle.qs_book_machine.specs.Nodes as book_nodes
use Rattle.qs_packet.specs.declared.message.Message.TheVariants as messages
use Rattle.qs_node_step.specs.State.{NodeValue}
use Rattle.qs_node_step.specs.declared.event.Event.TheVariants as events
use Rattle.qs_world.specs.Moves.{node_no}
use Rattle.qs_world_refine.proofs.EachMay.{is_next}
use Rattle.qs_world_runs.specs.DeedsReplied.{IsNotice}
use Rattle.qs_world_runs.specs.RepliesTrue.{EachStepTells, IsFresh, IsTold}
use Rattle.qs_world_runs.proofs.ComesUnknown.{every_get}
use Rattle.qs_world_runs.proofs.EntriesMore as more
use Rattle.qs_world_runs.proofs.FreshQueues.{fresh_marked, fresh_queues}
use Rattle.qs_world_runs.proofs.JoinedWays.{lasts_now}
use Rattle.qs_world_runs.proofs.RepliesMoves.{fresh_on}
use Rattle.qs_world_runs.proofs.RepliesTold.{So, requeued, told_first, told_kept}
use Rattle.qs_world_runs.proofs.TraceStages.{step_kept}

module _ (o : Opening) (world : World) (n stamp free : ℕ) (source : Source) (event : Event) (j : Joined PlacesAt o world) (h : RepliesAt o world) (makes : MakesStep world n stamp source event) where
  abbrev book : BookValue
  book = book_in o world

  abbrev node : NodeValue
  node = (world.hosts n).node

  -- the incarnations that it knew, and those that it knows once the event came
  abbrev old : ℕ → ℕ
  old = world.channels.peer n

  abbrev knows : ℕ → ℕ
  knows = (taken_by world n source).peer n

  well : LastsWell book
  well = lasts_now o world j.opens j.lawful

  its : StepMay world n source
  its = step_may world n stamp source makes.may

  now : inc_at book (record { 0 = n }) ≡ world.channels.inc n
  now = let at : HoldsNodeAt book world n = j.held.nodes n its.low in ap (λ (x : Option book_nodes.NodeValue). elim x [ None ↦ 0 | Some state ↦ state.inc ]) at.there ∙ at.inc_is

  -- ---- what is known of others

  handed_same : (m : ℕ) (x : Option Parcel) → (hand_next n m x world.channels).peer n ≡ old
  handed_same m None = refl
  handed_same m (Some parcel) = refl

  same_known : (s : Source) → event_of world n stamp s ≡ Some event → (IsNotice event → ⊥) → (taken_by world n s).peer n ≡ old
  same_known (Commanded k) comes none = refl
  same_known (Handed m) comes none = handed_same m (next_parcel world n m)
  same_known Queues comes none = refl
  same_known Clock comes none = refl
  same_known (Noticed m new) comes none = let from = from_notice world n stamp m new event comes in absurd (none (subst IsNotice (sym from.is) tt))

  -- a notice tells of one node alone
  other_known : (s : Source) (peer : NodeNo) (was new : ℕ) → event_of world n stamp s ≡ Some event → event ≡ events.PeerRestarted peer was new → (k : ℕ) → (k == peer.0) ≡ false → (taken_by world n s).peer n k ≡ old k
  other_known (Commanded m) peer was new comes is k far = refl
  other_known (Handed m) peer was new comes is k far = ap (λ (f : ℕ → ℕ). f k) (handed_same m (next_parcel world n m))
  other_known Queues peer was new comes is k far = refl
  other_known Clock peer was new comes is k far = refl
  other_known (Noticed m later) peer was new comes is k far = let from = from_notice world n stamp m later event comes in
      let off : (k == m) ≡ false = subst (λ (p : NodeNo). (k == p.0) ≡ false) (its_peer peer (sym is ∙ from.is)) far in rw off (kept (n == n))
    where
      its_peer : (p : NodeNo) → events.PeerRestarted p was new ≡ events.PeerRestarted (node_no m) (old m) later → p ≡ node_no m
      its_peer p e = cc e

      kept : (b : Bool) → ◌≡◌ {A = ℕ} (if b then old k else old k) (old k)
      kept true = refl
      kept false = refl

  -- ---- a request that comes has a number that its node gave

  module _ (peer : NodeNo) (tid : Tid) (label : List ℕ) (member : Member) (number : ℕ) (issuer : ServerNo) (op : Op) where
    abbrev asking : Message
    asking = messages.Request tid label member number issuer op

    abbrev delivery : Delivery
    delivery = record { tid = tid; from = peer; number = number; op = op; stale = false }

    fresh_from : (s : Source) → event_of world n stamp s ≡ Some event → event ≡ events.Received peer asking → IsFresh book old n delivery
    fresh_from (Commanded k) comes is = let from = from_client world n k event (steady world j.shown) comes in absurd (cc (sym is ∙ from.is))
    fresh_from (Handed m) comes is = let from = from_node world n stamp m event comes in came from.parcel from.found (sym is ∙ from.is)
      where
        given : (parcel : Parcel) → next_parcel world n m ≡ Some parcel → parcel.message ≡ asking → IsOfLast book m (old m) tid (HasGiven m (old m) n number)
        given parcel found same = subst (IsTold book m n (old m) (world.channels.inc n)) same
            (every_get (λ (p : Parcel). IsTold book m n (old m) (world.channels.inc n) p.message) (length (world.channels.handed m n (old m) (world.channels.inc n))) (world.channels.posted m n (old m) (world.channels.inc n)) parcel
            (h.posted m n (old m) (world.channels.inc n)) found)

        peer_is : (parcel : Parcel) → events.Received peer asking ≡ events.Received (node_no m) parcel.message → node_no m ≡ peer
        peer_is parcel e = cc e

        message_is : (parcel : Parcel) → events.Received peer asking ≡ events.Received (node_no m) parcel.message → parcel.message ≡ asking
        message_is parcel e = cc e

        came : (parcel : Parcel) → next_parcel world n m ≡ Some parcel → events.Received peer asking ≡ events.Received (node_no m) parcel.message → IsFresh book old n delivery
        came parcel found e = subst (λ (p : NodeNo). IsFresh book old n (record { tid = tid; from = p; number = number; op = op; stale = false })) (peer_is parcel e)
            (λ live far. record { known = (is_next world n m parcel (steady world j.shown) found).from.some; given = given parcel found (message_is parcel e) })
    fresh_from Queues comes is = absurd (cc (comes, is))
    fresh_from Clock comes is = absurd (cc (comes, is))
    fresh_from (Noticed m new) comes is = let from = from_notice world n stamp m new event comes in absurd (cc (sym is ∙ from.is))

  -- ---- the step

  abbrev Before : Deeds → Type 0
  Before = So n stamp (world.channels.inc n) knows book well old

  abbrev After : Deeds → Type 0
  After = So n stamp (world.channels.inc n) knows book well knows

  goes : (d : Deeds) → (IsNotice event → ⊥) → Before d → After d
  goes d none = subst (λ (f : ℕ → ℕ). So n stamp (world.channels.inc n) knows book well f d) (sym (same_known source makes.comes none))

  taken : TakesInAt event Before After
  taken = record {
    lets = goes;
    comes = λ d line is. goes d (λ notice. subst IsNotice is notice);
    learns = λ d peer tid label member number issuer op is b. b;
    takes = λ d peer tid label member number issuer op is b.
        requeued n stamp (world.channels.inc n) knows book well knows knows d.trace.setting.node d.trace.entries d.trace.messages d.trace.queues (ipc.enqueue member.server (delivery peer tid label member number issuer op) d.trace.queues)
        (λ lawful fresh. (fresh_queues (more.book_at n stamp book well d.trace.entries) knows n d.trace.queues fresh).queued member.server (delivery peer tid label member number issuer op)
        (fresh_on (entries_of n stamp d.trace.entries) book well lawful knows n (delivery peer tid label member number issuer op)
        (subst (λ (f : ℕ → ℕ). IsFresh book f n (delivery peer tid label member number issuer op)) (sym (same_known source makes.comes (λ notice. subst IsNotice is notice))) (fresh_from peer tid label member number issuer op source makes.comes is))))
        (goes d (λ notice. subst IsNotice is notice) b);
    notices = λ d peer was new is. requeued n stamp (world.channels.inc n) knows book well old knows d.trace.setting.node d.trace.entries d.trace.messages d.trace.queues (ipc.mark_queues peer d.trace.queues)
        (λ lawful fresh. fresh_marked (more.book_at n stamp book well d.trace.entries) old knows n peer d.trace.queues (other_known source peer was new makes.comes is) fresh);
  }

  begins : Before (deeds_of (work_on node free))
  begins = record { here = j.shown.steady.seated.node n its.low; says = λ lawful. record { now = now; told = tt; fresh = h.queued n its.low } }

  ends : After (deeds_of (step_work node event free))
  ends = step_kept Before After (told_first n stamp (world.channels.inc n) knows book well old) (told_kept n stamp (world.channels.inc n) knows book well) node event free taken begins

pub each_step_tells : EachStepTells
each_step_tells o world n stamp free source event j h makes lawful = let s = (ends o world n stamp free source event j h makes).says lawful in record { sent = s.told; queued = s.fresh }
