-- What waits at a node, of the requests from another: it goes as the first at a server leaves its queue, which is served or dropped, and comes as a
-- request waits behind the others.
use Rattle.qs_world_runs.proofs.Words.{◌≡◌, ℕ, ◌==◌, ◌&&◌, Bool, true, false, List, [], ◌∷◌, ◌++◌, drop, map, Some, None, refl, sym, ap, subst, ◌∙◌, if◌then◌else◌, append-nil, eqb-true, nat_cmp_total, tied_itself, is_at, filter, same_tid, NodeNo, ServerNo, Tid, IpcValue, queue_at, server_cmp, QueueValue, first_of, Delivery, Op, drop_counts, Event, is_asking_for, way_between, filter_last, filter_more, left_elsewhere, left_here, queued_elsewhere, queued_here, same_server_or, eqb-self}
use Rattle.qs_ipc.specs.Ipc as ipc
use Rattle.qs_ipc.specs.Queue.{is_of}
use Rattle.qs_node_step.specs.declared.event.Event.TheVariants as events
use Rattle.qs_world_lawful.specs.Face.{is_numbered}
use Rattle.qs_world_lawful.specs.Waits.{op_of, waiting_ops}
use Rattle.qs_world_lawful.proofs.Forgetting.{dropped_waiting}
use Rattle.qs_world_lawful.proofs.PeerRestarts.{filter_marked, map_marked, marked_at, marked_number, marked_of}
use Rattle.qs_world_lawful.proofs.Within.{map_last}
use Rattle.qs_world_runs.proofs.WaysEntries.{Ops}

-- what waits at a server, of the requests from a under a number
abbrev pub waiting : ℕ → ℕ → IpcValue → Ops
waiting a n queues tid server number = waiting_ops (way_between a n number) (filter (is_of tid) (queue_at queues server).waiting)

-- the request that comes, from a
abbrev pub came_from : ℕ → Event → Ops
came_from a (events.Received peer message) tid server number = if peer.0 == a then is_asking_for tid server number message else []
came_from a event tid server number = []

module _ (a n : ℕ) where
  -- ---- marks and counts leave it

  pub forgotten_same : (forgotten : Tid) (queues : IpcValue) (tid : Tid) (server : ServerNo) (number : ℕ) → waiting a n (drop_counts forgotten queues) tid server number ≡ waiting a n queues tid server number
  forgotten_same forgotten queues tid server number = ap (λ (ds : List Delivery). waiting_ops (way_between a n number) (filter (is_of tid) ds)) (dropped_waiting forgotten queues server)

  pub marked_same : (peer : NodeNo) (queues : IpcValue) (tid : Tid) (server : ServerNo) (number : ℕ) → waiting a n (ipc.mark_queues peer queues) tid server number ≡ waiting a n queues tid server number
  marked_same peer queues tid server number =
      ap (λ (ds : List Delivery). waiting_ops (way_between a n number) (filter (is_of tid) ds)) (marked_at peer (is_at (server_cmp server)) queues)
      ∙ (ap (waiting_ops (way_between a n number)) (filter_marked peer (is_of tid) (marked_of peer tid) (queue_at queues server).waiting)
      ∙ (ap (map op_of) (filter_marked peer (is_numbered (way_between a n number)) (marked_number peer (way_between a n number)) (filter (is_of tid) (queue_at queues server).waiting))
      ∙ map_marked peer (filter (is_numbered (way_between a n number)) (filter (is_of tid) (queue_at queues server).waiting))))

  -- ---- one comes

  abbrev pub comes_one : ServerNo → Delivery → Ops
  comes_one at delivery tid server number = if same_tid tid delivery.tid && ((at.0 == server.0) && ((delivery.from.0 == a) && (delivery.number == number))) then delivery.op ∷ [] else []

  off : (p q : Bool) → p ≡ false → (q && p) ≡ false
  off p true is = is
  off p false is = refl

  list_more : (tid : Tid) (number : ℕ) (ds : List Delivery) (d : Delivery) (c : Bool) → is_of tid d ≡ c → (e : Bool) → is_numbered (way_between a n number) d ≡ e
      → waiting_ops (way_between a n number) (filter (is_of tid) (ds ++ d ∷ [])) ≡ waiting_ops (way_between a n number) (filter (is_of tid) ds) ++ (if c && e then d.op ∷ [] else [])
  list_more tid number ds d false of e numbered = ap (waiting_ops (way_between a n number)) (filter_more (is_of tid) ds d of) ∙ sym (append-nil (waiting_ops (way_between a n number) (filter (is_of tid) ds)))
  list_more tid number ds d true of false numbered = ap (waiting_ops (way_between a n number)) (filter_last (is_of tid) ds d of)
      ∙ (ap (map op_of) (filter_more (is_numbered (way_between a n number)) (filter (is_of tid) ds) d numbered) ∙ sym (append-nil (waiting_ops (way_between a n number) (filter (is_of tid) ds))))
  list_more tid number ds d true of true numbered = ap (waiting_ops (way_between a n number)) (filter_last (is_of tid) ds d of)
      ∙ (ap (map op_of) (filter_last (is_numbered (way_between a n number)) (filter (is_of tid) ds) d numbered) ∙ map_last op_of (filter (is_numbered (way_between a n number)) (filter (is_of tid) ds)) d)

  comes_none : (at : ServerNo) (delivery : Delivery) (tid : Tid) (server : ServerNo) (number : ℕ) → is_at (server_cmp server) at ≡ false → comes_one at delivery tid server number ≡ []
  comes_none at delivery tid server number far = rw (differ (at.0 == server.0) refl) (rw (off false (same_tid tid delivery.tid) refl) refl)
    where
      server_self : (s : ServerNo) → is_at (server_cmp s) s ≡ true
      server_self s = rw (tied_itself nat_cmp_total s.0) refl

      differ : (b : Bool) → (at.0 == server.0) ≡ b → b ≡ false
      differ false is = refl
      differ true is = absurd (cc (sym far ∙ (ap (λ (i : ℕ). is_at (server_cmp server) (record { 0 = i })) (eqb-true at.0 server.0 is) ∙ server_self server)))

  pub queued_more : (at : ServerNo) (delivery : Delivery) (queues : IpcValue) (tid : Tid) (server : ServerNo) (number : ℕ) → waiting a n (ipc.enqueue at delivery queues) tid server number ≡ waiting a n queues tid server number ++ comes_one at delivery tid server number
  queued_more at delivery queues tid server number = same_server_or at server _ own elsewhere
    where
      W : List Op
      W = waiting a n queues tid server number

      here : waiting a n (ipc.enqueue at delivery queues) tid at number ≡ waiting a n queues tid at number ++ comes_one at delivery tid at number
      here = ap (λ (q : QueueValue). waiting_ops (way_between a n number) (filter (is_of tid) q.waiting)) (queued_here at delivery queues)
          ∙ (list_more tid number (queue_at queues at).waiting delivery (is_of tid delivery) refl (is_numbered (way_between a n number) delivery) refl
          ∙ ap (λ (b : Bool). waiting a n queues tid at number ++ (if same_tid tid delivery.tid && b then delivery.op ∷ [] else [])) (sym (with (at.0 == at.0) (eqb-self at.0))))
        where
          with : (b : Bool) → b ≡ true → (b && ((delivery.from.0 == a) && (delivery.number == number))) ≡ ((delivery.from.0 == a) && (delivery.number == number))
          with b is = rw is refl

      own : at ≡ server → waiting a n (ipc.enqueue at delivery queues) tid server number ≡ waiting a n queues tid server number ++ comes_one at delivery tid server number
      own same = subst (λ (s : ServerNo). waiting a n (ipc.enqueue at delivery queues) tid s number ≡ waiting a n queues tid s number ++ comes_one at delivery tid s number) same here

      elsewhere : is_at (server_cmp server) at ≡ false → ((k : ServerNo) → is_at (server_cmp server) k ≡ true → is_at (server_cmp at) k ≡ false) → waiting a n (ipc.enqueue at delivery queues) tid server number ≡ waiting a n queues tid server number ++ comes_one at delivery tid server number
      elsewhere far apart = ap (λ (q : QueueValue). waiting_ops (way_between a n number) (filter (is_of tid) q.waiting)) (queued_elsewhere at server delivery queues far)
          ∙ (sym (append-nil (waiting a n queues tid server number)) ∙ ap (λ (xs : List Op). waiting a n queues tid server number ++ xs) (sym (comes_none at delivery tid server number far)))

  -- ---- the first at a server leaves its queue

  list_less : (tid : Tid) (number : ℕ) (ds : List Delivery) (d : Delivery) (c : Bool) → is_of tid d ≡ c → (e : Bool) → is_numbered (way_between a n number) d ≡ e
      → waiting_ops (way_between a n number) (filter (is_of tid) (d ∷ ds)) ≡ (if c && e then d.op ∷ [] else []) ++ waiting_ops (way_between a n number) (filter (is_of tid) ds)
  list_less tid number ds d false of e numbered = rw of refl
  list_less tid number ds d true of false numbered = rw of (rw numbered refl)
  list_less tid number ds d true of true numbered = rw of (rw numbered refl)

  module _ (at : ServerNo) (queues : IpcValue) where
    abbrev left : IpcValue
    left = ipc.after_next at queues

    left_far : (tid : Tid) (server : ServerNo) (number : ℕ) → ((k : ServerNo) → is_at (server_cmp server) k ≡ true → is_at (server_cmp at) k ≡ false) → waiting a n left tid server number ≡ waiting a n queues tid server number
    left_far tid server number apart = ap (λ (q : QueueValue). waiting_ops (way_between a n number) (filter (is_of tid) q.waiting)) (left_elsewhere at server queues apart)

    pub popped : (delivery : Delivery) → ipc.next at queues ≡ Some delivery → (tid : Tid) (server : ServerNo) (number : ℕ) → waiting a n queues tid server number ≡ comes_one at delivery tid server number ++ waiting a n left tid server number
    popped delivery next tid server number = same_server_or at server _ (λ same. subst (λ (s : ServerNo). waiting a n queues tid s number ≡ comes_one at delivery tid s number ++ waiting a n left tid s number) same own) elsewhere
      where
        whole : (ds : List Delivery) → first_of ds ≡ Some delivery → ds ≡ delivery ∷ drop 1 ds
        whole [] is = absurd (cc is)
        whole (d ∷ ds) is = let same : d ≡ delivery = cc is in ap (λ (x : Delivery). x ∷ ds) same

        with : (b : Bool) → b ≡ true → (b && ((delivery.from.0 == a) && (delivery.number == number))) ≡ ((delivery.from.0 == a) && (delivery.number == number))
        with b is = rw is refl

        own : waiting a n queues tid at number ≡ comes_one at delivery tid at number ++ waiting a n left tid at number
        own = ap (λ (ds : List Delivery). waiting_ops (way_between a n number) (filter (is_of tid) ds)) (whole (queue_at queues at).waiting next)
            ∙ (list_less tid number (drop 1 (queue_at queues at).waiting) delivery (is_of tid delivery) refl (is_numbered (way_between a n number) delivery) refl
            ∙ (ap (λ (ds : List Delivery). (if is_of tid delivery && is_numbered (way_between a n number) delivery then delivery.op ∷ [] else []) ++ waiting_ops (way_between a n number) (filter (is_of tid) ds)) (sym (left_here at queues))
            ∙ ap (λ (b : Bool). (if same_tid tid delivery.tid && b then delivery.op ∷ [] else []) ++ waiting a n left tid at number) (sym (with (at.0 == at.0) (eqb-self at.0)))))

        elsewhere : is_at (server_cmp server) at ≡ false → ((k : ServerNo) → is_at (server_cmp server) k ≡ true → is_at (server_cmp at) k ≡ false) → waiting a n queues tid server number ≡ comes_one at delivery tid server number ++ waiting a n left tid server number
        elsewhere far apart = sym (left_far tid server number apart) ∙ ap (λ (xs : List Op). xs ++ waiting a n left tid server number) (sym (comes_none at delivery tid server number far))

    -- where nothing waits there it stays
    pub left_none : ipc.next at queues ≡ None → (tid : Tid) (server : ServerNo) (number : ℕ) → waiting a n left tid server number ≡ waiting a n queues tid server number
    left_none next tid server number = same_server_or at server _ (λ same. subst (λ (s : ServerNo). waiting a n left tid s number ≡ waiting a n queues tid s number) same own) (λ far apart. left_far tid server number apart)
      where
        none : (ds : List Delivery) → first_of ds ≡ None → drop 1 ds ≡ ds
        none [] is = refl
        none (d ∷ ds) is = absurd (cc is)

        own : waiting a n left tid at number ≡ waiting a n queues tid at number
        own = ap (λ (ds : List Delivery). waiting_ops (way_between a n number) (filter (is_of tid) ds)) (left_here at queues ∙ none (queue_at queues at).waiting next)
