-- What waits at a node is of the incarnations that it knows, or stale, through all that its queues do: a request comes to wait, the first at a server leaves,
-- counts are forgotten, and what a node sent before it restarted is marked.
use Rattle.qs_world_runs.proofs.Words.{◌≡◌, ℕ, ◌≤◌, ◌==◌, Bool, true, false, List, [], ◌∷◌, ◌++◌, drop, Some, refl, sym, ap, subst, ◌∙◌, if◌then◌else◌, is_at, filter, same_tid-self, ServerNo, Tid, IpcValue, queue_at, server_cmp, QueueValue, first_of, Delivery, BookValue, drop_counts, Every, filter_last, filter_more, left_elsewhere, left_here, queued_elsewhere, queued_here, same_server_or, every_map, every_more, HasGiven, IsOfKnown, IsOfLast}
use Rattle.qs_ipc.specs.Ipc as ipc
use Rattle.qs_ipc.specs.Queue.{is_of, mark_stale}
use Rattle.qs_world_lawful.proofs.Forgetting.{dropped_waiting}
use Rattle.qs_world_lawful.proofs.PeerRestarts.{filter_marked, marked_at, marked_of}
use Rattle.qs_world_runs.specs.RepliesTrue.{FreshMarked, FreshQueues, IsFresh, IsFreshIn}

module _ (book : BookValue) (knows : ℕ → ℕ) (m : ℕ) where
  abbrev F : Delivery → Type 0
  F = IsFresh book knows m

  of_list : (tid : Tid) (ds : List Delivery) → Every F (filter (is_of tid) ds) → (d : Delivery) → F d → Every F (filter (is_of tid) (ds ++ d ∷ []))
  of_list tid ds all d new = by (is_of tid d) refl
    where
      by : (b : Bool) → is_of tid d ≡ b → Every F (filter (is_of tid) (ds ++ d ∷ []))
      by true is = subst (Every F) (sym (filter_last (is_of tid) ds d is)) (every_more F (filter (is_of tid) ds) (d ∷ []) all (new, tt))
      by false is = subst (Every F) (sym (filter_more (is_of tid) ds d is)) all

  less : (tid : Tid) (ds : List Delivery) → Every F (filter (is_of tid) ds) → Every F (filter (is_of tid) (drop 1 ds))
  less tid [] all = tt
  less tid (d ∷ ds) all = by (is_of tid d) refl all
    where
      by : (b : Bool) → is_of tid d ≡ b → Every F (filter (is_of tid) (d ∷ ds)) → Every F (filter (is_of tid) ds)
      by true is h = let g : Every F (d ∷ filter (is_of tid) ds) = rw is at h in g.1
      by false is h = rw is at h

  module _ (queues : IpcValue) (all : IsFreshIn book knows m queues) where
    abbrev In : IpcValue → Tid → ServerNo → Type 0
    In q tid server = Every F (filter (is_of tid) (queue_at q server).waiting)

    queued : (at : ServerNo) (delivery : Delivery) → F delivery → IsFreshIn book knows m (ipc.enqueue at delivery queues)
    queued at delivery new tid server = same_server_or at server (In (ipc.enqueue at delivery queues) tid server) own elsewhere
      where
        here : In (ipc.enqueue at delivery queues) tid at
        here = subst (λ (q : QueueValue). Every F (filter (is_of tid) q.waiting)) (sym (queued_here at delivery queues)) (of_list tid (queue_at queues at).waiting (all tid at) delivery new)

        own : at ≡ server → In (ipc.enqueue at delivery queues) tid server
        own same = subst (In (ipc.enqueue at delivery queues) tid) same here

        elsewhere : is_at (server_cmp server) at ≡ false → ((k : ServerNo) → is_at (server_cmp server) k ≡ true → is_at (server_cmp at) k ≡ false) → In (ipc.enqueue at delivery queues) tid server
        elsewhere far apart = subst (λ (q : QueueValue). Every F (filter (is_of tid) q.waiting)) (sym (queued_elsewhere at server delivery queues far)) (all tid server)

    left : (at : ServerNo) → IsFreshIn book knows m (ipc.after_next at queues)
    left at tid server = same_server_or at server (In (ipc.after_next at queues) tid server) own elsewhere
      where
        here : In (ipc.after_next at queues) tid at
        here = subst (λ (ds : List Delivery). Every F (filter (is_of tid) ds)) (sym (left_here at queues)) (less tid (queue_at queues at).waiting (all tid at))

        own : at ≡ server → In (ipc.after_next at queues) tid server
        own same = subst (In (ipc.after_next at queues) tid) same here

        elsewhere : is_at (server_cmp server) at ≡ false → ((k : ServerNo) → is_at (server_cmp server) k ≡ true → is_at (server_cmp at) k ≡ false) → In (ipc.after_next at queues) tid server
        elsewhere far apart = subst (λ (q : QueueValue). Every F (filter (is_of tid) q.waiting)) (sym (left_elsewhere at server queues apart)) (all tid server)

    forgotten : (tid : Tid) → IsFreshIn book knows m (drop_counts tid queues)
    forgotten t tid server = subst (λ (ds : List Delivery). Every F (filter (is_of tid) ds)) (sym (dropped_waiting t queues server)) (all tid server)

    -- what is served next is so
    next_is : (at : ServerNo) (delivery : Delivery) → ipc.next at queues ≡ Some delivery → F delivery
    next_is at delivery next = of (queue_at queues at).waiting next (all delivery.tid at)
      where
        of : (ds : List Delivery) → first_of ds ≡ Some delivery → Every F (filter (is_of delivery.tid) ds) → F delivery
        of [] is h = absurd (cc is)
        of (d ∷ ds) is h = let same : d ≡ delivery = cc is in subst F same (head (ap (λ (x : Delivery). is_of delivery.tid x) same ∙ same_tid-self delivery.tid) h)
          where
            head : is_of delivery.tid d ≡ true → Every F (filter (is_of delivery.tid) (d ∷ ds)) → F d
            head own k = let g : Every F (d ∷ filter (is_of delivery.tid) ds) = rw own at k in g.0

pub fresh_queues : FreshQueues
fresh_queues book knows m queues all = record { queued = queued book knows m queues all; left = left book knows m queues all; forgotten = forgotten book knows m queues all; next_is = next_is book knows m queues all }

-- ---- marks: of the node that restarted nothing is left that is not stale

pub fresh_marked : FreshMarked
fresh_marked book knows later m peer queues same all tid server = subst (λ (ds : List Delivery). Every (IsFresh book later m) (filter (is_of tid) ds)) (sym (marked_at peer (is_at (server_cmp server)) queues))
    (subst (Every (IsFresh book later m)) (sym (filter_marked peer (is_of tid) (marked_of peer tid) (queue_at queues server).waiting))
    (every_map (IsFresh book knows m) (IsFresh book later m) (mark_stale peer) each (filter (is_of tid) (queue_at queues server).waiting) (all tid server)))
  where
    each : (d : Delivery) → IsFresh book knows m d → IsFresh book later m (mark_stale peer d)
    each d fresh = by (d.from.0 == peer.0) refl
      where
        by : (b : Bool) → (d.from.0 == peer.0) ≡ b → IsFresh book later m (if b then record d { stale = true } else d)
        by true near live far = absurd (cc live)
        by false apart live far = let k : IsOfKnown book knows m d = fresh live far in
            record { known = subst (λ (x : ℕ). 1 ≤ x) (sym (same d.from.0 apart)) k.known; given = subst (λ (x : ℕ). IsOfLast book d.from.0 x d.tid (HasGiven d.from.0 x m d.number)) (sym (same d.from.0 apart)) k.given }
