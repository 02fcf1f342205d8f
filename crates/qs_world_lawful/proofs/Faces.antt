-- What changes of one transaction at a node leaves what the node has of every other.
use Rattle.qs_world_lawful.proofs.Words.{◌≡◌, ℕ, Bool, true, false, List, [], ◌∷◌, ◌++◌, Option, Some, None, Less, Equal, Greater, refl, sym, ap, subst, ◌∙◌, drop, true≢false, unwrap_or, if◌then◌else◌, filter, lookup, set_value, insert_entry, is_at, Ordering, tied_itself, nat_cmp_total, exact_unsigned, tid_cmp, same_tid, ServerNo, Tid, tid_exact, IpcValue, queue_at, server_cmp, QueueValue, no_queue, Delivery, lookup_changed, changed_apart, changed_none, lookup_set, lookup_put, lookup_put_apart}
use Rattle.qs_world_lawful.proofs.Words.{Manager, Participant}
use Rattle.qs_ipc.specs.Ipc as ipc
use Rattle.qs_ipc.specs.Queue.{added, after_first, is_of}
use Rattle.qs_tm.specs.Manager as tm
use Rattle.qs_world_lawful.proofs.Apart.{Apart}

-- ---- what the manager knows

pub part_apart : (tid t : Tid) (f : Participant → Participant) (manager : Manager) → Apart tid t → tm.part_of t (tm.with_part tid f manager) ≡ tm.part_of t manager
part_apart tid t f manager far = changed_apart (is_at (tid_cmp tid)) (is_at (tid_cmp t)) far.keys f manager.known

pub part_changed : (tid : Tid) (f : Participant → Participant) (manager : Manager) (part : Participant) → tm.part_of tid manager ≡ Some part → tm.part_of tid (tm.with_part tid f manager) ≡ Some (f part)
part_changed tid f manager part known = lookup_changed (is_at (tid_cmp tid)) f manager.known part known

pub part_unknown : (tid : Tid) (f : Participant → Participant) (manager : Manager) → tm.part_of tid manager ≡ None → tm.part_of tid (tm.with_part tid f manager) ≡ None
part_unknown tid f manager is = changed_none (is_at (tid_cmp tid)) f manager.known is

pub put_apart : (tid t : Tid) (part : Participant) (manager : Manager) → Apart tid t → tm.part_of t (tm.put_part tid part manager) ≡ tm.part_of t manager
put_apart tid t part manager far = lookup_put_apart tid_cmp tid part (tid_exact tid) (is_at (tid_cmp t)) far.at manager.known

-- ---- queues

server_itself : (s : ServerNo) → server_cmp s s ≡ Equal
server_itself s = tied_itself nat_cmp_total s.0

server_exact : (s t : ServerNo) → server_cmp s t ≡ Equal → s ≡ t
server_exact s t e = ap (λ (n : ℕ). record { 0 = n }) (exact_unsigned s.0 t.0 e)

at_exact : (s t : ServerNo) → is_at (server_cmp s) t ≡ true → s ≡ t
at_exact s t = by (server_cmp s t) refl
  where
    by : (r : Ordering) → server_cmp s t ≡ r → is_at (server_cmp s) t ≡ true → s ≡ t
    by Less is h = absurd (cc (rw is at h))
    by Equal is h = server_exact s t is
    by Greater is h = absurd (cc (rw is at h))

abbrev or_none : Option QueueValue → QueueValue
or_none o = unwrap_or o no_queue

-- a request waits behind the others at its server, ..
pub queued_here : (server : ServerNo) (delivery : Delivery) (queues : IpcValue) → queue_at (ipc.enqueue server delivery queues) server ≡ added delivery (queue_at queues server)
queued_here server delivery queues = by (lookup (is_at (server_cmp server)) queues) refl
  where
    by : (o : Option QueueValue) → lookup (is_at (server_cmp server)) queues ≡ o
        → or_none (lookup (is_at (server_cmp server)) (elim o [ None ↦ insert_entry server_cmp queues server (added delivery no_queue) | Some queue ↦ set_value (is_at (server_cmp server)) queues (added delivery queue) ])) ≡ added delivery (or_none o)
    by None is = ap or_none (lookup_put server_cmp server (added delivery no_queue) (server_itself server) queues)
    by (Some queue) is = ap or_none (lookup_set (is_at (server_cmp server)) queues queue (added delivery queue) is)

-- .. and nothing changes at another
pub queued_elsewhere : (server other : ServerNo) (delivery : Delivery) (queues : IpcValue) → is_at (server_cmp other) server ≡ false → queue_at (ipc.enqueue server delivery queues) other ≡ queue_at queues other
queued_elsewhere server other delivery queues far = by (lookup (is_at (server_cmp server)) queues) refl
  where
    apart : (k : ServerNo) → is_at (server_cmp other) k ≡ true → is_at (server_cmp server) k ≡ false
    apart k at = test (is_at (server_cmp server) k) refl
      where
        test : (b : Bool) → is_at (server_cmp server) k ≡ b → b ≡ false
        test false is = refl
        test true is = absurd (true≢false (sym (subst (λ (s : ServerNo). is_at (server_cmp other) s ≡ true) (sym (at_exact server k is)) at) ∙ far))

    by : (o : Option QueueValue) → lookup (is_at (server_cmp server)) queues ≡ o → or_none (lookup (is_at (server_cmp other)) (elim o [ None ↦ insert_entry server_cmp queues server (added delivery no_queue) | Some queue ↦ set_value (is_at (server_cmp server)) queues (added delivery queue) ])) ≡ queue_at queues other
    by None is = ap or_none (lookup_put_apart server_cmp server (added delivery no_queue) (server_exact server) (is_at (server_cmp other)) far queues)
    by (Some queue) is = ap or_none (subst (λ (o : Option QueueValue). lookup (is_at (server_cmp other)) (elim o [ None ↦ queues | Some q ↦ set_value (is_at (server_cmp server)) queues (added delivery q) ]) ≡ lookup (is_at (server_cmp other)) queues) is
        (changed_apart (is_at (server_cmp server)) (is_at (server_cmp other)) apart (added delivery) queues))

-- the first one leaves the queue of its server
pub left_here : (server : ServerNo) (queues : IpcValue) → (queue_at (ipc.after_next server queues) server).waiting ≡ drop 1 (queue_at queues server).waiting
left_here server queues = by (lookup (is_at (server_cmp server)) queues) refl
  where
    by : (o : Option QueueValue) → lookup (is_at (server_cmp server)) queues ≡ o → (queue_at (ipc.after_next server queues) server).waiting ≡ drop 1 (or_none o).waiting
    by None is = ap (λ (o : Option QueueValue). (or_none o).waiting) (changed_none (is_at (server_cmp server)) after_first queues is)
    by (Some queue) is = ap (λ (o : Option QueueValue). (or_none o).waiting) (lookup_changed (is_at (server_cmp server)) after_first queues queue is)

pub left_elsewhere : (server other : ServerNo) (queues : IpcValue) → ((k : ServerNo) → is_at (server_cmp other) k ≡ true → is_at (server_cmp server) k ≡ false) → queue_at (ipc.after_next server queues) other ≡ queue_at queues other
left_elsewhere server other queues apart = ap or_none (changed_apart (is_at (server_cmp server)) (is_at (server_cmp other)) apart after_first queues)

-- one server is the other, or nothing of one is found at the other
pub same_server_or : (s t : ServerNo) → (P : Type 0) → (s ≡ t → P) → (is_at (server_cmp t) s ≡ false → ((k : ServerNo) → is_at (server_cmp t) k ≡ true → is_at (server_cmp s) k ≡ false) → P) → P
same_server_or s t P same other = by (is_at (server_cmp t) s) refl
  where
    by : (b : Bool) → is_at (server_cmp t) s ≡ b → P
    by true is = same (sym (at_exact t s is))
    by false is = other is (λ k at. test k at (is_at (server_cmp s) k) refl)
      where
        test : (k : ServerNo) → is_at (server_cmp t) k ≡ true → (b : Bool) → is_at (server_cmp s) k ≡ b → b ≡ false
        test k at false so = refl
        test k at true so = absurd (true≢false (sym (subst (λ (u : ServerNo). is_at (server_cmp t) u ≡ true) (sym (at_exact s k so)) at) ∙ is))

-- ---- what waits of a transaction

pub filter_more : {A : Type 0} (p : A → Bool) (xs : List A) (x : A) → p x ≡ false → filter p (xs ++ x ∷ []) ≡ filter p xs
filter_more p [] x out = rw out refl
filter_more p (y ∷ ys) x out = by (p y) refl (filter_more p ys x out)
  where
    by : (b : Bool) → p y ≡ b → filter p (ys ++ x ∷ []) ≡ filter p ys → filter p ((y ∷ ys) ++ x ∷ []) ≡ filter p (y ∷ ys)
    by true is more = rw is (ap (λ zs. y ∷ zs) more)
    by false is more = rw is more

pub filter_last : {A : Type 0} (p : A → Bool) (xs : List A) (x : A) → p x ≡ true → filter p (xs ++ x ∷ []) ≡ filter p xs ++ x ∷ []
filter_last p [] x passes = rw passes refl
filter_last {A} p (y ∷ ys) x passes = by (p y) (filter_last p ys x passes)
  where
    by : (b : Bool) → filter p (ys ++ x ∷ []) ≡ filter p ys ++ x ∷ [] → (if b then y ∷ filter p (ys ++ x ∷ []) else filter p (ys ++ x ∷ [])) ≡ (if b then y ∷ filter p ys else filter p ys) ++ x ∷ []
    by true more = ap (λ (zs : List A). y ∷ zs) more
    by false more = more

pub waiting_apart : (t : Tid) (server other : ServerNo) (delivery : Delivery) (queues : IpcValue) → same_tid t delivery.tid ≡ false
    → filter (is_of t) (queue_at (ipc.enqueue server delivery queues) other).waiting ≡ filter (is_of t) (queue_at queues other).waiting
waiting_apart t server other delivery queues far = same_server_or server other _
    (λ same. subst (λ (s : ServerNo). filter (is_of t) (queue_at (ipc.enqueue server delivery queues) s).waiting ≡ filter (is_of t) (queue_at queues s).waiting) same
    (ap (λ (q : QueueValue). filter (is_of t) q.waiting) (queued_here server delivery queues) ∙ filter_more (is_of t) (queue_at queues server).waiting delivery far))
    (λ other_is apart. ap (λ (q : QueueValue). filter (is_of t) q.waiting) (queued_elsewhere server other delivery queues other_is))
