-- How many of a number wait at a server once a request came to wait there, and once the first one left.
use Rattle.qs_world_runs.proofs.Words.{◌≡◌, ℕ, ◌+◌, ◌==◌, ◌&&◌, Bool, true, false, List, [], ◌∷◌, length, Some, suc, refl, sym, ap, subst, ◌∙◌, arith, nat_tests, is_at, filter, drop, ServerNo, Tid, IpcValue, queue_at, server_cmp, QueueValue, first_of, Delivery, RequestNo, filter_last, left_elsewhere, left_here, queued_elsewhere, queued_here, same_server_or, same_Some, eq-eqb}
use Rattle.qs_ipc.specs.Ipc as ipc
use Rattle.qs_ipc.specs.Queue.{is_of}
use Rattle.qs_world_lawful.specs.Face.{is_numbered}
use Rattle.qs_world_runs.proofs.PlacedServes.{count_more, one_if}

abbrev pub count_in : Tid → RequestNo → ServerNo → IpcValue → ℕ
count_in t at server queues = length (filter (is_numbered at) (filter (is_of t) (queue_at queues server).waiting))

equal_no : (a b : ServerNo) → a ≡ b → (a.0 == b.0) ≡ true
equal_no a b is = eq-eqb a.0 b.0 (ap (λ (s : ServerNo). s.0) is)

apart_no : (a b : ServerNo) → is_at (server_cmp b) a ≡ false → (b.0 == a.0) ≡ false
apart_no a b far = grind (arith, nat_tests, far)

plus_none : (a b : ℕ) → b ≡ 0 → a ≡ a + b
plus_none a b none = omega (arith, none)

module _ (t : Tid) (at : RequestNo) (queues : IpcValue) (s : ServerNo) (d : Delivery) where
  abbrev Enqueued : ServerNo → Type 0
  Enqueued k = count_in t at k (ipc.enqueue s d queues) ≡ count_in t at k queues + one_if ((k.0 == s.0) && is_numbered at d)

  abbrev Left : ServerNo → Type 0
  Left k = count_in t at k queues ≡ count_in t at k (ipc.after_next s queues) + one_if ((k.0 == s.0) && (is_of t d && is_numbered at d))

  pub count_enqueued : is_of t d ≡ true → (server : ServerNo) → count_in t at server (ipc.enqueue s d queues) ≡ count_in t at server queues + one_if ((server.0 == s.0) && is_numbered at d)
  count_enqueued its server = same_server_or s server _ here elsewhere
    where
      here : s ≡ server → Enqueued server
      here same = subst Enqueued same (ap (λ (q : QueueValue). length (filter (is_numbered at) (filter (is_of t) q.waiting))) (queued_here s d queues)
          ∙ (ap (λ (ds : List Delivery). length (filter (is_numbered at) ds)) (filter_last (is_of t) (queue_at queues s).waiting d its)
          ∙ (count_more (is_numbered at) (filter (is_of t) (queue_at queues s).waiting) d ∙ ap (λ (b : Bool). count_in t at s queues + one_if (b && is_numbered at d)) (sym (equal_no s s refl)))))

      elsewhere : is_at (server_cmp server) s ≡ false → ((k : ServerNo) → is_at (server_cmp server) k ≡ true → is_at (server_cmp s) k ≡ false) → Enqueued server
      elsewhere far keys = ap (λ (q : QueueValue). length (filter (is_numbered at) (filter (is_of t) q.waiting))) (queued_elsewhere s server d queues far)
          ∙ plus_none (count_in t at server queues) (one_if ((server.0 == s.0) && is_numbered at d)) (rw (apart_no s server far) refl)

  -- the first one leaves
  pub count_left : ipc.next s queues ≡ Some d → (server : ServerNo) → count_in t at server queues ≡ count_in t at server (ipc.after_next s queues) + one_if ((server.0 == s.0) && (is_of t d && is_numbered at d))
  count_left first server = same_server_or s server _ here elsewhere
    where
      behind : (ds : List Delivery) → first_of ds ≡ Some d → length (filter (is_numbered at) (filter (is_of t) ds)) ≡ length (filter (is_numbered at) (filter (is_of t) (drop 1 ds))) + one_if (is_of t d && is_numbered at d)
      behind [] is = absurd (cc is)
      behind (x ∷ ds) is = subst (λ (y : Delivery). length (filter (is_numbered at) (filter (is_of t) (y ∷ ds))) ≡ length (filter (is_numbered at) (filter (is_of t) ds)) + one_if (is_of t d && is_numbered at d)) (same_Some d x (sym is)) (by (is_of t d) (is_numbered at d) refl refl)
        where
          more : (a : ℕ) → suc a ≡ a + 1
          more a = omega arith

          by : (a b : Bool) → is_of t d ≡ a → is_numbered at d ≡ b → length (filter (is_numbered at) (filter (is_of t) (d ∷ ds))) ≡ length (filter (is_numbered at) (filter (is_of t) ds)) + one_if (is_of t d && is_numbered at d)
          by false b p q = rw p (plus_none (length (filter (is_numbered at) (filter (is_of t) ds))) 0 refl)
          by true false p q = rw (p, q) (plus_none (length (filter (is_numbered at) (filter (is_of t) ds))) 0 refl)
          by true true p q = rw (p, q) (more (length (filter (is_numbered at) (filter (is_of t) ds))))

      here : s ≡ server → Left server
      here same = subst Left same (behind (queue_at queues s).waiting first
          ∙ (ap (λ (ds : List Delivery). length (filter (is_numbered at) (filter (is_of t) ds)) + one_if (is_of t d && is_numbered at d)) (sym (left_here s queues))
          ∙ ap (λ (b : Bool). count_in t at s (ipc.after_next s queues) + one_if (b && (is_of t d && is_numbered at d))) (sym (equal_no s s refl))))

      elsewhere : is_at (server_cmp server) s ≡ false → ((k : ServerNo) → is_at (server_cmp server) k ≡ true → is_at (server_cmp s) k ≡ false) → Left server
      elsewhere far keys = sym (ap (λ (q : QueueValue). length (filter (is_numbered at) (filter (is_of t) q.waiting))) (left_elsewhere s server queues keys))
          ∙ plus_none (count_in t at server (ipc.after_next s queues)) (one_if ((server.0 == s.0) && (is_of t d && is_numbered at d))) (rw (apart_no s server far) refl)
