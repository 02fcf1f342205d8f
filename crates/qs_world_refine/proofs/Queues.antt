-- How many requests of a transaction wait at each server, after one was put into a queue or taken out of it.
use Rattle.qs_world_refine.proofs.Words.{◌≡◌, ℕ, ◌+◌, ◌==◌, nat_lt, cond, Bool, true, false, List, [], ◌∷◌, ◌++◌, Option, Some, None, unwrap_or, drop, refl, sym, ap, ◌∙◌, arith, if◌then◌else◌, lookup, set_value, insert_entry, is_at, Less, Equal, Greater, eqb-true, nat_tests, same_tid, ServerNo, Tid, IpcValue, server_cmp, queue_at, QueueValue, no_queue, count_of, added, after_first, Delivery, server_no}
use Rattle.qs_ipc.specs.Ipc.{enqueue, after_next}
use Rattle.qs_ipc.specs.Queue.{is_of}
use Rattle.qs_world_agree.specs.World.{with_at}
use Rattle.qs_world_refine.proofs.Maps.{lookup_set, set_apart, lookup_put, lookup_put_apart}

-- ---- numbers of servers as keys

server_exact : (a b : ServerNo) → server_cmp a b ≡ Equal → a ≡ b
server_exact a b is = ap (λ (n : ℕ). server_no n) (by (nat_lt a.0 b.0) (a.0 == b.0) refl refl is)
  where
    by : (l e : Bool) → nat_lt a.0 b.0 ≡ l → (a.0 == b.0) ≡ e → cond l Less (cond e Equal Greater) ≡ Equal → a.0 ≡ b.0
    by true e el ee is = absurd (cc is)
    by false true el ee is = eqb-true a.0 b.0 ee
    by false false el ee is = absurd (cc is)

server_itself : (s : ℕ) → server_cmp (server_no s) (server_no s) ≡ Equal
server_itself s = grind (arith, nat_tests)

key_apart : (s r : ℕ) → (r == s) ≡ false → is_at (server_cmp (server_no r)) (server_no s) ≡ false
key_apart s r other = grind (arith, nat_tests, other)

keys_apart : (s r : ℕ) → (r == s) ≡ false → (k : ServerNo) → is_at (server_cmp (server_no r)) k ≡ true → is_at (server_cmp (server_no s)) k ≡ false
keys_apart s r other k is = grind (arith, nat_tests, other, is)

-- ---- counts

pub count_more : (tid : Tid) (d : Delivery) (waiting : List Delivery) → count_of tid (waiting ++ d ∷ []) ≡ (if is_of tid d then count_of tid waiting + 1 else count_of tid waiting)
count_more tid d [] = refl
count_more tid d (first ∷ rest) = by (is_of tid first) (is_of tid d) (count_more tid d rest)
  where
    by : (a b : Bool) → count_of tid (rest ++ d ∷ []) ≡ (if b then count_of tid rest + 1 else count_of tid rest)
        → (if a then count_of tid (rest ++ d ∷ []) + 1 else count_of tid (rest ++ d ∷ [])) ≡ (if b then (if a then count_of tid rest + 1 else count_of tid rest) + 1 else (if a then count_of tid rest + 1 else count_of tid rest))
    by true true is = ap (λ (n : ℕ). n + 1) is
    by true false is = ap (λ (n : ℕ). n + 1) is
    by false true is = is
    by false false is = is

-- ---- queues

-- one more request waits at server s
pub queue_put : (s r : ℕ) (d : Delivery) (queues : IpcValue) → queue_at (enqueue (server_no s) d queues) (server_no r) ≡ (if r == s then added d (queue_at queues (server_no s)) else queue_at queues (server_no r))
queue_put s r d queues = by (r == s) refl (lookup (is_at (server_cmp (server_no s))) queues) refl
  where
    by : (b : Bool) → (r == s) ≡ b → (o : Option QueueValue) → lookup (is_at (server_cmp (server_no s))) queues ≡ o
        → queue_at (elim o [ None ↦ insert_entry server_cmp queues (server_no s) (added d no_queue) | Some queue ↦ set_value (is_at (server_cmp (server_no s))) queues (added d queue) ]) (server_no r)
        ≡ (if b then added d (unwrap_or o no_queue) else queue_at queues (server_no r))
    by true e None is = rw (eqb-true r s e) (ap (λ (o : Option QueueValue). unwrap_or o no_queue) (lookup_put server_cmp (server_no s) (added d no_queue) (server_itself s) queues))
    by true e (Some queue) is = rw (eqb-true r s e) (ap (λ (o : Option QueueValue). unwrap_or o no_queue) (lookup_set (is_at (server_cmp (server_no s))) queues queue (added d queue) is))
    by false e None is = ap (λ (o : Option QueueValue). unwrap_or o no_queue) (lookup_put_apart server_cmp (server_no s) (added d no_queue) (server_exact (server_no s)) (is_at (server_cmp (server_no r))) (key_apart s r e) queues)
    by false e (Some queue) is = ap (λ (o : Option QueueValue). unwrap_or o no_queue) (set_apart (is_at (server_cmp (server_no s))) (is_at (server_cmp (server_no r))) (keys_apart s r e) queues (added d queue))

module _ (tid : Tid) (s r : ℕ) (d : Delivery) (queues : IpcValue) where
  abbrev waits : ℕ → ℕ
  waits k = count_of tid (queue_at queues (server_no k)).waiting

  put_count : count_of tid (queue_at (enqueue (server_no s) d queues) (server_no r)).waiting ≡ (if r == s then (if is_of tid d then waits s + 1 else waits s) else waits r)
  put_count = ap (λ (q : QueueValue). count_of tid q.waiting) (queue_put s r d queues) ∙ by (r == s)
    where
      by : (b : Bool) → count_of tid (if b then added d (queue_at queues (server_no s)) else queue_at queues (server_no r)).waiting ≡ (if b then (if is_of tid d then waits s + 1 else waits s) else waits r)
      by true = count_more tid d (queue_at queues (server_no s)).waiting
      by false = refl

  pub waits_put : same_tid tid d.tid ≡ true → count_of tid (queue_at (enqueue (server_no s) d queues) (server_no r)).waiting ≡ with_at waits s (waits s + 1) r
  waits_put its = put_count ∙ rw its refl

  pub waits_other : same_tid tid d.tid ≡ false → count_of tid (queue_at (enqueue (server_no s) d queues) (server_no r)).waiting ≡ waits r
  waits_other apart = put_count ∙ rw apart (by (r == s) refl)
    where
      by : (b : Bool) → (r == s) ≡ b → (if b then waits s else waits r) ≡ waits r
      by true e = ap waits (sym (eqb-true r s e))
      by false e = refl

-- ---- the first request that waits leaves its queue

pub queue_next : (s r : ℕ) (queues : IpcValue) → queue_at (after_next (server_no s) queues) (server_no r) ≡ (if r == s then after_first (queue_at queues (server_no s)) else queue_at queues (server_no r))
queue_next s r queues = by (r == s) refl (lookup (is_at (server_cmp (server_no s))) queues) refl
  where
    by : (b : Bool) → (r == s) ≡ b → (o : Option QueueValue) → lookup (is_at (server_cmp (server_no s))) queues ≡ o
        → queue_at (elim o [ None ↦ queues | Some queue ↦ set_value (is_at (server_cmp (server_no s))) queues (after_first queue) ]) (server_no r)
        ≡ (if b then after_first (unwrap_or o no_queue) else queue_at queues (server_no r))
    by true e None is = rw (eqb-true r s e) (ap (λ (o : Option QueueValue). unwrap_or o no_queue) is)
    by true e (Some queue) is = rw (eqb-true r s e) (ap (λ (o : Option QueueValue). unwrap_or o no_queue) (lookup_set (is_at (server_cmp (server_no s))) queues queue (after_first queue) is))
    by false e None is = refl
    by false e (Some queue) is = ap (λ (o : Option QueueValue). unwrap_or o no_queue) (set_apart (is_at (server_cmp (server_no s))) (is_at (server_cmp (server_no r))) (keys_apart s r e) queues (after_first queue))

module _ (tid : Tid) (s r : ℕ) (d : Delivery) (rest : List Delivery) (queues : IpcValue) (first : (queue_at queues (server_no s)).waiting ≡ d ∷ rest) where
  abbrev still : ℕ → ℕ
  still k = count_of tid (queue_at queues (server_no k)).waiting

  next_count : count_of tid (queue_at (after_next (server_no s) queues) (server_no r)).waiting ≡ (if r == s then count_of tid rest else still r)
  next_count = ap (λ (q : QueueValue). count_of tid q.waiting) (queue_next s r queues) ∙ by (r == s)
    where
      by : (b : Bool) → count_of tid (if b then after_first (queue_at queues (server_no s)) else queue_at queues (server_no r)).waiting ≡ (if b then count_of tid rest else still r)
      by true = ap (λ (l : List Delivery). count_of tid (drop 1 l)) first
      by false = refl

  pub waits_first : same_tid tid d.tid ≡ true → still s ≡ count_of tid rest + 1
  waits_first its = ap (count_of tid) first ∙ rw its refl

  pub waits_next : count_of tid (queue_at (after_next (server_no s) queues) (server_no r)).waiting ≡ with_at still s (count_of tid rest) r
  waits_next = next_count

  pub waits_next_other : same_tid tid d.tid ≡ false → count_of tid (queue_at (after_next (server_no s) queues) (server_no r)).waiting ≡ still r
  waits_next_other apart = next_count ∙ by (r == s) refl
    where
      first_other : still s ≡ count_of tid rest
      first_other = ap (count_of tid) first ∙ rw apart refl

      by : (b : Bool) → (r == s) ≡ b → (if b then count_of tid rest else still r) ≡ still r
      by true e = sym first_other ∙ ap still (sym (eqb-true r s e))
      by false e = refl
