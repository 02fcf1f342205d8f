-- A node stays sound where a request is put into a queue, leaves it, or is marked as of a dead incarnation.
use Rattle.qs_world_refine.proofs.Words.{◌≡◌, ◌==◌, ◌&&◌, ◌||◌, not, nat_lt, cond, Bool, true, false, List, [], ◌∷◌, ◌++◌, map, drop, Option, Some, None, refl, sym, ap, subst, ◌∙◌, arith, if◌then◌else◌, list_all, list_any, lookup, set_value, insert_entry, is_at, Ordering, Less, Equal, Greater, eqb-true, or_left, or_right, nat_tests, tid_cmp, same_tid, NodeNo, ServerNo, Tid, IpcValue, server_cmp, waits_in, QueueValue, no_queue, added, after_first, mark_stale, is_for, Delivery, Participant}
use Rattle.qs_world_refine.proofs.Words.{NodeValue, is_sound, is_sound_part, is_sound_queue, is_sound_delivery}
use Rattle.std.specs.Ordering.{is_eq}
use Rattle.qs_ipc.specs.Ipc as ipc
use Rattle.qs_ipc.specs.Ipc.{mark_queue, forgotten_below}
use Rattle.qs_ipc.specs.Queue.{is_of, waits_at, marked}
use Rattle.qs_tm.specs.Manager as tm
use Rattle.qs_world_refine.proofs.SoundParts.{and_both, both_and, all_found}
use Rattle.qs_world_refine.proofs.SoundBegin.{all_last}
use Rattle.qs_world_refine.proofs.SoundViews.{seen, sound_as, is_apart}
use Rattle.qs_world_refine.proofs.SoundFrames.{parts_moved, parts_beside}

-- ---- truth values and lists

pub either : (a b : Bool) → (a || b) ≡ true → (c : Bool) → (a ≡ true → c ≡ true) → (b ≡ true → c ≡ true) → c ≡ true
either true b is c f g = f refl
either false b is c f g = g is

pub any_last : {X : Type 0} (p : X → Bool) (xs : List X) (x : X) → p x ≡ false → list_any p (xs ++ x ∷ []) ≡ true → list_any p xs ≡ true
any_last p [] x off is = let never : (p x || false) ≡ true = is in absurd (cc (never, off))
any_last p (y ∷ xs) x off is = either (p y) (list_any p (xs ++ x ∷ [])) is (p y || list_any p xs) (or_left (p y) (list_any p xs)) (λ more. or_right (p y) (list_any p xs) (any_last p xs x off more))

any_drop : {X : Type 0} (p : X → Bool) (xs : List X) → list_any p (drop 1 xs) ≡ true → list_any p xs ≡ true
any_drop p [] is = is
any_drop p (x ∷ xs) is = or_right (p x) (list_any p xs) is

all_drop : {X : Type 0} (p : X → Bool) (xs : List X) → list_all p xs ≡ true → list_all p (drop 1 xs) ≡ true
all_drop p [] is = is
all_drop p (x ∷ xs) is = (and_both (p x) (list_all p xs) is).1

-- ---- the queue of a server is changed

module _ (server : ServerNo) where
  abbrev here : ServerNo → Bool
  here = is_at (server_cmp server)

  named : (k : ServerNo) → here k ≡ true → server ≡ k
  named k is = ap (λ (n : Rattle.std.proofs.Common.ℕ). record { 0 = n }) (by (nat_lt server.0 k.0) (server.0 == k.0) refl is)
    where
      by : (l e : Bool) → (server.0 == k.0) ≡ e → is_eq (cond l Less (cond e Equal Greater)) ≡ true → server.0 ≡ k.0
      by true e same is = absurd (cc is)
      by false true same is = eqb-true server.0 k.0 same
      by false false same is = absurd (cc is)

  -- where the new queue is found as before by a test, some queue is
  any_set : (p : ServerNo × QueueValue → Bool) (f : QueueValue → QueueValue) → ((k : ServerNo) (q : QueueValue) → p (k, f q) ≡ true → p (k, q) ≡ true)
      → (es : IpcValue) (q : QueueValue) → lookup here es ≡ Some q → list_any p (set_value here es (f q)) ≡ true → list_any p es ≡ true
  any_set p f less [] q found = λ is. is
  any_set p f less (e ∷ es) q found = by (here e.0) refl (any_set p f less es q)
    where
      by : (b : Bool) → here e.0 ≡ b → (lookup here es ≡ Some q → list_any p (set_value here es (f q)) ≡ true → list_any p es ≡ true)
          → list_any p (set_value here (e ∷ es) (f q)) ≡ true → list_any p (e ∷ es) ≡ true
      by true at more is =
          let value : Some e.1 ≡ Some q = rw at at found in
          let now : (p (e.0, f q) || list_any p es) ≡ true = rw at at is in
          either (p (e.0, f q)) (list_any p es) now (p e || list_any p es)
          (λ so. or_left (p e) (list_any p es) (subst (λ (x : QueueValue). p (e.0, x) ≡ true) (sym (cc (value))) (less e.0 q so)))
          (or_right (p e) (list_any p es))
      by false at more is =
          let now : (p e || list_any p (set_value here es (f q))) ≡ true = rw at at is in
          either (p e) (list_any p (set_value here es (f q))) now (p e || list_any p es) (or_left (p e) (list_any p es))
          (λ so. or_right (p e) (list_any p es) (more (rw at at found) so))

  any_put : (p : ServerNo × QueueValue → Bool) (q : QueueValue) → ((k : ServerNo) → p (k, q) ≡ false) → (es : IpcValue) → list_any p (insert_entry server_cmp es server q) ≡ true → list_any p es ≡ true
  any_put p q off [] = λ is. let never : (p (server, q) || false) ≡ true = is in let not_so : p (server, q) ≡ false = off server in absurd (cc (never, not_so))
  any_put p q off (e ∷ es) = by (server_cmp server e.0) refl (any_put p q off es)
    where
      by : (r : Ordering) → server_cmp server e.0 ≡ r → (list_any p (insert_entry server_cmp es server q) ≡ true → list_any p es ≡ true)
          → list_any p (insert_entry server_cmp (e ∷ es) server q) ≡ true → list_any p (e ∷ es) ≡ true
      by Less at more is =
          let now : (p (server, q) || (p e || list_any p es)) ≡ true = rw at at is in
          either (p (server, q)) (p e || list_any p es) now (p e || list_any p es) (λ so. let not_so : p (server, q) ≡ false = off server in absurd (cc (so, not_so))) (λ so. so)
      by Equal at more is =
          let now : (p (e.0, q) || list_any p es) ≡ true = rw at at is in
          either (p (e.0, q)) (list_any p es) now (p e || list_any p es) (λ so. let not_so : p (e.0, q) ≡ false = off e.0 in absurd (cc (so, not_so))) (or_right (p e) (list_any p es))
      by Greater at more is =
          let now : (p e || list_any p (insert_entry server_cmp es server q)) ≡ true = rw at at is in
          either (p e) (list_any p (insert_entry server_cmp es server q)) now (p e || list_any p es) (or_left (p e) (list_any p es)) (λ so. or_right (p e) (list_any p es) (more so))

  all_set : (p : ServerNo × QueueValue → Bool) (f : QueueValue → QueueValue) → ((q : QueueValue) → p (server, q) ≡ true → p (server, f q) ≡ true)
      → (es : IpcValue) (q : QueueValue) → lookup here es ≡ Some q → list_all p es ≡ true → list_all p (set_value here es (f q)) ≡ true
  all_set p f keeps [] q found is = is
  all_set p f keeps (e ∷ es) q found is = by (here e.0) refl (all_set p f keeps es q)
    where
      both : (p e ≡ true) × (list_all p es ≡ true)
      both = and_both (p e) (list_all p es) is

      by : (b : Bool) → here e.0 ≡ b → (lookup here es ≡ Some q → list_all p es ≡ true → list_all p (set_value here es (f q)) ≡ true) → list_all p (set_value here (e ∷ es) (f q)) ≡ true
      by true at more =
          let value : Some e.1 ≡ Some q = rw at at found in
          let was : p (server, q) ≡ true = subst (λ (x : QueueValue). p (server, x) ≡ true) (cc (value)) (subst (λ (k : ServerNo). p (k, e.1) ≡ true) (sym (named e.0 at)) both.0) in
          rw at (both_and (p (e.0, f q)) (list_all p es) (subst (λ (k : ServerNo). p (k, f q) ≡ true) (named e.0 at) (keeps q was)) both.1)
      by false at more = rw at (both_and (p e) (list_all p (set_value here es (f q))) both.0 (more (rw at at found) both.1))

  all_put : (p : ServerNo × QueueValue → Bool) (q : QueueValue) → p (server, q) ≡ true → (es : IpcValue) → list_all p es ≡ true → list_all p (insert_entry server_cmp es server q) ≡ true
  all_put p q its [] is = rw its refl
  all_put p q its (e ∷ es) is = by (server_cmp server e.0) refl (all_put p q its es (and_both (p e) (list_all p es) is).1)
    where
      by : (r : Ordering) → server_cmp server e.0 ≡ r → list_all p (insert_entry server_cmp es server q) ≡ true → list_all p (insert_entry server_cmp (e ∷ es) server q) ≡ true
      by Less at more = rw at (both_and (p (server, q)) (list_all p (e ∷ es)) its is)
      by Equal at more = rw at (both_and (p (e.0, q)) (list_all p es) (subst (λ (k : ServerNo). p (k, q) ≡ true) (named e.0 (rw at refl)) its) (and_both (p e) (list_all p es) is).1)
      by Greater at more = rw at (both_and (p e) (list_all p (insert_entry server_cmp es server q)) (and_both (p e) (list_all p es) is).0 more)

-- ---- one more request waits

module _ (server : ServerNo) (delivery : Delivery) where
  waits_less : (t : Tid) → is_of t delivery ≡ false → (queues : IpcValue) → ipc.waits t (ipc.enqueue server delivery queues) ≡ true → ipc.waits t queues ≡ true
  waits_less t off queues = by (lookup (is_at (server_cmp server)) queues) refl
    where
      none : (k : ServerNo) → waits_in t (k, added delivery no_queue) ≡ false
      none k = rw off refl

      less : (k : ServerNo) (q : QueueValue) → waits_in t (k, added delivery q) ≡ true → waits_in t (k, q) ≡ true
      less k q is = any_last (is_of t) q.waiting delivery off is

      by : (o : Option QueueValue) → lookup (is_at (server_cmp server)) queues ≡ o
          → ipc.waits t (elim o [ None ↦ insert_entry server_cmp queues server (added delivery no_queue) | Some queue ↦ set_value (is_at (server_cmp server)) queues (added delivery queue) ]) ≡ true → ipc.waits t queues ≡ true
      by None found is = any_put server (waits_in t) (added delivery no_queue) none queues is
      by (Some queue) found is = any_set server (waits_in t) (added delivery) less queues queue found is

  queues_more : (node : NodeValue) → is_sound_delivery node server delivery ≡ true → (queues : IpcValue) → list_all (is_sound_queue node) queues ≡ true → list_all (is_sound_queue node) (ipc.enqueue server delivery queues) ≡ true
  queues_more node its queues all = by (lookup (is_at (server_cmp server)) queues) refl
    where
      by : (o : Option QueueValue) → lookup (is_at (server_cmp server)) queues ≡ o
          → list_all (is_sound_queue node) (elim o [ None ↦ insert_entry server_cmp queues server (added delivery no_queue) | Some queue ↦ set_value (is_at (server_cmp server)) queues (added delivery queue) ]) ≡ true
      by None found = all_put server (is_sound_queue node) (added delivery no_queue) (rw its refl) queues all
      by (Some queue) found = all_set server (is_sound_queue node) (added delivery) (λ q is. all_last (is_sound_delivery node server) q.waiting delivery is its) queues queue found all

  -- of a transaction that is known, and at its home, decided, or engaged
  pub enqueue_sound : (node : NodeValue) (part : Participant) → tm.part_of delivery.tid node.manager ≡ Some part → is_apart part ≡ false → is_sound_delivery node server delivery ≡ true
      → is_sound node ≡ true → is_sound (record node { queues = ipc.enqueue server delivery node.queues }) ≡ true
  enqueue_sound node part known busy its sound =
      let s = seen node sound in
      sound_as (record node { queues = ipc.enqueue server delivery node.queues }) (record {
        fits = s.fits;
        ordered = s.ordered;
        parts = parts_beside node node.manager.known (ipc.enqueue server delivery node.queues) node.kept delivery.tid part busy
            (λ t apart. waits_less t (other t apart) node.queues) (λ t apart is. is)
            (all_found delivery.tid (is_sound_part node) node.manager.known part known s.parts) node.manager.known known s.ordered s.parts;
        queues = queues_more node its node.queues s.queues;
        loans = s.loans;
        labels = s.labels;
      })
    where
      other : (t : Tid) → is_at (tid_cmp delivery.tid) t ≡ false → same_tid t delivery.tid ≡ false
      other t apart = grind (arith, nat_tests, apart)

-- ---- fewer requests wait

pub fewer_sound : (node : NodeValue) (queues : IpcValue) → ((t : Tid) → ipc.waits t queues ≡ true → ipc.waits t node.queues ≡ true) → list_all (is_sound_queue node) queues ≡ true
    → is_sound node ≡ true → is_sound (record node { queues = queues }) ≡ true
fewer_sound node queues waits all sound =
    let s = seen node sound in
    sound_as (record node { queues = queues }) (record {
      fits = s.fits;
      ordered = s.ordered;
      parts = parts_moved node node.manager.known queues node.kept waits (λ t is. is) node.manager.known s.parts;
      queues = all;
      loans = s.loans;
      labels = s.labels;
    })

-- the first request of a server leaves its queue
pub next_sound : (server : ServerNo) (node : NodeValue) → is_sound node ≡ true → is_sound (record node { queues = ipc.after_next server node.queues }) ≡ true
next_sound server node sound = by (lookup (is_at (server_cmp server)) node.queues) refl
  where
    by : (o : Option QueueValue) → lookup (is_at (server_cmp server)) node.queues ≡ o → is_sound (record node { queues = elim o [ None ↦ node.queues | Some queue ↦ set_value (is_at (server_cmp server)) node.queues (after_first queue) ] }) ≡ true
    by None found = sound
    by (Some queue) found = fewer_sound node (set_value (is_at (server_cmp server)) node.queues (after_first queue))
        (λ t. any_set server (waits_in t) after_first (λ k q is. any_drop (is_of t) q.waiting is) node.queues queue found)
        (all_set server (is_sound_queue node) after_first (λ q is. all_drop (is_sound_delivery node server) q.waiting is) node.queues queue found (seen node sound).queues) sound

-- what waits of a node that restarted is marked
module _ (peer : NodeNo) where
  any_marked : (t : Tid) (ds : List Delivery) → list_any (is_of t) (map (mark_stale peer) ds) ≡ list_any (is_of t) ds
  any_marked t [] = refl
  any_marked t (d ∷ ds) = by (d.from.0 == peer.0) (any_marked t ds)
    where
      by : (b : Bool) → list_any (is_of t) (map (mark_stale peer) ds) ≡ list_any (is_of t) ds → (is_of t (if b then record d { stale = true } else d) || list_any (is_of t) (map (mark_stale peer) ds)) ≡ (is_of t d || list_any (is_of t) ds)
      by true rest = ap (λ (x : Bool). is_of t d || x) rest
      by false rest = ap (λ (x : Bool). is_of t d || x) rest

  all_marked : (node : NodeValue) (server : ServerNo) (ds : List Delivery) → list_all (is_sound_delivery node server) (map (mark_stale peer) ds) ≡ list_all (is_sound_delivery node server) ds
  all_marked node server [] = refl
  all_marked node server (d ∷ ds) = by (d.from.0 == peer.0) (all_marked node server ds)
    where
      by : (b : Bool) → list_all (is_sound_delivery node server) (map (mark_stale peer) ds) ≡ list_all (is_sound_delivery node server) ds → (is_sound_delivery node server (if b then record d { stale = true } else d) && list_all (is_sound_delivery node server) (map (mark_stale peer) ds)) ≡ (is_sound_delivery node server d && list_all (is_sound_delivery node server) ds)
      by true rest = ap (λ (x : Bool). is_sound_delivery node server d && x) rest
      by false rest = ap (λ (x : Bool). is_sound_delivery node server d && x) rest

  waits_marked : (t : Tid) (queues : IpcValue) → ipc.waits t (ipc.mark_queues peer queues) ≡ ipc.waits t queues
  waits_marked t [] = refl
  waits_marked t (q ∷ queues) = rw (any_marked t q.1.waiting, waits_marked t queues) refl

  queues_marked : (node : NodeValue) (queues : IpcValue) → list_all (is_sound_queue node) (ipc.mark_queues peer queues) ≡ list_all (is_sound_queue node) queues
  queues_marked node [] = refl
  queues_marked node (q ∷ queues) = rw (all_marked node q.0 q.1.waiting, queues_marked node queues) refl

  pub marked_sound : (node : NodeValue) → is_sound node ≡ true → is_sound (record node { queues = ipc.mark_queues peer node.queues }) ≡ true
  marked_sound node sound = fewer_sound node (ipc.mark_queues peer node.queues) (λ t is. sym (waits_marked t node.queues) ∙ is) (queues_marked node node.queues ∙ (seen node sound).queues) sound

-- what was served of a transaction counts no more
module _ (tid : Tid) where
  waits_forgotten : (t : Tid) (queues : IpcValue) → ipc.waits t (ipc.forget tid queues) ≡ ipc.waits t queues
  waits_forgotten t [] = refl
  waits_forgotten t (q ∷ queues) = by (nat_lt q.0.0 ipc.servers) (waits_forgotten t queues)
    where
      by : (b : Bool) → ipc.waits t (ipc.forget tid queues) ≡ ipc.waits t queues → (waits_in t (if b then (q.0, Rattle.qs_ipc.specs.Queue.forgotten tid q.1) else q) || ipc.waits t (ipc.forget tid queues)) ≡ (waits_in t q || ipc.waits t queues)
      by true rest = ap (λ (x : Bool). waits_in t q || x) rest
      by false rest = ap (λ (x : Bool). waits_in t q || x) rest

  queues_forgotten : (node : NodeValue) (queues : IpcValue) → list_all (is_sound_queue node) (ipc.forget tid queues) ≡ list_all (is_sound_queue node) queues
  queues_forgotten node [] = refl
  queues_forgotten node (q ∷ queues) = by (nat_lt q.0.0 ipc.servers) (queues_forgotten node queues)
    where
      by : (b : Bool) → list_all (is_sound_queue node) (ipc.forget tid queues) ≡ list_all (is_sound_queue node) queues → (is_sound_queue node (if b then (q.0, Rattle.qs_ipc.specs.Queue.forgotten tid q.1) else q) && list_all (is_sound_queue node) (ipc.forget tid queues)) ≡ (is_sound_queue node q && list_all (is_sound_queue node) queues)
      by true rest = ap (λ (x : Bool). is_sound_queue node q && x) rest
      by false rest = ap (λ (x : Bool). is_sound_queue node q && x) rest

  pub forgotten_sound : (node : NodeValue) → is_sound node ≡ true → is_sound (record node { queues = ipc.forget tid node.queues }) ≡ true
  forgotten_sound node sound = fewer_sound node (ipc.forget tid node.queues) (λ t is. sym (waits_forgotten t node.queues) ∙ is) (queues_forgotten node node.queues ∙ (seen node sound).queues) sound
