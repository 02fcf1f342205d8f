-- At the only node of a run all that waits can be counted, since what it has served and what waits there stays within the numbers that were given.
use Rattle.qs_world_runs.proofs.Words.{◌≡◌, ◌⊎◌, inl, inr, ℕ, ◌+◌, ◌<◌, ◌≤◌, ◌==◌, not, arith, nat_le, Bool, true, false, List, [], ◌∷◌, Option, Some, None, refl, subst, if◌then◌else◌, le_refl, and_parts, and_from, nat_tests, is_at, list_all, same_tid-self, ServerNo, Tid, last_number, IpcValue, queue_at, server_cmp, QueueValue, Delivery, member_of, Participant, Clock, Commanded, Handed, Noticed}
use Rattle.qs_world_runs.proofs.Words.{Queues, Opening, World, server_no, steady_gives, AreTallied, IsBare, IsTallied, NoneBesides, given_in, tally_of, waits_in, some_not_zero}
use Rattle.std.proofs.lemmas.Bool.{le-leb}
use Rattle.qs_ipc.specs.Queue.{count_of, is_of}
use Rattle.qs_node_step.specs.Counted.{are_counted, is_counted}
use Rattle.qs_node_step.specs.State.{NodeValue}
use Rattle.qs_tm.specs.Manager as tm
use Rattle.qs_world.specs.Moves.{may_serve}
use Rattle.qs_world_refine.specs.Steady.{are_queues_apart, is_other_server}
use Rattle.qs_world_runs.specs.Counted.{CountedAt, EachCountsAlone, served_in}

none_of : (tid : Tid) (queues : IpcValue) (server : ServerNo) → list_all (is_other_server server) queues ≡ true → count_of tid (queue_at queues server).waiting ≡ 0
none_of tid [] server others = refl
none_of tid (e ∷ es) server others = by (is_at (server_cmp server) e.0) refl (none_of tid es server parts.1)
  where
    parts : (is_other_server server e ≡ true) × (list_all (is_other_server server) es ≡ true)
    parts = and_parts (is_other_server server e) (list_all (is_other_server server) es) others

    by : (b : Bool) → is_at (server_cmp server) e.0 ≡ b → count_of tid (queue_at es server).waiting ≡ 0 → count_of tid (queue_at (e ∷ es) server).waiting ≡ 0
    by true is more = absurd (let far = parts.0 in let far_is : not (e.0.0 == server.0) ≡ true = far in never e.0.0 server.0 is far_is)
      where
        never : (a b : ℕ) → is_at (server_cmp (server_no b)) (server_no a) ≡ true → not (a == b) ≡ true → ⊥
        never a b is far = grind (arith, nat_tests, is, far)
    by false is more = rw is more

module _ (node : NodeValue) where
  -- where a request waits, all of its transaction there can be counted
  abbrev Counts : IpcValue → Type 0
  Counts queues = (tid : Tid) (part : Participant) (s : ℕ) → tm.part_of tid node.manager ≡ Some part → 1 ≤ count_of tid (queue_at queues (server_no s)).waiting → (member_of part (server_no s)).served + count_of tid (queue_at queues (server_no s)).waiting ≤ last_number

  one_counted : (server : ServerNo) (queue : QueueValue) → ((tid : Tid) (part : Participant) → tm.part_of tid node.manager ≡ Some part → 1 ≤ count_of tid queue.waiting → (member_of part server).served + count_of tid queue.waiting ≤ last_number)
      → (waiting : List Delivery) → ((tid : Tid) → count_of tid waiting ≤ count_of tid queue.waiting) → list_all (is_counted node (server, queue)) waiting ≡ true
  one_counted server queue counts [] less = refl
  one_counted server queue counts (d ∷ rest) less = and_from (is_counted node (server, queue) d) (list_all (is_counted node (server, queue)) rest) (by (tm.part_of d.tid node.manager) refl) (one_counted server queue counts rest (λ tid. later tid))
    where
      later : (tid : Tid) → count_of tid rest ≤ count_of tid queue.waiting
      later tid = at (is_of tid d) refl (less tid)
        where
          at : (b : Bool) → is_of tid d ≡ b → (if b then count_of tid rest + 1 else count_of tid rest) ≤ count_of tid queue.waiting → count_of tid rest ≤ count_of tid queue.waiting
          at true is more = omega (arith, more)
          at false is more = more

      some : 1 ≤ count_of d.tid queue.waiting
      some = at (is_of d.tid d) (same_tid-self d.tid) (less d.tid)
        where
          at : (b : Bool) → b ≡ true → (if b then count_of d.tid rest + 1 else count_of d.tid rest) ≤ count_of d.tid queue.waiting → 1 ≤ count_of d.tid queue.waiting
          at true is more = omega (arith, more)
          at false is more = absurd (cc is)

      by : (o : Option Participant) → tm.part_of d.tid node.manager ≡ o → elim o [ None ↦ true | Some part ↦ nat_le ((member_of part server).served + count_of d.tid queue.waiting) last_number ] ≡ true
      by None none = refl
      by (Some part) known = le-leb ((member_of part server).served + count_of d.tid queue.waiting) last_number (counts d.tid part known some)

  all_counted : (queues : IpcValue) → are_queues_apart queues ≡ true → Counts queues → list_all (are_counted node) queues ≡ true
  all_counted [] apart counts = refl
  all_counted (e ∷ es) apart counts = and_from (are_counted node e) (list_all (are_counted node) es) (one_counted e.0 e.1 first e.1.waiting (λ tid. le_refl (count_of tid e.1.waiting))) (all_counted es parts.1 rest)
    where
      parts : (list_all (is_other_server e.0) es ≡ true) × (are_queues_apart es ≡ true)
      parts = and_parts (list_all (is_other_server e.0) es) (are_queues_apart es) apart

      itself : is_at (server_cmp e.0) e.0 ≡ true
      itself = at e.0.0
        where
          at : (n : ℕ) → is_at (server_cmp (server_no n)) (server_no n) ≡ true
          at n = grind (arith, nat_tests)

      first : (tid : Tid) (part : Participant) → tm.part_of tid node.manager ≡ Some part → 1 ≤ count_of tid e.1.waiting → (member_of part e.0).served + count_of tid e.1.waiting ≤ last_number
      first tid part known = subst (λ (q : QueueValue). 1 ≤ count_of tid q.waiting → (member_of part e.0).served + count_of tid q.waiting ≤ last_number) head (counts tid part e.0.0 known)
        where
          head : queue_at (e ∷ es) e.0 ≡ e.1
          head = rw itself refl

      rest : Counts es
      rest tid part s known some = by (is_at (server_cmp (server_no s)) e.0) refl
        where
          by : (b : Bool) → is_at (server_cmp (server_no s)) e.0 ≡ b → (member_of part (server_no s)).served + count_of tid (queue_at es (server_no s)).waiting ≤ last_number
          by true is = absurd (some_not_zero (count_of tid (queue_at es (server_no s)).waiting) some (none_of tid es (server_no s) (subst (λ (k : ℕ). list_all (is_other_server (server_no k)) es ≡ true) (number e.0.0 s is) parts.0)))
            where
              number : (a b : ℕ) → is_at (server_cmp (server_no b)) (server_no a) ≡ true → a ≡ b
              number a b is = grind (arith, nat_tests, is)
          by false is = subst (λ (q : QueueValue). 1 ≤ count_of tid q.waiting → (member_of part (server_no s)).served + count_of tid q.waiting ≤ last_number) tail (counts tid part s known) some
            where
              tail : queue_at (e ∷ es) (server_no s) ≡ queue_at es (server_no s)
              tail = rw is refl

  may_serve_all : are_queues_apart node.queues ≡ true → AreTallied NoneBesides (tally_of node) → may_serve node Queues ≡ true
  may_serve_all apart h = all_counted node.queues apart (λ tid part s known some. by tid part s known some (h.each tid))
    where
      by : (tid : Tid) (part : Participant) (s : ℕ) → tm.part_of tid node.manager ≡ Some part → 1 ≤ waits_in tid node.queues s → IsTallied tid (tally_of node) ⊎ IsBare tid (tally_of node) → (member_of part (server_no s)).served + waits_in tid node.queues s ≤ last_number
      by tid part s known some (inl it) = most ((member_of part (server_no s)).served + waits_in tid node.queues s) (given_in tid node.locals) (subst (λ (o : Option Participant). served_in o s + waits_in tid node.queues s ≤ given_in tid node.locals) known (it.numbers s)) (h.given tid)
        where
          most : (a b : ℕ) → a ≤ b → b ≤ last_number → a ≤ last_number
          most a b p q = omega (arith, p, q)
      by tid part s known some (inr bare) = absurd (some_not_zero (waits_in tid node.queues s) some (bare.waits s))

one_low : (size : ℕ) → size ≡ 1 → 0 < size
one_low size one = omega (arith, one)

pub counts_alone : (P : Opening → World → Type 0) → ((o : Opening) (world : World) → P o world → CountedAt o world) → EachCountsAlone P
counts_alone P of o world j one up Queues = may_serve_all (world.hosts 0).node ((steady_gives world j.shown.steady j.shown.listed).nodes 0 (one_low world.size one) up).queues (of o world j.places one up)
counts_alone P of o world j one up (Commanded k) = refl
counts_alone P of o world j one up (Handed m) = refl
counts_alone P of o world j one up Clock = refl
counts_alone P of o world j one up (Noticed m new) = refl
