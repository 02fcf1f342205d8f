-- Where what waits may be served, the requests of each transaction that wait can be counted.
use Rattle.qs_world_refine.proofs.Words.{◌≡◌, ℕ, ◌+◌, ◌≤◌, Bool, true, false, List, [], ◌∷◌, Some, None, refl, sym, ap, subst, arith, nat_le, if◌then◌else◌, list_all, is_at, nat_tests, same_tid, ServerNo, Tid, last_number, IpcValue, queue_at, server_cmp, QueueValue, count_of, Delivery, member_of, Participant, NodeValue, work_on, Queues, CanCount, server_no}
use Rattle.qs_tm.specs.Manager as tm
use Rattle.qs_node_step.specs.Counted.{is_counted, are_counted}
use Rattle.qs_world.specs.Moves.{may_serve}
use Rattle.qs_world_refine.proofs.SoundKnown.{same_is}
use Rattle.qs_world_refine.proofs.SoundParts.{and_both}

module _ (node : NodeValue) (t : Tid) (part : Participant) (known : tm.part_of t node.manager ≡ Some part) where
  -- in a queue where a request of the transaction waits
  in_queue : (queue : ServerNo × QueueValue) (waiting : List Delivery) → list_all (is_counted node queue) waiting ≡ true → 1 ≤ count_of t waiting → (member_of part queue.0).served + count_of t queue.1.waiting ≤ last_number
  in_queue queue [] all some = omega (arith, some)
  in_queue queue (d ∷ rest) all some = by (same_tid t d.tid) refl (in_queue queue rest) some
    where
      both : (is_counted node queue d ≡ true) × (list_all (is_counted node queue) rest ≡ true)
      both = and_both (is_counted node queue d) (list_all (is_counted node queue) rest) all

      its : same_tid t d.tid ≡ true → nat_le ((member_of part queue.0).served + count_of t queue.1.waiting) last_number ≡ true
      its same = at d.tid (same_is t d.tid same) both.0
        where
          at : (u : Tid) → t ≡ u → elim (tm.part_of u node.manager) [ None ↦ true | Some part ↦ nat_le ((member_of part queue.0).served + count_of u queue.1.waiting) last_number ] ≡ true
              → nat_le ((member_of part queue.0).served + count_of t queue.1.waiting) last_number ≡ true
          at u is counted = of t (subst (λ (k : Tid). elim (tm.part_of k node.manager) [ None ↦ true | Some part ↦ nat_le ((member_of part queue.0).served + count_of k queue.1.waiting) last_number ] ≡ true) (sym is) counted)
            where
              of : (k : Tid) → elim (tm.part_of t node.manager) [ None ↦ true | Some part ↦ nat_le ((member_of part queue.0).served + count_of t queue.1.waiting) last_number ] ≡ true → nat_le ((member_of part queue.0).served + count_of t queue.1.waiting) last_number ≡ true
              of k it = rw known at it

      by : (b : Bool) → same_tid t d.tid ≡ b → (list_all (is_counted node queue) rest ≡ true → 1 ≤ count_of t rest → (member_of part queue.0).served + count_of t queue.1.waiting ≤ last_number) → 1 ≤ (if b then count_of t rest + 1 else count_of t rest) → (member_of part queue.0).served + count_of t queue.1.waiting ≤ last_number
      by true same again more = let it = its same in grind (arith, nat_tests, it)
      by false other again more = again both.1 more

  in_queues : (s : ℕ) (queues : IpcValue) → list_all (are_counted node) queues ≡ true → 1 ≤ count_of t (queue_at queues (server_no s)).waiting
      → (member_of part (server_no s)).served + count_of t (queue_at queues (server_no s)).waiting ≤ last_number
  in_queues s [] all some = omega (arith, some)
  in_queues s (e ∷ es) all some = by (is_at (server_cmp (server_no s)) e.0) refl (in_queues s es)
    where
      both : (are_counted node e ≡ true) × (list_all (are_counted node) es ≡ true)
      both = and_both (are_counted node e) (list_all (are_counted node) es) all

      key : is_at (server_cmp (server_no s)) e.0 ≡ true → e.0 ≡ server_no s
      key is = ap server_no (number is)
        where
          number : is_at (server_cmp (server_no s)) e.0 ≡ true → e.0.0 ≡ s
          number is = grind (arith, nat_tests, is)

      Counts : QueueValue → Type 0
      Counts queue = 1 ≤ count_of t queue.waiting → (member_of part (server_no s)).served + count_of t queue.waiting ≤ last_number

      by : (b : Bool) → is_at (server_cmp (server_no s)) e.0 ≡ b → (list_all (are_counted node) es ≡ true → Counts (queue_at es (server_no s))) → (member_of part (server_no s)).served + count_of t (queue_at (e ∷ es) (server_no s)).waiting ≤ last_number
      by true is more = picked is (λ waits. subst (λ (k : ServerNo). (member_of part k).served + count_of t e.1.waiting ≤ last_number) (key is) (in_queue e e.1.waiting both.0 waits)) some
        where
          picked : is_at (server_cmp (server_no s)) e.0 ≡ true → Counts e.1 → Counts (queue_at (e ∷ es) (server_no s))
          picked is its = rw is its
      by false is more = picked is (more both.1) some
        where
          picked : is_at (server_cmp (server_no s)) e.0 ≡ false → Counts (queue_at es (server_no s)) → Counts (queue_at (e ∷ es) (server_no s))
          picked is its = rw is its

pub can_count : (t : Tid) (node : NodeValue) (free : ℕ) → may_serve node Queues ≡ true → CanCount t (work_on node free)
can_count t node free serves part s known below waits = in_queues node t part known s node.queues serves waits
