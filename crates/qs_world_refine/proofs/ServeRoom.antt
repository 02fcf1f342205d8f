-- Where what waits can be counted, what is left can be counted once the first of it at a server was served, or dropped.
use Rattle.qs_world_refine.proofs.Words.{◌≡◌, ℕ, ◌+◌, ◌<◌, ◌≤◌, ◌==◌, Bool, true, false, List, ◌∷◌, drop, length, Option, Some, None, refl, sym, subst, ap, ◌∙◌, arith, if◌then◌else◌, slice_index_or, eqb-true, nat_tests, same_tid, ServerNo, Tid, last_number, IpcValue, queue_at, count_of, Delivery, Reply, no_member, member_of, MemberPart, Participant, reply_here, serve, serve_or_drop, serve_next, Work, part_of, with_queues, CanCount, server_no, same_Some}
use Rattle.qs_ipc.specs.Ipc as ipc
use Rattle.qs_tm.specs.Participant as participant
use Rattle.qs_node_step.specs.Serving.{may_serve}
use Rattle.qs_world_agree.specs.World.{with_at}
use Rattle.qs_world_refine.specs.NodeFaces.{waiting_at}
use Rattle.qs_world_refine.proofs.During.{Leaves}
use Rattle.qs_world_refine.proofs.Queues.{waits_next, waits_first}
use Rattle.qs_world_refine.proofs.Same.{tid_same}
use Rattle.qs_world_refine.proofs.ServeCounts.{KeepsCounts, served_other, served_here, serve_counts}
use Rattle.qs_world_refine.proofs.ServeFrames.{first_is, next_leaves}
use Rattle.qs_world_refine.proofs.SoundKnown.{same_is}

-- there is a place for each server
abbrev pub IsSized : Tid → Work → Type 0
IsSized tid work = (part : Participant) → part_of tid work ≡ Some part → length part.members ≡ 7

module _ (server : ServerNo) (d : Delivery) (work : Work) (next : ipc.next server work.node.queues ≡ Some d) where
  abbrev left : Work
  left = with_queues (ipc.after_next server) work

  pub turn_is : serve_next work server ≡ serve_or_drop server d left
  turn_is = ap (λ (o : Option Delivery). elim o [ None ↦ work | Some d ↦ serve_or_drop server d (with_queues (ipc.after_next server) work) ]) next

  pub waits_here : (queue_at work.node.queues (server_no server.0)).waiting ≡ d ∷ drop 1 (queue_at work.node.queues server).waiting
  waits_here = first_is (queue_at work.node.queues server).waiting d next

  -- of its own transaction one less waits there
  pub same_waits : (r : ℕ) → waiting_at left.node d.tid r ≡ with_at (λ k. waiting_at work.node d.tid k) server.0 (count_of d.tid (drop 1 (queue_at work.node.queues server).waiting)) r
  same_waits r = waits_next d.tid server.0 r d (drop 1 (queue_at work.node.queues server).waiting) work.node.queues waits_here

  pub one_more : waiting_at work.node d.tid server.0 ≡ count_of d.tid (drop 1 (queue_at work.node.queues server).waiting) + 1
  one_more = waits_first d.tid server.0 server.0 d (drop 1 (queue_at work.node.queues server).waiting) work.node.queues waits_here (tid_same d.tid)

  -- ---- of another transaction

  other_counts : (t : Tid) → same_tid t d.tid ≡ false → CanCount t work → CanCount t (serve_next work server)
  other_counts t apart can part s known below waits = subst (λ (k : ℕ). (member_of part (server_no s)).served + k ≤ last_number) (sym (leaves.node.around.waits s)) (can part s (sym leaves.node.part ∙ known) below (subst (λ (k : ℕ). 1 ≤ k) (leaves.node.around.waits s) waits))
    where
      leaves : Leaves t work (serve_next work server)
      leaves = subst (λ (k : Work). Leaves t work k) (sym turn_is) (next_leaves t server d apart work next)

  -- ---- of its own: it is dropped

  module _ (can : CanCount d.tid work) where
    dropped_counts : CanCount d.tid left
    dropped_counts p s known below waits = rw (same_waits s) (by p s (s == server.0) refl (can p s known below) (rw (same_waits s) at waits))
      where
        by : (p : Participant) (s : ℕ) (b : Bool) → (s == server.0) ≡ b → (1 ≤ waiting_at work.node d.tid s → (member_of p (server_no s)).served + waiting_at work.node d.tid s ≤ last_number)
            → 1 ≤ (if b then count_of d.tid (drop 1 (queue_at work.node.queues server).waiting) else waiting_at work.node d.tid s)
            → (member_of p (server_no s)).served + (if b then count_of d.tid (drop 1 (queue_at work.node.queues server).waiting) else waiting_at work.node d.tid s) ≤ last_number
        by p s true same counted waits = less ((member_of p (server_no s)).served) (waiting_at work.node d.tid s) (count_of d.tid (drop 1 (queue_at work.node.queues server).waiting)) (ap (λ (k : ℕ). waiting_at work.node d.tid k) (eqb-true s server.0 same) ∙ one_more) counted
          where
            less : (a b c : ℕ) → b ≡ c + 1 → (1 ≤ b → a + b ≤ last_number) → a + c ≤ last_number
            less a b c e f = let g = f (omega (arith, e)) in omega (arith, e, g)
        by p s false other counted waits = counted waits

    -- or served: the request that comes next is one that waits

    module _ (part : Participant) (known : part_of d.tid work ≡ Some part) where
      pub here_counted : server.0 < 7 → (member_of part (server_no server.0)).served + waiting_at work.node d.tid server.0 ≤ last_number
      here_counted below = can part server.0 known below (some (waiting_at work.node d.tid server.0) (count_of d.tid (drop 1 (queue_at work.node.queues server).waiting)) one_more)
        where
          some : (a b : ℕ) → a ≡ b + 1 → 1 ≤ a
          some a b e = omega (arith, e)

      pub unfull : server.0 < 7 → ((member_of part (server_no server.0)).served == last_number) ≡ false
      unfull below = not_last (member_of part (server_no server.0)).served (waiting_at work.node d.tid server.0) (count_of d.tid (drop 1 (queue_at work.node.queues server).waiting)) one_more (here_counted below)
        where
          not_last : (a b c : ℕ) → b ≡ c + 1 → a + b ≤ last_number → (a == last_number) ≡ false
          not_last a b c e f = grind (arith, nat_tests, e, f)

      served_counts : (reply : Reply) → length part.members ≡ 7 → CanCount d.tid (serve server d reply left)
      served_counts reply sized p s its_part below waits = subst (λ (q : Participant). (member_of q (server_no s)).served + waiting_at (serve server d reply left).node d.tid s ≤ last_number) (same_Some counts.next p (sym counts.known ∙ its_part)) (counted s below waits)
        where
          counts : KeepsCounts d.tid left (serve server d reply left) (participant.served server part)
          counts = serve_counts server d reply left part known

          waits_now : (s : ℕ) → waiting_at (serve server d reply left).node d.tid s ≡ with_at (λ k. waiting_at work.node d.tid k) server.0 (count_of d.tid (drop 1 (queue_at work.node.queues server).waiting)) s
          waits_now s = ap (λ (queues : IpcValue). count_of d.tid (queue_at queues (server_no s)).waiting) counts.queues ∙ same_waits s

          served_now : (s : ℕ) → (member_of counts.next (server_no s)).served ≡ (member_of (participant.served server part) (server_no s)).served
          served_now s = ap (λ (list : List MemberPart). (slice_index_or list s no_member).served) counts.members

          counted : (s : ℕ) → s < 7 → 1 ≤ waiting_at (serve server d reply left).node d.tid s → (member_of counts.next (server_no s)).served + waiting_at (serve server d reply left).node d.tid s ≤ last_number
          counted s below waits = rw (served_now s, waits_now s) (by (s == server.0) refl (rw (waits_now s) at waits))
            where
              by : (b : Bool) → (s == server.0) ≡ b → 1 ≤ (if b then count_of d.tid (drop 1 (queue_at work.node.queues server).waiting) else waiting_at work.node d.tid s)
                  → (member_of (participant.served server part) (server_no s)).served + (if b then count_of d.tid (drop 1 (queue_at work.node.queues server).waiting) else waiting_at work.node d.tid s) ≤ last_number
              by true same more = at s (eqb-true s server.0 same) below
                where
                  room : (a b c e : ℕ) → b ≡ c + 1 → e ≡ a + 1 → a + b ≤ last_number → e + c ≤ last_number
                  room a b c e f g h = omega (arith, f, g, h)

                  at : (k : ℕ) → k ≡ server.0 → k < 7 → (member_of (participant.served server part) (server_no k)).served + count_of d.tid (drop 1 (queue_at work.node.queues server).waiting) ≤ last_number
                  at k here under = subst (λ (j : ℕ). (member_of (participant.served server part) (server_no j)).served + count_of d.tid (drop 1 (queue_at work.node.queues server).waiting) ≤ last_number) (sym here)
                      (room (member_of part (server_no server.0)).served (waiting_at work.node d.tid server.0) (count_of d.tid (drop 1 (queue_at work.node.queues server).waiting)) (member_of (participant.served server part) (server_no server.0)).served one_more
                      (served_here server part (subst (λ (j : ℕ). server.0 < j) (sym sized) (subst (λ (j : ℕ). j < 7) here under)) (unfull (subst (λ (j : ℕ). j < 7) here under)))
                      (here_counted (subst (λ (j : ℕ). j < 7) here under)))
              by false other more = subst (λ (m : MemberPart). m.served + waiting_at work.node d.tid s ≤ last_number) (sym (served_other server part s (λ same. grind (arith, nat_tests, other, same)))) (can part s known below more)

    own_counts : IsSized d.tid work → CanCount d.tid (serve_next work server)
    own_counts sized = subst (λ (k : Work). CanCount d.tid k) (sym turn_is) (of (part_of d.tid work) refl)
      where
        turned : (b : Bool) (o : Option Reply) → ((reply : Reply) → CanCount d.tid (serve server d reply left)) → CanCount d.tid (if b then elim o [ None ↦ left | Some reply ↦ serve server d reply left ] else left)
        turned false o serves = dropped_counts
        turned true None serves = dropped_counts
        turned true (Some reply) serves = serves reply

        -- nothing is served of what is not known
        off : part_of d.tid work ≡ None → may_serve d.tid left ≡ false
        off none = ap (λ (o : Option Participant). elim o [ None ↦ false | Some p ↦ participant.is_undecided p ]) none

        of : (o : Option Participant) → part_of d.tid work ≡ o → CanCount d.tid (serve_or_drop server d left)
        of None none = subst (λ (b : Bool). CanCount d.tid (if b then elim (reply_here server d.tid d.op left.node) [ None ↦ left | Some reply ↦ serve server d reply left ] else left)) (sym (off none)) dropped_counts
        of (Some part) known = turned (may_serve d.tid left) (reply_here server d.tid d.op left.node) (λ reply. served_counts part known reply (sized part known))

-- whatever comes next there
pub next_counts : (t : Tid) (work : Work) (server : ServerNo) → IsSized t work → CanCount t work → CanCount t (serve_next work server)
next_counts t work server sized can = by (ipc.next server work.node.queues) refl
  where
    picked : (d : Delivery) → ipc.next server work.node.queues ≡ Some d → (b : Bool) → same_tid t d.tid ≡ b → CanCount t (serve_next work server)
    picked d next true same = subst (λ (k : Tid). IsSized k work → CanCount k work → CanCount k (serve_next work server)) (sym (same_is t d.tid same)) (λ size own. own_counts server d work next own size) sized can
    picked d next false apart = other_counts server d work next t apart can

    by : (o : Option Delivery) → ipc.next server work.node.queues ≡ o → CanCount t (serve_next work server)
    by None none = subst (λ (k : Work). CanCount t k) (sym (ap (λ (o : Option Delivery). elim o [ None ↦ work | Some d ↦ serve_or_drop server d (with_queues (ipc.after_next server) work) ]) none)) can
    by (Some d) next = picked d next (same_tid t d.tid) refl
