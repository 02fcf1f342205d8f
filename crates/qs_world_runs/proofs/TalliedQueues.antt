-- What is issued to a server of the node itself, what leaves its queue and is served, and what is lent, stays within the numbers that were given.
use Rattle.qs_world_runs.proofs.Words.{◌≡◌, ◌⊎◌, inl, inr, ℕ, ◌+◌, ◌≤◌, ◌==◌, ◌||◌, arith, Bool, true, false, List, ◌∷◌, drop, Option, Some, None, refl, sym, ap, subst, ◌∙◌, if◌then◌else◌, le_refl, eqb-true, nat_tests, insert_entry, is_at, unwrap_or, Equal, same_tid, tid_cmp, same_tid-self, tid_exact, ServerNo, Tid, last_number, IpcValue, queue_at, Delivery, class_here, is_told_class, member_of, with_member, MemberPart, Participant, server_no, same_or_apart, part_changed, part_unknown}
use Rattle.qs_world_runs.proofs.Words.{each_changed, AreTallied, IsBare, IsTallied, Tally, given_in, waits_in, le_next}
use Rattle.qs_ipc.specs.Ipc as ipc
use Rattle.qs_ipc.specs.Queue.{count_of}
use Rattle.qs_tm.specs.Manager as tm
use Rattle.qs_tm.specs.Participant as participant
use Rattle.qs_world_agree.specs.World.{with_at}
use Rattle.qs_world_refine.proofs.Maps.{lookup_put, lookup_put_apart}
use Rattle.qs_world_refine.proofs.Queues.{waits_first, waits_next, waits_next_other, waits_other, waits_put}
use Rattle.qs_world_refine.proofs.ServeFrames.{first_is}
use Rattle.qs_world_lawful.proofs.Apart.{Apart}
use Rattle.qs_world_lawful.proofs.Faces.{part_apart}
use Rattle.qs_world_lawful.proofs.FactsQuiet.{served_quiet}
use Rattle.qs_world_lawful.proofs.Marks.{changed_rises}
use Rattle.qs_world_runs.specs.Counted.{served_in}
use Rattle.qs_world_runs.proofs.StoreStages.{served_unasked}
use Rattle.qs_world_runs.proofs.TalliedParts.{less_tallied, member_apart, member_set}

-- ---- numbers that were given

given_here : (tid : Tid) (number : ℕ) (locals : List (Tid × ℕ)) → given_in tid (insert_entry tid_cmp locals tid number) ≡ number
given_here tid number locals = ap (λ (o : Option ℕ). unwrap_or o 0) (lookup_put tid_cmp tid number (itself tid) locals)
  where
    itself : (k : Tid) → tid_cmp k k ≡ Equal
    itself k = grind (arith, nat_tests)

given_apart : (tid k : Tid) (number : ℕ) (locals : List (Tid × ℕ)) → Apart tid k → given_in k (insert_entry tid_cmp locals tid number) ≡ given_in k locals
given_apart tid k number locals far = ap (λ (o : Option ℕ). unwrap_or o 0) (lookup_put_apart tid_cmp tid number (tid_exact tid) (is_at (tid_cmp k)) far.at locals)

module _ (W : Tid → Type 0) where
  -- ---- a request is issued, of a transaction of which as many numbers were given as are used: it has the next number

  module _ (tid : Tid) (t : Tally) (was : IsTallied tid t) (room : given_in tid t.locals + 1 ≤ last_number) (h : AreTallied W t) where
    abbrev pub numbered : List (Tid × ℕ)
    numbered = insert_entry tid_cmp t.locals tid (given_in tid t.locals + 1)

    -- whether it waits or is refused
    issued_tallied : (queues : IpcValue) → ((s : ℕ) → waits_in tid queues s ≤ waits_in tid t.queues s + 1) → ((k : Tid) → Apart tid k → (s : ℕ) → waits_in k queues s ≡ waits_in k t.queues s) → AreTallied W (record t { queues = queues; locals = numbered })
    issued_tallied queues more same = record {
      in_inc = h.in_inc;
      rising = h.rising;
      each = λ k. by k (same_or_apart tid k);
      runs = λ k p known home runs. other k (same_or_apart tid k) (h.runs k p known home runs);
      asked = h.asked;
      given = λ k. fits k (same_or_apart tid k);
      besides = λ k w. other k (same_or_apart tid k) (h.besides k w);
    }
      where
        new : Tally
        new = record t { queues = queues; locals = numbered }

        own : IsTallied tid new
        own = record {
          began = was.began;
          numbers = λ s. subst (λ (n : ℕ). served_in (tm.part_of tid t.manager) s + waits_in tid queues s ≤ n) (sym (given_here tid (given_in tid t.locals + 1) t.locals))
              (less (served_in (tm.part_of tid t.manager) s) (waits_in tid t.queues s) (waits_in tid queues s) (given_in tid t.locals) (was.numbers s) (more s));
        }
          where
            less : (a b c d : ℕ) → a + b ≤ d → c ≤ b + 1 → a + c ≤ d + 1
            less a b c d p q = omega (arith, p, q)

        far_on : (k : Tid) → Apart tid k → IsTallied k t → IsTallied k new
        far_on k far it = less_tallied k t new refl it (λ s. le_refl (served_in (tm.part_of k t.manager) s)) (λ s. subst (λ (n : ℕ). n ≤ waits_in k t.queues s) (sym (same k far s)) (le_refl (waits_in k t.queues s)))
            (subst (λ (n : ℕ). given_in k t.locals ≤ n) (sym (given_apart tid k (given_in tid t.locals + 1) t.locals far)) (le_refl (given_in k t.locals)))

        other : (k : Tid) → (tid ≡ k) ⊎ Apart tid k → IsTallied k t → IsTallied k new
        other k (inl e) it = subst (λ (x : Tid). IsTallied x new) e own
        other k (inr far) it = far_on k far it

        by : (k : Tid) → (tid ≡ k) ⊎ Apart tid k → IsTallied k new ⊎ IsBare k new
        by k (inl e) = inl (subst (λ (x : Tid). IsTallied x new) e own)
        by k (inr far) = at (h.each k)
          where
            at : IsTallied k t ⊎ IsBare k t → IsTallied k new ⊎ IsBare k new
            at (inl it) = inl (far_on k far it)
            at (inr bare) = inr (record { waits = λ s. same k far s ∙ bare.waits s; lent = bare.lent; none = given_apart tid k (given_in tid t.locals + 1) t.locals far ∙ bare.none })

        fits : (k : Tid) → (tid ≡ k) ⊎ Apart tid k → given_in k numbered ≤ last_number
        fits k (inl e) = subst (λ (x : Tid). given_in x numbered ≤ last_number) e (subst (λ (n : ℕ). n ≤ last_number) (sym (given_here tid (given_in tid t.locals + 1) t.locals)) room)
        fits k (inr far) = subst (λ (n : ℕ). n ≤ last_number) (sym (given_apart tid k (given_in tid t.locals + 1) t.locals far)) (h.given k)

    pub enqueued_tallied : (server : ServerNo) (d : Delivery) → d.tid ≡ tid → AreTallied W (record t { queues = ipc.enqueue server d t.queues; locals = numbered })
    enqueued_tallied server d its = issued_tallied (ipc.enqueue server d t.queues) one (λ k far s. waits_other k server.0 s d t.queues (subst (λ (x : Tid). same_tid k x ≡ false) (sym its) far.of))
      where
        put : (s : ℕ) → waits_in tid (ipc.enqueue server d t.queues) s ≡ with_at (waits_in tid t.queues) server.0 (waits_in tid t.queues server.0 + 1) s
        put s = waits_put tid server.0 s d t.queues (subst (λ (x : Tid). same_tid tid x ≡ true) (sym its) (same_tid-self tid))

        one : (s : ℕ) → waits_in tid (ipc.enqueue server d t.queues) s ≤ waits_in tid t.queues s + 1
        one s = subst (λ (n : ℕ). n ≤ waits_in tid t.queues s + 1) (sym (put s)) (by (s == server.0) refl)
          where
            by : (b : Bool) → (s == server.0) ≡ b → (if b then waits_in tid t.queues server.0 + 1 else waits_in tid t.queues s) ≤ waits_in tid t.queues s + 1
            by true is = subst (λ (k : ℕ). waits_in tid t.queues server.0 + 1 ≤ waits_in tid t.queues k + 1) (sym (eqb-true s server.0 is)) (le_refl (waits_in tid t.queues server.0 + 1))
            by false is = le_next (waits_in tid t.queues s)

    pub refused_tallied : AreTallied W (record t { locals = numbered })
    refused_tallied = issued_tallied t.queues (λ s. le_next (waits_in tid t.queues s)) (λ k far s. refl)

  -- ---- the first request that waits leaves its queue

  module _ (server : ServerNo) (d : Delivery) (t : Tally) (next : ipc.next server t.queues ≡ Some d) (h : AreTallied W t) where
    abbrev pub behind : List Delivery
    behind = drop 1 (queue_at t.queues server).waiting

    here : (queue_at t.queues (server_no server.0)).waiting ≡ d ∷ behind
    here = first_is (queue_at t.queues server).waiting d next

    abbrev pub left : Tally
    left = record t { queues = ipc.after_next server t.queues }

    one_more : waits_in d.tid t.queues server.0 ≡ count_of d.tid behind + 1
    one_more = waits_first d.tid server.0 server.0 d behind t.queues here (same_tid-self d.tid)

    now : (s : ℕ) → waits_in d.tid left.queues s ≡ with_at (waits_in d.tid t.queues) server.0 (count_of d.tid behind) s
    now s = waits_next d.tid server.0 s d behind t.queues here

    far_waits : (k : Tid) → Apart d.tid k → (s : ℕ) → waits_in k left.queues s ≡ waits_in k t.queues s
    far_waits k far s = waits_next_other k server.0 s d behind t.queues here far.of

    fewer : (s : ℕ) → waits_in d.tid left.queues s ≤ waits_in d.tid t.queues s
    fewer s = subst (λ (n : ℕ). n ≤ waits_in d.tid t.queues s) (sym (now s)) (by (s == server.0) refl)
      where
        by : (b : Bool) → (s == server.0) ≡ b → (if b then count_of d.tid behind else waits_in d.tid t.queues s) ≤ waits_in d.tid t.queues s
        by true is = subst (λ (k : ℕ). count_of d.tid behind ≤ waits_in d.tid t.queues k) (sym (eqb-true s server.0 is)) (less (waits_in d.tid t.queues server.0) (count_of d.tid behind) one_more)
          where
            less : (a b : ℕ) → a ≡ b + 1 → b ≤ a
            less a b e = omega (arith, e)
        by false is = le_refl (waits_in d.tid t.queues s)

    any_fewer : (k : Tid) (s : ℕ) → (d.tid ≡ k) ⊎ Apart d.tid k → waits_in k left.queues s ≤ waits_in k t.queues s
    any_fewer k s (inl e) = subst (λ (x : Tid). waits_in x left.queues s ≤ waits_in x t.queues s) e (fewer s)
    any_fewer k s (inr far) = subst (λ (n : ℕ). n ≤ waits_in k t.queues s) (sym (far_waits k far s)) (le_refl (waits_in k t.queues s))

    none_left : (a b : ℕ) → a ≤ b → b ≡ 0 → a ≡ 0
    none_left a b p q = omega (arith, p, q)

    -- and is dropped
    pub left_tallied : AreTallied W left
    left_tallied = record {
      in_inc = h.in_inc;
      rising = h.rising;
      each = λ k. by k (h.each k);
      runs = λ k p known home runs. on k (h.runs k p known home runs);
      asked = h.asked;
      given = h.given;
      besides = λ k w. on k (h.besides k w);
    }
      where
        on : (k : Tid) → IsTallied k t → IsTallied k left
        on k it = less_tallied k t left refl it (λ s. le_refl (served_in (tm.part_of k t.manager) s)) (λ s. any_fewer k s (same_or_apart d.tid k)) (le_refl (given_in k t.locals))

        by : (k : Tid) → IsTallied k t ⊎ IsBare k t → IsTallied k left ⊎ IsBare k left
        by k (inl it) = inl (on k it)
        by k (inr bare) = inr (record { waits = λ s. none_left (waits_in k left.queues s) (waits_in k t.queues s) (any_fewer k s (same_or_apart d.tid k)) (bare.waits s); lent = bare.lent; none = bare.none })

    -- or is served: what waits had numbers

    abbrev pub served_now : Tally
    served_now = record left { manager = tm.served d.tid server t.manager }

    stood : IsTallied d.tid t
    stood = by (h.each d.tid)
      where
        by : IsTallied d.tid t ⊎ IsBare d.tid t → IsTallied d.tid t
        by (inl it) = it
        by (inr bare) = absurd (never (waits_in d.tid t.queues server.0) (count_of d.tid behind) one_more (bare.waits server.0))
          where
            never : (a b : ℕ) → a ≡ b + 1 → a ≡ 0 → ⊥
            never a b p q = omega (arith, p, q)

    once_more : (p : Participant) (s : ℕ) (b : Bool) → (s == server.0) ≡ b → (member_of (participant.served server p) (server_no s)).served ≤ (member_of p (server_no s)).served + (if b then 1 else 0)
    once_more p s b is = at ((member_of p server).served == last_number) b is
      where
        counted : MemberPart
        counted = record (member_of p server) { served = (member_of p server).served + 1; fresh = true }

        at : (full c : Bool) → (s == server.0) ≡ c
            → (member_of (if full then p else record (with_member server counted p) { involved = p.involved || is_told_class (class_here server) }) (server_no s)).served ≤ (member_of p (server_no s)).served + (if c then 1 else 0)
        at true c at_it = plus (member_of p (server_no s)).served (if c then 1 else 0)
          where
            plus : (a b : ℕ) → a ≤ a + b
            plus a b = omega arith
        at false true at_it = subst (λ (k : ℕ). (member_of (with_member server counted p) (server_no s)).served ≤ (member_of p (server_no k)).served + 1) (sym (eqb-true s server.0 at_it)) (member_set p server counted s at_it)
        at false false at_it = subst (λ (m : MemberPart). m.served ≤ (member_of p (server_no s)).served + 0) (sym (member_apart p server counted s at_it)) (plus (member_of p (server_no s)).served)
          where
            plus : (a : ℕ) → a ≤ a + 0
            plus a = omega arith

    pub served_it : IsTallied d.tid served_now
    served_it = record { began = stood.began; numbers = λ s. counted_now s (s == server.0) refl (tm.part_of d.tid t.manager) refl }
      where
        counted_now : (s : ℕ) (b : Bool) → (s == server.0) ≡ b → (o : Option Participant) → tm.part_of d.tid t.manager ≡ o → served_in (tm.part_of d.tid served_now.manager) s + waits_in d.tid left.queues s ≤ given_in d.tid t.locals
        counted_now s b is None none = subst (λ (o : Option Participant). served_in o s + waits_in d.tid left.queues s ≤ given_in d.tid t.locals) (sym (part_unknown d.tid (participant.served server) t.manager none))
            (less (waits_in d.tid left.queues s) (waits_in d.tid t.queues s) (served_in (tm.part_of d.tid t.manager) s) (given_in d.tid t.locals) (fewer s) (stood.numbers s))
          where
            less : (a b c e : ℕ) → a ≤ b → c + b ≤ e → 0 + a ≤ e
            less a b c e p q = omega (arith, p, q)
        counted_now s true is (Some p) known = subst (λ (o : Option Participant). served_in o s + waits_in d.tid left.queues s ≤ given_in d.tid t.locals) (sym (part_changed d.tid (participant.served server) t.manager p known))
            (less (member_of (participant.served server p) (server_no s)).served (member_of p (server_no s)).served (waits_in d.tid left.queues s) (waits_in d.tid t.queues s) (count_of d.tid behind) (given_in d.tid t.locals)
            (once_more p s true is) (now s ∙ picked (s == server.0) is) (subst (λ (k : ℕ). waits_in d.tid t.queues k ≡ count_of d.tid behind + 1) (sym (eqb-true s server.0 is)) one_more)
            (subst (λ (o : Option Participant). served_in o s + waits_in d.tid t.queues s ≤ given_in d.tid t.locals) known (stood.numbers s)))
          where
            picked : (b : Bool) → b ≡ true → (if b then count_of d.tid behind else waits_in d.tid t.queues s) ≡ count_of d.tid behind
            picked b e = rw e refl

            less : (a b c e f g : ℕ) → a ≤ b + 1 → c ≡ f → e ≡ f + 1 → b + e ≤ g → a + c ≤ g
            less a b c e f g p q r v = omega (arith, p, q, r, v)
        counted_now s false is (Some p) known = subst (λ (o : Option Participant). served_in o s + waits_in d.tid left.queues s ≤ given_in d.tid t.locals) (sym (part_changed d.tid (participant.served server) t.manager p known))
            (less (member_of (participant.served server p) (server_no s)).served (member_of p (server_no s)).served (waits_in d.tid left.queues s) (waits_in d.tid t.queues s) (given_in d.tid t.locals)
            (once_more p s false is) (fewer s) (subst (λ (o : Option Participant). served_in o s + waits_in d.tid t.queues s ≤ given_in d.tid t.locals) known (stood.numbers s)))
          where
            less : (a b c e g : ℕ) → a ≤ b + 0 → c ≤ e → b + e ≤ g → a + c ≤ g
            less a b c e g p q r = omega (arith, p, q, r)

    pub served_tallied : AreTallied W served_now
    served_tallied = record {
      in_inc = h.in_inc;
      rising = changed_rises d.tid (participant.served server) t.manager h.rising;
      each = λ k. by k (same_or_apart d.tid k);
      runs = each_changed d.tid (participant.served server) t.manager (λ k p. p.engage.home ≡ true → p.outcome ≡ None → IsTallied k served_now) (λ k p far known home runs. far_on k far (h.runs k p known home runs)) (λ p known home runs. served_it);
      asked = each_changed d.tid (participant.served server) t.manager (λ k p. p.asked ≡ true → p.engage.home ≡ true) (λ k p far known is. h.asked k p known is)
          (λ p known is. (served_quiet server).home p ∙ h.asked d.tid p known (sym (served_unasked server p) ∙ is));
      given = h.given;
      besides = λ k w. other k (same_or_apart d.tid k) (h.besides k w);
    }
      where
        far_on : (k : Tid) → Apart d.tid k → IsTallied k t → IsTallied k served_now
        far_on k far it = less_tallied k t served_now refl it (λ s. subst (λ (o : Option Participant). served_in o s ≤ served_in (tm.part_of k t.manager) s) (sym (part_apart d.tid k (participant.served server) t.manager far)) (le_refl (served_in (tm.part_of k t.manager) s)))
            (λ s. any_fewer k s (inr far)) (le_refl (given_in k t.locals))

        other : (k : Tid) → (d.tid ≡ k) ⊎ Apart d.tid k → IsTallied k t → IsTallied k served_now
        other k (inl e) it = subst (λ (x : Tid). IsTallied x served_now) e served_it
        other k (inr far) it = far_on k far it

        by : (k : Tid) → (d.tid ≡ k) ⊎ Apart d.tid k → IsTallied k served_now ⊎ IsBare k served_now
        by k (inl e) = inl (subst (λ (x : Tid). IsTallied x served_now) e served_it)
        by k (inr far) = at (h.each k)
          where
            at : IsTallied k t ⊎ IsBare k t → IsTallied k served_now ⊎ IsBare k served_now
            at (inl it) = inl (far_on k far it)
            at (inr bare) = inr (record { waits = λ s. far_waits k far s ∙ bare.waits s; lent = bare.lent; none = bare.none })
