-- What a rule changes at a node leaves what was served and what waits within the numbers that were given.
use Rattle.qs_world_runs.proofs.Words.{◌≡◌, ◌⊎◌, inl, inr, ℕ, zero, suc, ◌+◌, ◌≤◌, ◌==◌, arith, Bool, true, false, List, [], ◌∷◌, Option, Some, None, refl, sym, subst, ◌∙◌, le_refl, eqb-true, nat_tests, is_at, slice_index_or, slice_set, tid_total, tid_cmp, ClientNo, ServerNo, Tid, at_exact, put_rises, remove_rises, removed, drop_counts, no_member, begun_participant, member_of, with_member, Manager, MemberPart, Participant, server_no, forget_apart, same_or_apart, part_changed, part_unknown}
use Rattle.qs_world_runs.proofs.Words.{each_changed, put_there, clash, of_some, AreTallied, IsBare, IsTallied, Tally, given_in, waits_in, zero_le}
use Rattle.std.proofs.lemmas.List.{get_or-set_other}
use Rattle.qs_tm.specs.Manager as tm
use Rattle.qs_tm.specs.Participant as participant
use Rattle.qs_world_lawful.proofs.Apart.{Apart}
use Rattle.qs_world_lawful.proofs.Faces.{part_apart, put_apart}
use Rattle.qs_world_lawful.proofs.Marks.{changed_rises}
use Rattle.qs_world_runs.specs.Counted.{served_in}

-- ---- members

pub at_set : (ms : List MemberPart) (i : ℕ) (m : MemberPart) → (slice_index_or (slice_set ms i m) i no_member).served ≤ m.served
at_set [] i m = zero_le m.served
at_set (x ∷ xs) zero m = omega arith
at_set (x ∷ xs) (suc i) m = at_set xs i m

-- a member with another value has served no more than that
pub member_set : (part : Participant) (server : ServerNo) (m : MemberPart) (s : ℕ) → (s == server.0) ≡ true → (member_of (with_member server m part) (server_no s)).served ≤ m.served
member_set part server m s is = subst (λ (k : ℕ). (member_of (with_member server m part) (server_no k)).served ≤ m.served) (sym (eqb-true s server.0 is)) (at_set part.members server.0 m)

pub member_apart : (part : Participant) (server : ServerNo) (m : MemberPart) (s : ℕ) → (s == server.0) ≡ false → member_of (with_member server m part) (server_no s) ≡ member_of part (server_no s)
member_apart part server m s far = get_or-set_other part.members server.0 s m no_member (λ same. grind (arith, nat_tests, far, same))

-- ---- a change of what is kept of a transaction that counts no more

pub record IsStill (f : Participant → Participant) : Type 0 where
  pub home : (p : Participant) → (f p).engage.home ≡ p.engage.home
  pub outcome : (p : Participant) → (f p).outcome ≡ None → p.outcome ≡ None
  pub asked : (p : Participant) → (f p).asked ≡ true → p.asked ≡ true
  pub served : (p : Participant) (s : ℕ) → (member_of (f p) (server_no s)).served ≤ (member_of p (server_no s)).served

-- a member changes, and has served as much as before
pub same_served : (part : Participant) (server : ServerNo) (m : MemberPart) → m.served ≡ (member_of part server).served → (s : ℕ) → (member_of (with_member server m part) (server_no s)).served ≤ (member_of part (server_no s)).served
same_served part server m same s = by (s == server.0) refl
  where
    by : (b : Bool) → (s == server.0) ≡ b → (member_of (with_member server m part) (server_no s)).served ≤ (member_of part (server_no s)).served
    by true is = subst (λ (k : ℕ). (member_of (with_member server m part) (server_no k)).served ≤ (member_of part (server_no k)).served) (sym (eqb-true s server.0 is))
        (subst (λ (k : ℕ). (member_of (with_member server m part) (server_no server.0)).served ≤ k) same (at_set part.members server.0 m))
    by false far = subst (λ (k : MemberPart). k.served ≤ (member_of part (server_no s)).served) (sym (member_apart part server m s far)) (omega arith)

-- ---- a tally in which less was served, nothing else waits and no fewer numbers were given

pub less_tallied : (tid : Tid) (t u : Tally) → u.inc ≡ t.inc → IsTallied tid t → ((s : ℕ) → served_in (tm.part_of tid u.manager) s ≤ served_in (tm.part_of tid t.manager) s) → ((s : ℕ) → waits_in tid u.queues s ≤ waits_in tid t.queues s)
    → given_in tid t.locals ≤ given_in tid u.locals → IsTallied tid u
less_tallied tid t u same was served waits given = record {
  began = was.began ∙ sym same;
  numbers = λ s. less (served_in (tm.part_of tid t.manager) s) (served_in (tm.part_of tid u.manager) s) (waits_in tid t.queues s) (waits_in tid u.queues s) (given_in tid t.locals) (given_in tid u.locals) (was.numbers s) (served s) (waits s) given;
}
  where
    less : (a b c d e f : ℕ) → a + c ≤ e → b ≤ a → d ≤ c → e ≤ f → b + d ≤ f
    less a b c d e f p q r v = omega (arith, p, q, r, v)

abbrev pub managed : (Manager → Manager) → Tally → Tally
managed f t = record t { manager = f t.manager }

module _ (tid : Tid) (f : Participant → Participant) (served : (p : Participant) (s : ℕ) → (member_of (f p) (server_no s)).served ≤ (member_of p (server_no s)).served) where
  less_served : (k : Tid) (m : Manager) (s : ℕ) → served_in (tm.part_of k (tm.with_part tid f m)) s ≤ served_in (tm.part_of k m) s
  less_served k m s = by (same_or_apart tid k)
    where
      own : (o : Option Participant) → tm.part_of tid m ≡ o → served_in (tm.part_of tid (tm.with_part tid f m)) s ≤ served_in o s
      own None was = subst (λ (o : Option Participant). served_in o s ≤ 0) (sym (part_unknown tid f m was)) (omega arith)
      own (Some p) was = subst (λ (o : Option Participant). served_in o s ≤ (member_of p (server_no s)).served) (sym (part_changed tid f m p was)) (served p s)

      by : (tid ≡ k) ⊎ Apart tid k → served_in (tm.part_of k (tm.with_part tid f m)) s ≤ served_in (tm.part_of k m) s
      by (inl e) = subst (λ (x : Tid). served_in (tm.part_of x (tm.with_part tid f m)) s ≤ served_in (tm.part_of x m) s) e (own (tm.part_of tid m) refl)
      by (inr far) = subst (λ (o : Option Participant). served_in o s ≤ served_in (tm.part_of k m) s) (sym (part_apart tid k f m far)) (le_refl (served_in (tm.part_of k m) s))

module _ (W : Tid → Type 0) where
  pub part_tallied : (tid : Tid) (f : Participant → Participant) → IsStill f → (t : Tally) → AreTallied W t → AreTallied W (managed (tm.with_part tid f) t)
  part_tallied tid f still t h = record {
    in_inc = h.in_inc;
    rising = changed_rises tid f t.manager h.rising;
    each = λ k. by k (h.each k);
    runs = each_changed tid f t.manager (λ k p. p.engage.home ≡ true → p.outcome ≡ None → IsTallied k new) (λ k p far known home runs. less k (h.runs k p known home runs))
        (λ p known home runs. less tid (h.runs tid p known (sym (still.home p) ∙ home) (still.outcome p runs)));
    asked = each_changed tid f t.manager (λ k p. p.asked ≡ true → p.engage.home ≡ true) (λ k p far known is. h.asked k p known is) (λ p known is. still.home p ∙ h.asked tid p known (still.asked p is));
    given = h.given;
    besides = λ k w. less k (h.besides k w);
  }
    where
      new : Tally
      new = managed (tm.with_part tid f) t

      less : (k : Tid) → IsTallied k t → IsTallied k new
      less k was = less_tallied k t new refl was (λ s. less_served tid f still.served k t.manager s) (λ s. le_refl (waits_in k t.queues s)) (le_refl (given_in k t.locals))

      by : (k : Tid) → IsTallied k t ⊎ IsBare k t → IsTallied k new ⊎ IsBare k new
      by k (inl was) = inl (less k was)
      by k (inr bare) = inr (record { waits = bare.waits; lent = bare.lent; none = bare.none })

  -- commit is asked for at the home
  pub ask_tallied : (tid : Tid) → (t : Tally) → ((p : Participant) → tm.part_of tid t.manager ≡ Some p → p.engage.home ≡ true) → AreTallied W t → AreTallied W (managed (tm.ask tid) t)
  ask_tallied tid t home h = record {
    in_inc = h.in_inc;
    rising = changed_rises tid participant.ask t.manager h.rising;
    each = λ k. by k (h.each k);
    runs = each_changed tid participant.ask t.manager (λ k p. p.engage.home ≡ true → p.outcome ≡ None → IsTallied k new) (λ k p far known at runs. less k (h.runs k p known at runs)) (λ p known at runs. less tid (h.runs tid p known at runs));
    asked = each_changed tid participant.ask t.manager (λ k p. p.asked ≡ true → p.engage.home ≡ true) (λ k p far known is. h.asked k p known is) (λ p known is. home p known);
    given = h.given;
    besides = λ k w. less k (h.besides k w);
  }
    where
      new : Tally
      new = managed (tm.ask tid) t

      less : (k : Tid) → IsTallied k t → IsTallied k new
      less k was = less_tallied k t new refl was (λ s. less_served tid participant.ask (λ p r. le_refl (member_of p (server_no r)).served) k t.manager s) (λ s. le_refl (waits_in k t.queues s)) (le_refl (given_in k t.locals))

      by : (k : Tid) → IsTallied k t ⊎ IsBare k t → IsTallied k new ⊎ IsBare k new
      by k (inl was) = inl (less k was)
      by k (inr bare) = inr (record { waits = bare.waits; lent = bare.lent; none = bare.none })

  -- ---- one more begins

  new_served : (client : ClientNo) (ticks s : ℕ) → (member_of (begun_participant client ticks) (server_no s)).served ≡ 0
  new_served client ticks zero = refl
  new_served client ticks (suc zero) = refl
  new_served client ticks (suc (suc zero)) = refl
  new_served client ticks (suc (suc (suc zero))) = refl
  new_served client ticks (suc (suc (suc (suc zero)))) = refl
  new_served client ticks (suc (suc (suc (suc (suc zero))))) = refl
  new_served client ticks (suc (suc (suc (suc (suc (suc zero)))))) = refl
  new_served client ticks (suc (suc (suc (suc (suc (suc (suc s))))))) = refl

  pub begin_tallied : (client : ClientNo) (t : Tally) → AreTallied W t → AreTallied W (managed (tm.begin client) t)
  begin_tallied client t h = record {
    in_inc = h.in_inc;
    rising = put_rises tid_cmp tid_total tid part t.manager.known h.rising;
    each = λ k. both k (same_or_apart tid k);
    runs = λ k p known home runs. stands k p known (same_or_apart tid k) home runs;
    asked = λ k p known is. unasked k p known (same_or_apart tid k) is;
    given = h.given;
    besides = λ k w. other k (h.besides k w) (same_or_apart tid k);
  }
    where
      tid : Tid
      tid = tm.next_tid t.manager

      part : Participant
      part = begun_participant client t.manager.ticks

      more : Manager
      more = record t.manager { begun = t.manager.begun + 1 }

      new : Tally
      new = managed (tm.begin client) t

      begun : tm.part_of tid new.manager ≡ Some part
      begun = put_there tid part more

      own : IsTallied tid t ⊎ IsBare tid t → IsTallied tid new
      own (inl was) = record {
        began = h.in_inc;
        numbers = λ s. subst (λ (o : Option Participant). served_in o s + waits_in tid t.queues s ≤ given_in tid t.locals) (sym begun)
            (less (served_in (tm.part_of tid t.manager) s) (waits_in tid t.queues s) (given_in tid t.locals) (member_of part (server_no s)).served (new_served client t.manager.ticks s) (was.numbers s));
      }
        where
          less : (a b c d : ℕ) → d ≡ 0 → a + b ≤ c → d + b ≤ c
          less a b c d e f = omega (arith, e, f)
      own (inr bare) = record {
        began = h.in_inc;
        numbers = λ s. subst (λ (o : Option Participant). served_in o s + waits_in tid t.queues s ≤ given_in tid t.locals) (sym begun)
            (less (waits_in tid t.queues s) (given_in tid t.locals) (member_of part (server_no s)).served (new_served client t.manager.ticks s) (bare.waits s));
      }
        where
          less : (b c d : ℕ) → d ≡ 0 → b ≡ 0 → d + b ≤ c
          less b c d e f = omega (arith, e, f)

      far_on : (k : Tid) → Apart tid k → IsTallied k t → IsTallied k new
      far_on k far was = record {
        began = was.began;
        numbers = λ s. subst (λ (o : Option Participant). served_in o s + waits_in k t.queues s ≤ given_in k t.locals) (sym (put_apart tid k part more far)) (was.numbers s);
      }

      other : (k : Tid) → IsTallied k t → (tid ≡ k) ⊎ Apart tid k → IsTallied k new
      other k was (inl e) = subst (λ (x : Tid). IsTallied x new) e (own (h.each tid))
      other k was (inr far) = far_on k far was

      both : (k : Tid) → (tid ≡ k) ⊎ Apart tid k → IsTallied k new ⊎ IsBare k new
      both k (inl e) = inl (subst (λ (x : Tid). IsTallied x new) e (own (h.each tid)))
      both k (inr far) = by (h.each k)
        where
          by : IsTallied k t ⊎ IsBare k t → IsTallied k new ⊎ IsBare k new
          by (inl was) = inl (far_on k far was)
          by (inr bare) = inr (record { waits = bare.waits; lent = bare.lent; none = bare.none })

      stands : (k : Tid) (p : Participant) → tm.part_of k new.manager ≡ Some p → (tid ≡ k) ⊎ Apart tid k → p.engage.home ≡ true → p.outcome ≡ None → IsTallied k new
      stands k p known (inl e) home runs = subst (λ (x : Tid). IsTallied x new) e (own (h.each tid))
      stands k p known (inr far) home runs = far_on k far (h.runs k p (sym (put_apart tid k part more far) ∙ known) home runs)

      unasked : (k : Tid) (p : Participant) → tm.part_of k new.manager ≡ Some p → (tid ≡ k) ⊎ Apart tid k → p.asked ≡ true → p.engage.home ≡ true
      unasked k p known (inl e) is = absurd (clash (subst (λ (q : Participant). q.asked ≡ true) (of_some (sym (subst (λ (x : Tid). tm.part_of x new.manager ≡ Some p) (sym e) known) ∙ begun)) is))
      unasked k p known (inr far) is = h.asked k p (sym (put_apart tid k part more far) ∙ known) is

  pub tick_tallied : (t : Tally) → AreTallied W t → AreTallied W (managed tm.tick t)
  tick_tallied t h = record { in_inc = h.in_inc; rising = h.rising; each = λ k. by k (h.each k); runs = λ k p known home runs. on k (h.runs k p known home runs); asked = h.asked; given = h.given; besides = λ k w. on k (h.besides k w) }
    where
      on : (k : Tid) → IsTallied k t → IsTallied k (managed tm.tick t)
      on k was = record { began = was.began; numbers = was.numbers }

      by : (k : Tid) → IsTallied k t ⊎ IsBare k t → IsTallied k (managed tm.tick t) ⊎ IsBare k (managed tm.tick t)
      by k (inl was) = inl (on k was)
      by k (inr bare) = inr (record { waits = bare.waits; lent = bare.lent; none = bare.none })

  -- ---- one is forgotten: nothing changes of what waits

  pub forget_tallied : (tid : Tid) (t : Tally) → ((k : Tid) (s : ℕ) → waits_in k (drop_counts tid t.queues) s ≡ waits_in k t.queues s) → AreTallied W t → AreTallied W (record t { manager = tm.forget tid t.manager; queues = drop_counts tid t.queues })
  forget_tallied tid t same h = record {
    in_inc = h.in_inc;
    rising = remove_rises tid_cmp (is_at (tid_cmp tid)) t.manager.known h.rising;
    each = λ k. by k (h.each k);
    runs = λ k p known home runs. stood k p known (same_or_apart k tid) (λ was. less k (h.runs k p was home runs));
    asked = λ k p known is. stood k p known (same_or_apart k tid) (λ was. h.asked k p was is);
    given = h.given;
    besides = λ k w. less k (h.besides k w);
  }
    where
      new : Tally
      new = record t { manager = tm.forget tid t.manager; queues = drop_counts tid t.queues }

      gone : tm.part_of tid new.manager ≡ None
      gone = removed tid_cmp at_exact tid t.manager.known h.rising

      stood : {X : Type 0} (k : Tid) (p : Participant) → tm.part_of k new.manager ≡ Some p → (k ≡ tid) ⊎ Apart k tid → (tm.part_of k t.manager ≡ Some p → X) → X
      stood k p known (inl e) goes = absurd (cc (sym gone ∙ subst (λ (x : Tid). tm.part_of x new.manager ≡ Some p) e known))
      stood k p known (inr far) goes = goes (sym (forget_apart k tid t.manager far.by) ∙ known)

      served : (k : Tid) (s : ℕ) → (k ≡ tid) ⊎ Apart k tid → served_in (tm.part_of k new.manager) s ≤ served_in (tm.part_of k t.manager) s
      served k s (inl e) = subst (λ (x : Tid). served_in (tm.part_of x new.manager) s ≤ served_in (tm.part_of x t.manager) s) (sym e) (subst (λ (o : Option Participant). served_in o s ≤ served_in (tm.part_of tid t.manager) s) (sym gone) (zero_le (served_in (tm.part_of tid t.manager) s)))
      served k s (inr far) = subst (λ (o : Option Participant). served_in o s ≤ served_in (tm.part_of k t.manager) s) (sym (forget_apart k tid t.manager far.by)) (le_refl (served_in (tm.part_of k t.manager) s))

      less : (k : Tid) → IsTallied k t → IsTallied k new
      less k was = less_tallied k t new refl was (λ s. served k s (same_or_apart k tid)) (λ s. subst (λ (n : ℕ). n ≤ waits_in k t.queues s) (sym (same k s)) (le_refl (waits_in k t.queues s))) (le_refl (given_in k t.locals))

      by : (k : Tid) → IsTallied k t ⊎ IsBare k t → IsTallied k new ⊎ IsBare k new
      by k (inl was) = inl (less k was)
      by k (inr bare) = inr (record { waits = λ s. same k s ∙ bare.waits s; lent = bare.lent; none = bare.none })
