-- What waits for its reply waits on through a whole step, until its own reply comes or its node knows the outcome: a client whose request waits commands nothing else, and its node
-- is busy, so that it answers nobody and is not forgotten.
use Rattle.qs_world_runs.proofs.Words.{◌≡◌, ◌⊎◌, inl, inr, ℕ, ◌==◌, ◌&&◌, ◌||◌, not, Bool, true, false, List, [], ◌∷◌, fold, Option, Some, None, refl, sym, ap, subst, ◌∙◌, if◌then◌else◌, list_any, is_none, is_some, same_member-true, same_tid-true, same_tid, Member, NodeNo, Tid, release_of, is_standing_loan, Cause, answer_superior, forget_rule, is_busy, is_lent, is_quiet, may_answer, pass_rule, ready, ready_rule, refusal_goes_to, refuse_elsewhere, refuse_home, refuse_rule, say_yes}
use Rattle.qs_world_runs.proofs.Words.{send_refusal, settle_tid, try, Work, doings_of, with_manager, forget, awaits_note, is_answered_by, is_by_files, is_forgotten, new_participant, Participant, Among, IsBorrowed, WaitsAt, is_lent_to, and_first, and_last, not-true, or_right, same_Some}
use Rattle.qs_base.specs.declared.identifiers.Outcome.TheVariants as outcomes
use Rattle.qs_ipc.specs.Ipc as ipc
use Rattle.qs_packet.specs.declared.message.Message.TheVariants as messages
use Rattle.qs_node_step.specs.Deciding.{decide, decide_commit}
use Rattle.qs_node_step.specs.State.{part_of}
use Rattle.qs_tm.specs.Manager as tm
use Rattle.qs_tm.specs.Participant as participant
use Rattle.qs_world_runs.proofs.AwaitedKept.{part_on}
use Rattle.qs_world_runs.proofs.AwaitedTurns.{pass_on}
use Rattle.qs_world_runs.proofs.AwaitedRules.{On, change_on, commit_on, decide_on, fold_on, forgets_on, if_on, itself_on, plain, send_on, then_on, undecided_on, waits_on}
use Rattle.std.proofs.lemmas.Bool.{false≢true}

any_among : {A : Type 0} (p : A → Bool) (x : A) (xs : List A) → p x ≡ true → Among x xs → list_any p xs ≡ true
any_among p x [] is a = absurd a
any_among p x (y ∷ ys) is (inl e) = let so : p y ≡ true = ap p (sym e) ∙ is in rw so refl
any_among p x (y ∷ ys) is (inr more) = or_right (p y) (list_any p ys) (any_among p x ys is more)

any_wider : {A : Type 0} (p q : A → Bool) → ((x : A) → p x ≡ true → q x ≡ true) → (xs : List A) → list_any p xs ≡ true → list_any q xs ≡ true
any_wider p q wide [] is = is
any_wider p q wide (x ∷ xs) is = by (p x) refl is (any_wider p q wide xs)
  where
    by : (b : Bool) → p x ≡ b → (p x || list_any p xs) ≡ true → (list_any p xs ≡ true → list_any q xs ≡ true) → (q x || list_any q xs) ≡ true
    by true so any more = let wider : q x ≡ true = wide x so in rw wider refl
    by false so any more = or_right (q x) (list_any q xs) (more (rw so at any))

module _ (D : Type 0) (tid : Tid) (member : Member) (number : ℕ) where
  abbrev L : Work → Work → Type 0
  L work new = On D tid member number work new

  -- ---- settling

  one_part : (t : Tid) (part : Participant) (work : Work) → part_of t work ≡ Some part → t ≡ tid → (w : WaitsAt tid member number work.node) → w.part ≡ part
  one_part t part work known e w = same_Some w.part part (sym w.known ∙ subst (λ (u : Tid). part_of u work ≡ Some part) e known)

  -- a node where it waits is busy, or the home
  busy : (part : Participant) (work : Work) → (w : WaitsAt tid member number work.node) → w.part ≡ part → is_busy tid work.node part ≡ false → part.engage.home ≡ true
  busy part work w same free = by w.holds
    where
      none : (a b c : Bool) → (a || (b || c)) ≡ false → (b ≡ false) × (c ≡ false)
      none true b c e = absurd (cc e)
      none false true c e = absurd (cc e)
      none false false c e = (refl, e)

      idle : (is_lent tid work.node ≡ false) × (awaits_note part ≡ false)
      idle = none (ipc.waits tid work.node.queues) (is_lent tid work.node) (awaits_note part) free

      by : (is_by_files w.request ≡ true) ⊎ ((w.part.engage.home ≡ true) ⊎ IsBorrowed tid member number work.node.commands work.node.kept.now work.node.setting.inc) → part.engage.home ≡ true
      by (inl files) = absurd (let awaits : awaits_note part ≡ true = subst (λ (p : Participant). awaits_note p ≡ true) same (any_among is_by_files w.request w.part.waiting files w.among) in let awaits_none : awaits_note part ≡ false = idle.1 in cc (awaits, awaits_none))
      by (inr (inl home)) = subst (λ (p : Participant). p.engage.home ≡ true) same home
      by (inr (inr b)) = absurd (let lent : is_lent tid work.node ≡ true = any_wider (is_lent_to b.client tid work.node.setting.inc) (is_standing_loan tid work.node.setting.inc) (λ loan is. and_last (loan.client.0 == b.client.0) (is_standing_loan tid work.node.setting.inc loan) is) work.node.kept.now.loans b.lent in
          let unlent : is_lent tid work.node ≡ false = idle.0 in cc (lent, unlent))

  say_on : (t : Tid) (part : Participant) (superior : NodeNo × ℕ) (work : Work) → part_of t work ≡ Some part → is_busy t work.node part ≡ false → part.engage.home ≡ false → L work (say_yes t part superior work)
  say_on t part superior work known free away = then_on D tid member number work released (say_yes t part superior work) (waits_on D tid member number work released releases (λ k. k)) (send_on D tid member number superior.0 (messages.VotedYes t superior.1 _) released)
    where
      released : Work
      released = with_manager (tm.released t) work

      releases : WaitsAt tid member number work.node → WaitsAt tid member number released.node ⊎ D
      releases w = of (same_tid t tid) refl
        where
          of : (b : Bool) → same_tid t tid ≡ b → WaitsAt tid member number released.node ⊎ D
          of true is = let e : t ≡ tid = same_tid-true t tid is in
              absurd (let home : part.engage.home ≡ true = busy part work w (one_part t part work known e w) (subst (λ (u : Tid). is_busy u work.node part ≡ false) e free) in cc (home, away))
          of false is = inl (part_on tid member number work.node.commands work.node.kept.now work.node.setting.inc t participant.released work.node.manager (λ e. absurd (false≢true (sym is ∙ subst (λ (u : Tid). same_tid t u ≡ true) e (Rattle.qs_base.proofs.Same.same_tid-self t)))) w)

  ready_on : (t : Tid) (part : Participant) (work : Work) → part_of t work ≡ Some part → L work (ready_rule t part work)
  ready_on t part work known = if_on D tid member number (may_answer t part work) (ready t part work) work work
      (λ may. if_on D tid member number part.engage.home (if is_quiet (doings_of t work) then decide_commit t work else work) (answer_superior t part work) work
      (λ home. if_on D tid member number (is_quiet (doings_of t work)) (decide_commit t work) work work (λ so. commit_on D tid member number t work) (λ so. itself_on D tid member number work))
      (λ away. answers (release_of part.engage) (not-true (is_busy t work.node part) (and_first (not (is_busy t work.node part)) _ (and_first _ (participant.all_agree part) (and_last (part.asked && not part.blocked) _ (and_first (participant.is_ready (is_busy t work.node part) part) _ may))))) away))
      (λ so. itself_on D tid member number work)
    where
      answers : (o : Option (NodeNo × ℕ)) → is_busy t work.node part ≡ false → part.engage.home ≡ false → L work (elim o [ None ↦ work | Some superior ↦ say_yes t part superior work ])
      answers None free away = itself_on D tid member number work
      answers (Some superior) free away = say_on t part superior work known free away

  refuse_on : (t : Tid) (part : Participant) (work : Work) → L work (refuse_rule t part work)
  refuse_on t part work = if_on D tid member number part.engage.home (refuse_home t part work) (refuse_elsewhere t part work) work (λ so. by part.causes)
      (λ so. then_on D tid member number work taken (refuse_elsewhere t part work) (change_on D tid member number t participant.take_causes work (λ e. plain D tid member number participant.take_causes (λ p. refl) (λ p. refl) (λ p. refl)))
      (fold_on D tid member number (send_refusal t (refusal_goes_to t part)) (λ w cause. send_on D tid member number (refusal_goes_to t part) (messages.VotedAbort t cause) w) part.causes taken))
    where
      taken : Work
      taken = with_manager (tm.take_causes t) work

      by : (cs : List Cause) → L work (elim cs [ [] ↦ work | cause ∷ more ↦ decide t outcomes.Abort (Some cause) work ])
      by [] = itself_on D tid member number work
      by (cause ∷ more) = decide_on D tid member number t outcomes.Abort (Some cause) work

  forget_rule_on : (t : Tid) (part : Participant) (work : Work) → part_of t work ≡ Some part → L work (forget_rule t part work)
  forget_rule_on t part work known = if_on D tid member number (is_forgotten part) (forget t work) work work
      (λ so. forgets_on D tid member number t work (λ e w. engaged so (subst (λ (p : Participant). Rattle.qs_world_refine.specs.Sound.is_engaged p ≡ true) (one_part t part work known e w) w.engaged)))
      (λ so. itself_on D tid member number work)
    where
      engaged : is_forgotten part ≡ true → Rattle.qs_world_refine.specs.Sound.is_engaged part ≡ true → ⊥
      engaged so on = of part.engage.home part.engage.superior (not-true part.engage.home (and_last (participant.is_undecided part) _ (and_first _ _ so))) (and_first (is_none part.engage.superior) _ (and_first _ _ (and_last (participant.is_undecided part && not part.engage.home) _ so))) on
        where
          of : (h : Bool) (s : Option NodeNo) → h ≡ false → is_none s ≡ true → (if h then participant.is_undecided part else is_some s) ≡ true → ⊥
          of true s away none on = cc away
          of false None away none on = cc on
          of false (Some s) away none on = cc none

  -- all but a vote pass
  pub rest_on : (t : Tid) (passed : Work) → L passed (try t forget_rule (try t refuse_rule (try t ready_rule passed)))
  rest_on t passed = then_on D tid member number passed readied (try t forget_rule refused) (undecided_on D tid member number t (ready_rule t) passed (λ part known open_now. ready_on t part passed known))
      (then_on D tid member number readied refused (try t forget_rule refused) (undecided_on D tid member number t (refuse_rule t) readied (λ part known open_now. refuse_on t part readied))
      (undecided_on D tid member number t (forget_rule t) refused (λ part known open_now. forget_rule_on t part refused known)))
    where
      readied : Work
      readied = try t ready_rule passed

      refused : Work
      refused = try t refuse_rule readied

  pub settle_on : (work : Work) (t : Tid) → L work (settle_tid work t)
  settle_on work t = then_on D tid member number work (try t pass_rule work) (settle_tid work t) (undecided_on D tid member number t (pass_rule t) work (λ part known open_now. pass_on D tid member number t part work)) (rest_on t (try t pass_rule work))

  pub settles_on : (tids : List Tid) (work : Work) → L work (fold settle_tid work tids)
  settles_on tids work = fold_on D tid member number settle_tid settle_on tids work
