-- A home that aborts what is older than its age limit stays sound.
use Rattle.qs_world_refine.proofs.Words.{◌≡◌, ℕ, ◌&&◌, Bool, true, false, List, [], ◌∷◌, ◌++◌, cond, fold, Option, Some, None, refl, sym, ap, subst, ◌∙◌, append_assoc, arith, if◌then◌else◌, list_all, lookup, is_at, nat_tests, tid_cmp, same_tid, ServerNo, Tid, Cause, listed, is_one, is_undecided, Decision, Which, Participant, send_each, log_if, decide, decide_as, keep_outcome, give_notices, end_member, end_members, due_endings, learn_member, learners_at, Work, part_of, with_manager, abort_old}
use Rattle.qs_world_refine.proofs.Words.{age_rule, is_sound, in_order, where_so}
use Rattle.std.proofs.Common.{append-nil}
use Rattle.qs_base.specs.declared.identifiers.Outcome.{Outcome}
use Rattle.qs_base.specs.declared.identifiers.Outcome.TheVariants as outcomes
use Rattle.qs_ops.specs.declared.answer.Cause.TheVariants as causes
use Rattle.qs_packet.specs.declared.message.Message.TheVariants as messages
use Rattle.qs_record.specs.declared.record.Record.TheVariants as records
use Rattle.qs_tm.specs.Manager as tm
use Rattle.qs_tm.specs.Manager.{put_tid, no_decision}
use Rattle.qs_tm.specs.Outcomes as outcome_rules
use Rattle.qs_tm.specs.Outcomes.{settled, tell_of}
use Rattle.qs_tm.specs.declared.manager.Which.TheVariants as whiches
use Rattle.qs_world_refine.proofs.Frames.{part_apart}
use Rattle.qs_world_refine.proofs.SoundParts.{and_both, both_and}
use Rattle.qs_world_refine.proofs.SoundRules.{sends_node}
use Rattle.qs_world_refine.proofs.SoundDecide.{decide_abort_sound}
use Rattle.qs_world_refine.proofs.SoundFrames.{is_below, behind, order_tail}
use Rattle.qs_world_refine.proofs.SoundHolds.{told_part}
use Rattle.qs_world_refine.proofs.SoundViews.{seen}

-- ---- an abort leaves every other transaction

module _ (t tid : Tid) (other : same_tid t tid ≡ false) where
  abbrev Same : Work → Work → Type 0
  Same work new = part_of t new ≡ part_of t work

  ends_same : (servers : List ServerNo) (work : Work) → Same work (fold (end_member tid) work servers)
  ends_same [] work = refl
  ends_same (server ∷ servers) work = ends_same servers (end_member tid work server) ∙ part_apart t tid (settled server) work.node.manager other

  learns_same : (outcome : Outcome) (servers : List ServerNo) (work : Work) → Same work (fold (learn_member tid outcome) work servers)
  learns_same outcome [] work = refl
  learns_same outcome (server ∷ servers) work = learns_same outcome servers (learn_member tid outcome work server) ∙ part_apart t tid (settled server) work.node.manager other

  notices_same : (work : Work) → Same work (give_notices tid outcomes.Abort work)
  notices_same work = learns_same outcomes.Abort (learners_at tid (end_members tid work)) (end_members tid work) ∙ ends_same (due_endings tid work) work

  logged_same : (work : Work) (b : Bool) → Same work (log_if (if b then Some (records.Aborted tid) else None) work)
  logged_same work true = part_apart t tid (outcome_rules.logged (records.Aborted tid)) work.node.manager other
  logged_same work false = refl

  abbrev decided_work : Work → Work
  decided_work work = with_manager (tm.decide tid outcomes.Abort) work

  made_same : (cause : Option Cause) (work : Work) (made : Decision) → Same (decided_work work) (log_if made.rec (decided_work work)) → Same work (decide_as tid outcomes.Abort cause made work)
  made_same cause work made logged =
      ap (λ (n : Rattle.qs_node_step.specs.State.NodeValue). tm.part_of t n.manager) (sends_node made.tell (messages.Tell tid outcomes.Abort) (give_notices tid outcomes.Abort entered))
      ∙ (notices_same entered ∙ (logged ∙ part_apart t tid (outcome_rules.decided outcomes.Abort) work.node.manager other))
    where
      entered : Work
      entered = Rattle.qs_node_step.specs.Bringing.enter (Rattle.qs_book_journal.specs.declared.entry.Act.TheVariants.Decide tid outcomes.Abort cause) (keep_outcome tid outcomes.Abort cause (log_if made.rec (decided_work work)))

  pub abort_same : (cause : Option Cause) (work : Work) → Same work (decide tid outcomes.Abort cause work)
  abort_same cause work = by (part_of tid work)
    where
      by : (o : Option Participant) → Same work (decide_as tid outcomes.Abort cause (elim o [ None ↦ no_decision | Some p ↦ record { rec = outcome_rules.record_of tid outcomes.Abort p; tell = listed (tell_of outcomes.Abort p) } ]) work)
      by None = made_same cause work no_decision refl
      by (Some p) = made_same cause work (record { rec = outcome_rules.record_of tid outcomes.Abort p; tell = listed (tell_of outcomes.Abort p) }) (logged_same (decided_work work) p.log.prepared)

-- ---- those that are picked, in order

abbrev pub is_home_open : Participant → Bool
is_home_open part = part.engage.home && is_undecided part

abbrev pub open_in : List (Tid × Participant) → Tid → Bool
open_in es t = elim (lookup (is_at (tid_cmp t)) es) [ None ↦ false | Some p ↦ is_home_open p ]

module _ (which : Which) where
  abbrev pub picked : List (Tid × Participant) → List Tid
  picked [] = []
  picked (e ∷ es) = if is_one which e.0 e.1 then e.0 ∷ picked es else picked es

  pub put_all : (es : List (Tid × Participant)) (tids : List Tid) → fold (put_tid which) tids es ≡ tids ++ picked es
  put_all [] tids = sym (append-nil tids)
  put_all (e ∷ es) tids = by (is_one which e.0 e.1) (put_all es (tids ++ e.0 ∷ [])) (put_all es tids)
    where
      by : (b : Bool) → fold (put_tid which) (tids ++ e.0 ∷ []) es ≡ (tids ++ e.0 ∷ []) ++ picked es → fold (put_tid which) tids es ≡ tids ++ picked es
          → fold (put_tid which) (if b then tids ++ e.0 ∷ [] else tids) es ≡ tids ++ (if b then e.0 ∷ picked es else picked es)
      by true more rest = more ∙ append_assoc tids (e.0 ∷ []) (picked es)
      by false more rest = rest

  abbrev pub is_fit : List (Tid × Participant) → Tid × Participant → Bool
  is_fit es e = where_so (is_one which e.0 e.1) (open_in es e.0)

  fit_more : (e : Tid × Participant) (es xs : List (Tid × Participant)) → list_all (is_below e.0) xs ≡ true → list_all (is_fit es) xs ≡ true → list_all (is_fit (e ∷ es)) xs ≡ true
  fit_more e es [] above all = refl
  fit_more e es (x ∷ xs) above all =
      let low : (is_below e.0 x ≡ true) × (list_all (is_below e.0) xs ≡ true) = and_both (is_below e.0 x) (list_all (is_below e.0) xs) above in
      let its : (is_fit es x ≡ true) × (list_all (is_fit es) xs ≡ true) = and_both (is_fit es x) (list_all (is_fit es) xs) all in
      both_and (is_fit (e ∷ es) x) (list_all (is_fit (e ∷ es)) xs) (subst (λ (c : Bool). where_so (is_one which x.0 x.1) (elim (cond c (Some e.1) (lookup (is_at (tid_cmp x.0)) es)) [ None ↦ false | Some p ↦ is_home_open p ]) ≡ true) (sym (past e.0 x.0 low.0)) its.0)
      (fit_more e es xs low.1 its.1)
    where
      past : (a b : Tid) → Rattle.qs_world_refine.specs.Sound.is_less (tid_cmp a b) ≡ true → is_at (tid_cmp b) a ≡ false
      past a b is = grind (arith, nat_tests, is)

  module _ (opens : (t : Tid) (part : Participant) → is_one which t part ≡ true → is_home_open part ≡ true) where
    pub all_fit : (es : List (Tid × Participant)) → in_order es ≡ true → list_all (is_fit es) es ≡ true
    all_fit [] ordered = refl
    all_fit (e ∷ es) ordered = both_and (is_fit (e ∷ es) e) (list_all (is_fit (e ∷ es)) es) (subst (λ (c : Bool). where_so (is_one which e.0 e.1) (elim (cond c (Some e.1) (lookup (is_at (tid_cmp e.0)) es)) [ None ↦ false | Some p ↦ is_home_open p ]) ≡ true) (sym (self e.0)) (by (is_one which e.0 e.1) refl)) (fit_more e es es (behind e es ordered) (all_fit es (order_tail e es ordered)))
      where
        self : (t : Tid) → is_at (tid_cmp t) t ≡ true
        self t = grind (arith, nat_tests)

        by : (b : Bool) → is_one which e.0 e.1 ≡ b → where_so b (is_home_open e.1) ≡ true
        by true is = opens e.0 e.1 is
        by false is = refl

-- ---- they are aborted one by one

abbrev pub is_open_at : Work → Tid → Bool
is_open_at work t = tm.told_of t false is_home_open work.node.manager

module _ (which : Which) (age : ℕ) where
  abbrev pub still_fits : Work → Tid × Participant → Bool
  still_fits work e = where_so (is_one which e.0 e.1) (is_open_at work e.0)

  pub aborted : (work : Work) (tid : Tid) → is_open_at work tid ≡ true → is_sound work.node ≡ true → is_sound (abort_old age work tid).node ≡ true
  aborted work tid its sound = by (part_of tid work) refl
    where
      by : (o : Option Participant) → part_of tid work ≡ o → is_sound (abort_old age work tid).node ≡ true
      by None none =
          let never : is_open_at work tid ≡ false = ap (λ (o : Option Participant). elim o [ None ↦ false | Some p ↦ is_home_open p ]) none in
          absurd (cc (never, its))
      by (Some part) known =
          let both : (part.engage.home ≡ true) × (is_undecided part ≡ true) = and_both part.engage.home (is_undecided part) (told_part is_home_open tid work.node.manager part known its) in
          decide_abort_sound tid part (Some (causes.Old age)) work known both.1 both.0 sound

  pub fits_on : (tid : Tid) (work : Work) (es : List (Tid × Participant)) → list_all (is_below tid) es ≡ true → list_all (still_fits work) es ≡ true → list_all (still_fits (abort_old age work tid)) es ≡ true
  fits_on tid work [] above all = refl
  fits_on tid work (x ∷ xs) above all =
      let low : (is_below tid x ≡ true) × (list_all (is_below tid) xs ≡ true) = and_both (is_below tid x) (list_all (is_below tid) xs) above in
      let its : (still_fits work x ≡ true) × (list_all (still_fits work) xs ≡ true) = and_both (still_fits work x) (list_all (still_fits work) xs) all in
      both_and (still_fits (abort_old age work tid) x) (list_all (still_fits (abort_old age work tid)) xs)
      (ap (λ (o : Option Participant). where_so (is_one which x.0 x.1) (elim o [ None ↦ false | Some p ↦ is_home_open p ])) (abort_same x.0 tid (other tid x.0 low.0) (Some (causes.Old age)) work) ∙ its.0) (fits_on tid work xs low.1 its.1)
    where
      other : (a b : Tid) → Rattle.qs_world_refine.specs.Sound.is_less (tid_cmp a b) ≡ true → same_tid b a ≡ false
      other a b is = grind (arith, nat_tests, is)

  all_aborted : (es : List (Tid × Participant)) (work : Work) → in_order es ≡ true → list_all (still_fits work) es ≡ true → is_sound work.node ≡ true → is_sound (fold (abort_old age) work (picked which es)).node ≡ true
  all_aborted [] work ordered all sound = sound
  all_aborted (e ∷ es) work ordered all sound = by (is_one which e.0 e.1) its.0 (λ (w : Work) (left : list_all (still_fits w) es ≡ true) (so : is_sound w.node ≡ true). all_aborted es w (order_tail e es ordered) left so)
    where
      its : (still_fits work e ≡ true) × (list_all (still_fits work) es ≡ true)
      its = and_both (still_fits work e) (list_all (still_fits work) es) all

      by : (b : Bool) → where_so b (is_open_at work e.0) ≡ true → ((w : Work) → list_all (still_fits w) es ≡ true → is_sound w.node ≡ true → is_sound (fold (abort_old age) w (picked which es)).node ≡ true)
          → is_sound (fold (abort_old age) work (if b then e.0 ∷ picked which es else picked which es)).node ≡ true
      by true opened more = more (abort_old age work e.0) (fits_on e.0 work es (behind e es ordered) its.1) (aborted work e.0 opened sound)
      by false opened more = more work its.1 sound

pub age_sound : (limit : Option ℕ) (work : Work) → is_sound work.node ≡ true → is_sound (age_rule limit work).node ≡ true
age_sound None work sound = sound
age_sound (Some age) work sound = subst (λ (tids : List Tid). is_sound (fold (abort_old age) work tids).node ≡ true) (sym (put_all (whiches.Aged work.node.manager.ticks age) work.node.manager.known []))
    (all_aborted (whiches.Aged work.node.manager.ticks age) age work.node.manager.known work (seen work.node sound).ordered (all_fit (whiches.Aged work.node.manager.ticks age) opens work.node.manager.known (seen work.node sound).ordered) sound)
  where
    opens : (t : Tid) (part : Participant) → is_one (whiches.Aged work.node.manager.ticks age) t part ≡ true → is_home_open part ≡ true
    opens t part is = by (is_undecided part) part.engage.home _ is
      where
        by : (u h b : Bool) → (u && (h && b)) ≡ true → (h && u) ≡ true
        by true true b so = refl
        by true false b so = absurd (cc (so))
        by false h b so = absurd (cc (so))
