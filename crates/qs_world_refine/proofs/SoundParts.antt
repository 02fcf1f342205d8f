-- A node stays sound where what it keeps of one transaction is changed, and its outcome is not.
use Rattle.qs_world_refine.proofs.Words.{◌≡◌, ◌&&◌, ◌||◌, not, Bool, true, false, List, [], ◌∷◌, Option, Some, None, refl, sym, ap, subst, ◌∙◌, arith, list_all, lookup, set_value, is_at, Ordering, Equal, nat_tests, tid_exact, tid_cmp, same_tid, Tid, is_abort, is_undecided, Participant, was_committed, NodeValue, began_here, is_sound, fits_setting, in_order, is_less, is_sound_part, is_sound_queue, is_sound_delivery, is_sound_loan, is_sound_label, may_be_served, is_past, where_so}
use Rattle.qs_base.specs.declared.identifiers.Outcome.{Outcome}
use Rattle.qs_tm.specs.Manager as tm
use Rattle.qs_world_refine.proofs.Frames.{part_apart}
use Rattle.qs_world_refine.proofs.Maps.{lookup_changed, changed_none}

-- ---- truth values and lists

pub and_both : (a b : Bool) → (a && b) ≡ true → (a ≡ true) × (b ≡ true)
and_both true b is = (refl, is)
and_both false b is = absurd (cc (is))

pub both_and : (a b : Bool) → a ≡ true → b ≡ true → (a && b) ≡ true
both_and a b is so = rw (is, so) refl

pub all_alike : {X : Type 0} (p q : X → Bool) → ((x : X) → q x ≡ p x) → (xs : List X) → list_all q xs ≡ list_all p xs
all_alike p q same [] = refl
all_alike p q same (x ∷ xs) = rw (same x, all_alike p q same xs) refl

-- ---- a value under a key

module _ (tid : Tid) where
  abbrev here : Tid → Bool
  here = is_at (tid_cmp tid)

  equal_key : (k : Tid) → here k ≡ true → tid ≡ k
  equal_key k is = tid_exact tid k (by (tid_cmp tid k) is)
    where
      by : (r : Ordering) → Rattle.std.specs.Ordering.is_eq r ≡ true → r ≡ Equal
      by Rattle.std.specs.declared.cmp.Ordering.TheVariants.Less is = absurd (cc (is))
      by Rattle.std.specs.declared.cmp.Ordering.TheVariants.Equal is = refl
      by Rattle.std.specs.declared.cmp.Ordering.TheVariants.Greater is = absurd (cc (is))

  pub all_found : {V : Type 0} (q : Tid × V → Bool) (es : List (Tid × V)) (v : V) → lookup here es ≡ Some v → list_all q es ≡ true → q (tid, v) ≡ true
  all_found q [] v found all = absurd (cc (found))
  all_found {V} q (e ∷ es) v found all = by (here e.0) refl (all_found q es v)
    where
      by : (b : Bool) → here e.0 ≡ b → (lookup here es ≡ Some v → list_all q es ≡ true → q (tid, v) ≡ true) → q (tid, v) ≡ true
      by true is more = let value : Some e.1 ≡ Some v = rw is at found in
          subst (λ (x : V). q (tid, x) ≡ true) (cc (value)) (subst (λ (k : Tid). q (k, e.1) ≡ true) (sym (equal_key e.0 is)) (and_both (q e) (list_all q es) all).0)
      by false is more = more (rw is at found) (and_both (q e) (list_all q es) all).1

  pub all_set : {V : Type 0} (q : Tid × V → Bool) (es : List (Tid × V)) (v : V) → q (tid, v) ≡ true → list_all q es ≡ true → list_all q (set_value here es v) ≡ true
  all_set q [] v new all = refl
  all_set {V} q (e ∷ es) v new all = by (here e.0) refl (all_set q es v new (and_both (q e) (list_all q es) all).1)
    where
      by : (b : Bool) → here e.0 ≡ b → list_all q (set_value here es v) ≡ true → list_all q (set_value here (e ∷ es) v) ≡ true
      by true is more = rw is (both_and (q (e.0, v)) (list_all q es) (subst (λ (k : Tid). q (k, v) ≡ true) (equal_key e.0 is) new) (and_both (q e) (list_all q es) all).1)
      by false is more = rw is (both_and (q e) (list_all q (set_value here es v)) (and_both (q e) (list_all q es) all).0 more)

pub order_set : (p : Tid → Bool) (es : List (Tid × Participant)) (v : Participant) → in_order (set_value p es v) ≡ in_order es
order_set p [] v = refl
order_set p (e ∷ []) v = by (p e.0) refl
  where
    by : (b : Bool) → p e.0 ≡ b → in_order (set_value p (e ∷ []) v) ≡ true
    by true is = rw is refl
    by false is = rw is refl
order_set p (e ∷ (next ∷ rest)) v = by (p e.0) (p next.0) refl refl (order_set p (next ∷ rest) v)
  where
    by : (b c : Bool) → p e.0 ≡ b → p next.0 ≡ c → in_order (set_value p (next ∷ rest) v) ≡ in_order (next ∷ rest) → in_order (set_value p (e ∷ (next ∷ rest)) v) ≡ in_order (e ∷ (next ∷ rest))
    by true c is has more = rw is refl
    by false true is has more = rw (is, has) (ap (λ (b : Bool). is_less (tid_cmp e.0 next.0) && b) (rw has at more))
    by false false is has more = rw (is, has) (ap (λ (b : Bool). is_less (tid_cmp e.0 next.0) && b) (rw has at more))

-- ---- what is kept of the transaction is changed

module _ (tid : Tid) (f : Participant → Participant) (node : NodeValue) where
  abbrev pub new : NodeValue
  new = record node { manager = tm.with_part tid f node.manager }

  module _ (part : Participant) (known : tm.part_of tid node.manager ≡ Some part) (same : (f part).outcome ≡ part.outcome) where
    abbrev serves : Participant → Bool
    serves part = is_undecided part || is_abort part.outcome

    found_as : {A : Type 0} (nothing : A) (g : Participant → A) → g (f part) ≡ g part → (t : Tid) → tm.told_of t nothing g new.manager ≡ tm.told_of t nothing g node.manager
    found_as {A} nothing g alike t = by (same_tid t tid) refl
      where
        told : Option Participant → A
        told o = elim o [ None ↦ nothing | Some p ↦ g p ]

        by : (b : Bool) → same_tid t tid ≡ b → tm.told_of t nothing g new.manager ≡ tm.told_of t nothing g node.manager
        by true is = subst (λ (u : Tid). tm.told_of u nothing g new.manager ≡ tm.told_of u nothing g node.manager) (tid_exact tid t (grind (arith, nat_tests, is)))
            (ap told (lookup_changed (is_at (tid_cmp tid)) f node.manager.known part known) ∙ (alike ∙ sym (ap told known)))
        by false apart = ap told (part_apart t tid f node.manager apart)

    served_same : (t : Tid) → may_be_served new t ≡ may_be_served node t
    served_same t = found_as false serves (ap (λ (o : Option Outcome). Rattle.std.specs.Prelude.is_none o || is_abort o) same) t

    past_same : (t : Tid) → is_past new t ≡ is_past node t
    past_same t = ap (λ (b : Bool). where_so (began_here node t && not b) (was_committed t node)) (known_same t)
      where
        known_as : (m : Rattle.qs_tm.specs.declared.manager.Manager.Manager) (u : Tid) → tm.told_of u false (λ part. true) m ≡ tm.knows u m
        known_as m u = by (tm.part_of u m)
          where
            by : (o : Option Participant) → ◌≡◌ {A = Bool} (elim o [ None ↦ false | Some p ↦ true ]) (Rattle.std.specs.Prelude.is_some o)
            by None = refl
            by (Some p) = refl

        known_same : (t : Tid) → tm.knows t new.manager ≡ tm.knows t node.manager
        known_same t = sym (known_as new.manager t) ∙ (found_as false (λ part. true) refl t ∙ known_as node.manager t)

    queues_same : list_all (is_sound_queue new) node.queues ≡ list_all (is_sound_queue node) node.queues
    queues_same = all_alike (is_sound_queue node) (is_sound_queue new) (λ queue. all_alike (is_sound_delivery node queue.0) (is_sound_delivery new queue.0) (λ delivery. rw (served_same delivery.tid) refl) queue.1.waiting) node.queues

    loans_same : list_all (is_sound_loan new) node.kept.now.loans ≡ list_all (is_sound_loan node) node.kept.now.loans
    loans_same = all_alike (is_sound_loan node) (is_sound_loan new) (λ loan. rw (served_same loan.tid) refl) node.kept.now.loans

    labels_same : list_all (is_sound_label new) node.kept.now.labels ≡ list_all (is_sound_label node) node.kept.now.labels
    labels_same = all_alike (is_sound_label node) (is_sound_label new) (λ begun. by begun.tid) node.kept.now.labels
      where
        by : (o : Option Tid) → ◌≡◌ {A = Bool} (elim o [ None ↦ true | Some t ↦ is_past new t ]) (elim o [ None ↦ true | Some t ↦ is_past node t ])
        by None = refl
        by (Some t) = past_same t

    known_is : new.manager.known ≡ set_value (is_at (tid_cmp tid)) node.manager.known (f part)
    known_is = ap (λ (o : Option Participant). elim o [ None ↦ node.manager.known | Some v ↦ set_value (is_at (tid_cmp tid)) node.manager.known (f v) ]) known

    -- where the new one is sound, the node is
    pub part_sound : is_sound_part node (tid, f part) ≡ true → is_sound node ≡ true → is_sound new ≡ true
    part_sound its sound =
        let front : ((fits_setting node && (in_order node.manager.known && list_all (is_sound_part node) node.manager.known)) ≡ true)
        × ((list_all (is_sound_queue node) node.queues && (list_all (is_sound_loan node) node.kept.now.loans && list_all (is_sound_label node) node.kept.now.labels)) ≡ true)
        = and_both (fits_setting node && (in_order node.manager.known && list_all (is_sound_part node) node.manager.known)) _ sound in
        let fits : (fits_setting node ≡ true) × ((in_order node.manager.known && list_all (is_sound_part node) node.manager.known) ≡ true) = and_both (fits_setting node) _ front.0 in
        let parts : (in_order node.manager.known ≡ true) × (list_all (is_sound_part node) node.manager.known ≡ true) = and_both (in_order node.manager.known) _ fits.1 in
        both_and (fits_setting new && (in_order new.manager.known && list_all (is_sound_part new) new.manager.known)) _
        (both_and (fits_setting new) _ fits.0 (rw known_is (both_and (in_order (set_value (is_at (tid_cmp tid)) node.manager.known (f part))) _ (order_set (is_at (tid_cmp tid)) node.manager.known (f part) ∙ parts.0)
        (all_set tid (is_sound_part node) node.manager.known (f part) its parts.1))))
        (rw (queues_same, loans_same, labels_same) front.1)

  -- where all that is said of it stays, whether it is known or not
  pub hidden_sound : ((part : Participant) → (f part).outcome ≡ part.outcome) → ((part : Participant) → is_sound_part node (tid, f part) ≡ is_sound_part node (tid, part)) → is_sound node ≡ true → is_sound new ≡ true
  hidden_sound same alike sound = by (tm.part_of tid node.manager) refl
    where
      parts : list_all (is_sound_part node) node.manager.known ≡ true
      parts = (and_both (in_order node.manager.known) _ (and_both (fits_setting node) _ (and_both (fits_setting node && (in_order node.manager.known && list_all (is_sound_part node) node.manager.known)) _ sound).0).1).1

      by : (o : Option Participant) → tm.part_of tid node.manager ≡ o → is_sound new ≡ true
      by None none = rw (changed_none (is_at (tid_cmp tid)) f node.manager.known none) sound
      by (Some part) known = part_sound part known (same part) (alike part ∙ all_found tid (is_sound_part node) node.manager.known part known parts) sound
