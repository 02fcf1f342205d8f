-- A change at one participant, in the queues or in what is kept leaves every other part of what is said of a sound node.
use Rattle.qs_world_refine.proofs.Words.{◌≡◌, ◌&&◌, not, Bool, true, false, List, [], ◌∷◌, Option, Some, None, refl, sym, subst, arith, list_all, lookup, is_at, Ordering, Less, Equal, Greater, nat_tests, tid_exact, tid_cmp, Tid, IpcValue, is_standing_loan, Lent, needs_pass, Participant, is_lent, NodeValue, in_order, is_less, is_sound_part, is_sound_queue, is_sound_delivery, is_sound_loan, is_sound_label, may_be_served, is_past, where_so}
use Rattle.std.specs.Ordering.{is_eq}
use Rattle.qs_ipc.specs.Ipc as ipc
use Rattle.qs_node_kept.specs.Keeping.{KeepingValue}
use Rattle.qs_node_kept.specs.declared.kept.KeptLabel.{KeptLabel}
use Rattle.qs_world_refine.proofs.SoundParts.{and_both, both_and}
use Rattle.qs_world_refine.proofs.SoundBegin.{all_implied}
use Rattle.qs_world_refine.proofs.SoundViews.{PartSound, is_apart, part_seen, part_as}

-- ---- transactions in order: each stands once

pub less_on : (a b c : Tid) → is_less (tid_cmp a b) ≡ true → is_less (tid_cmp b c) ≡ true → is_less (tid_cmp a c) ≡ true
less_on a b c first next = grind (arith, nat_tests, first, next)

abbrev pub is_below : Tid → Tid × Participant → Bool
is_below k e = is_less (tid_cmp k e.0)

below_all : (k : Tid) (e : Tid × Participant) (es : List (Tid × Participant)) → is_less (tid_cmp k e.0) ≡ true → in_order (e ∷ es) ≡ true → list_all (is_below k) es ≡ true
below_all k e [] is ordered = refl
below_all k e (next ∷ es) is ordered =
    let both : (is_less (tid_cmp e.0 next.0) ≡ true) × (in_order (next ∷ es) ≡ true) = and_both (is_less (tid_cmp e.0 next.0)) (in_order (next ∷ es)) ordered in
    let this : is_less (tid_cmp k next.0) ≡ true = less_on k e.0 next.0 is both.0 in
    both_and (is_below k next) (list_all (is_below k) es) this (below_all k next es this both.1)

pub behind : (e : Tid × Participant) (es : List (Tid × Participant)) → in_order (e ∷ es) ≡ true → list_all (is_below e.0) es ≡ true
behind e [] ordered = refl
behind e (next ∷ es) ordered =
    let both : (is_less (tid_cmp e.0 next.0) ≡ true) × (in_order (next ∷ es) ≡ true) = and_both (is_less (tid_cmp e.0 next.0)) (in_order (next ∷ es)) ordered in
    both_and (is_below e.0 next) (list_all (is_below e.0) es) both.0 (below_all e.0 next es both.0 both.1)

pub order_tail : (e : Tid × Participant) (es : List (Tid × Participant)) → in_order (e ∷ es) ≡ true → in_order es ≡ true
order_tail e [] ordered = refl
order_tail e (next ∷ es) ordered = (and_both (is_less (tid_cmp e.0 next.0)) (in_order (next ∷ es)) ordered).1

module _ (tid : Tid) where
  abbrev here : Tid → Bool
  here = is_at (tid_cmp tid)

  other : (r : Ordering) → is_less r ≡ true → is_eq r ≡ false
  other Less is = refl
  other Equal is = absurd (cc (is))
  other Greater is = absurd (cc (is))

  key_here : (k : Tid) → here k ≡ true → tid ≡ k
  key_here k is = tid_exact tid k (by (tid_cmp tid k) is)
    where
      by : (r : Ordering) → is_eq r ≡ true → r ≡ Equal
      by Less is = absurd (cc (is))
      by Equal is = refl
      by Greater is = absurd (cc (is))

  -- what holds of the one entry of a transaction, and stays of every other one, holds of all
  pub all_beside : (p q : Tid × Participant → Bool) (part : Participant) → q (tid, part) ≡ true → ((e : Tid × Participant) → here e.0 ≡ false → p e ≡ true → q e ≡ true)
      → (es : List (Tid × Participant)) → lookup here es ≡ Some part → in_order es ≡ true → list_all p es ≡ true → list_all q es ≡ true
  all_beside p q part its stays [] found ordered all = refl
  all_beside p q part its stays (e ∷ es) found ordered all = by (here e.0) refl (all_beside p q part its stays es)
    where
      both : (p e ≡ true) × (list_all p es ≡ true)
      both = and_both (p e) (list_all p es) all

      rest : here e.0 ≡ true → list_all q es ≡ true
      rest is = all_from es both.1 (subst (λ (k : Tid). list_all (is_below k) es ≡ true) (sym (key_here e.0 is)) (behind e es ordered))
        where
          all_from : (xs : List (Tid × Participant)) → list_all p xs ≡ true → list_all (is_below tid) xs ≡ true → list_all q xs ≡ true
          all_from [] so above = refl
          all_from (x ∷ xs) so above =
              let first : (p x ≡ true) × (list_all p xs ≡ true) = and_both (p x) (list_all p xs) so in
              let low : (is_below tid x ≡ true) × (list_all (is_below tid) xs ≡ true) = and_both (is_below tid x) (list_all (is_below tid) xs) above in
              both_and (q x) (list_all q xs) (stays x (other (tid_cmp tid x.0) low.0) first.0) (all_from xs first.1 low.1)

      by : (b : Bool) → here e.0 ≡ b → (lookup here es ≡ Some part → in_order es ≡ true → list_all p es ≡ true → list_all q es ≡ true) → list_all q (e ∷ es) ≡ true
      by true is more =
          let value : Some e.1 ≡ Some part = rw is at found in
          both_and (q e) (list_all q es) (subst (λ (x : Participant). q (e.0, x) ≡ true) (sym (cc (value))) (subst (λ (k : Tid). q (k, part) ≡ true) (key_here e.0 is) its)) (rest is)
      by false is more = both_and (q e) (list_all q es) (stays e is both.0) (more (rw is at found) (order_tail e es ordered) both.1)

-- ---- the node with other participants, queues and things kept

module _ (node : NodeValue) (known : List (Tid × Participant)) (queues : IpcValue) (kept : KeepingValue) where
  abbrev pub moved : NodeValue
  moved = record node { manager = record node.manager { known = known }; queues = queues; kept = kept }

  still : (c a b d e n : Bool) → (d ≡ true → a ≡ true) → (e ≡ true → b ≡ true) → where_so c (not a && (not b && not n)) ≡ true → where_so c (not d && (not e && not n)) ≡ true
  still false a b d e n f g is = refl
  still true true b d e n f g is = absurd (cc (is))
  still true false true d e n f g is = absurd (cc (is))
  still true false false true e n f g is = let off : false ≡ true = f refl in absurd (cc (off))
  still true false false false true n f g is = let off : false ≡ true = g refl in absurd (cc (off))
  still true false false false false n f g is = is

  -- a participant stays sound where no more waits, and no more loans stand
  pub part_moved : (t : Tid) (part : Participant) → (ipc.waits t queues ≡ true → ipc.waits t node.queues ≡ true) → (is_lent t moved ≡ true → is_lent t node ≡ true)
      → PartSound node t part → PartSound moved t part
  part_moved t part waits lent is = record {
    whole = is.whole;
    homed = is.homed;
    peers = is.peers;
    members = is.members;
    superior = is.superior;
    outside = is.outside;
    idle = still (is_apart part) (ipc.waits t node.queues) (is_lent t node) (ipc.waits t queues) (is_lent t moved) (needs_pass part) waits lent is.idle;
    began = is.began;
    logged = is.logged;
    silent = is.silent;
  }

  -- and anyhow where it is at the home, decided, or engaged
  pub part_busy : (t : Tid) (part : Participant) → is_apart part ≡ false → PartSound node t part → PartSound moved t part
  part_busy t part off is = record {
    whole = is.whole;
    homed = is.homed;
    peers = is.peers;
    members = is.members;
    superior = is.superior;
    outside = is.outside;
    idle = rw off refl;
    began = is.began;
    logged = is.logged;
    silent = is.silent;
  }

  pub parts_moved : ((t : Tid) → ipc.waits t queues ≡ true → ipc.waits t node.queues ≡ true) → ((t : Tid) → is_lent t moved ≡ true → is_lent t node ≡ true)
      → (es : List (Tid × Participant)) → list_all (is_sound_part node) es ≡ true → list_all (is_sound_part moved) es ≡ true
  parts_moved waits lent = all_implied (is_sound_part node) (is_sound_part moved)
      (λ e is. part_as moved e.0 e.1 (part_moved e.0 e.1 (waits e.0) (lent e.0) (part_seen node e.0 e.1 is)))

  -- more waits, or is lent, of one that is at the home, decided, or engaged
  pub parts_beside : (tid : Tid) (part : Participant) → is_apart part ≡ false
      → ((t : Tid) → is_at (tid_cmp tid) t ≡ false → ipc.waits t queues ≡ true → ipc.waits t node.queues ≡ true)
      → ((t : Tid) → is_at (tid_cmp tid) t ≡ false → is_lent t moved ≡ true → is_lent t node ≡ true)
      → is_sound_part node (tid, part) ≡ true
      → (es : List (Tid × Participant)) → lookup (is_at (tid_cmp tid)) es ≡ Some part → in_order es ≡ true → list_all (is_sound_part node) es ≡ true → list_all (is_sound_part moved) es ≡ true
  parts_beside tid part off waits lent its = all_beside tid (is_sound_part node) (is_sound_part moved) part
      (part_as moved tid part (part_busy tid part off (part_seen node tid part its)))
      (λ e apart is. part_as moved e.0 e.1 (part_moved e.0 e.1 (waits e.0 apart) (lent e.0 apart) (part_seen node e.0 e.1 is)))

  module _ (serves : (t : Tid) → may_be_served node t ≡ true → may_be_served moved t ≡ true) where
    pub queues_moved : (qs : IpcValue) → list_all (is_sound_queue node) qs ≡ true → list_all (is_sound_queue moved) qs ≡ true
    queues_moved = all_implied (is_sound_queue node) (is_sound_queue moved)
        (λ queue. all_implied (is_sound_delivery node queue.0) (is_sound_delivery moved queue.0) (λ delivery is. turned _ (may_be_served node delivery.tid) (may_be_served moved delivery.tid) _ (serves delivery.tid) is) queue.1.waiting)
      where
        turned : (a h k d : Bool) → (h ≡ true → k ≡ true) → (a && (h && d)) ≡ true → (a && (k && d)) ≡ true
        turned true true k true more is = rw (more refl) refl
        turned true true k false more is = absurd (cc (is))
        turned true false k d more is = absurd (cc (is))
        turned false h k d more is = absurd (cc (is))

    pub loans_moved : (loans : List Lent) → list_all (is_sound_loan node) loans ≡ true → list_all (is_sound_loan moved) loans ≡ true
    loans_moved = all_implied (is_sound_loan node) (is_sound_loan moved) (λ loan. turned (is_standing_loan loan.tid node.setting.inc loan) (may_be_served node loan.tid) (may_be_served moved loan.tid) (serves loan.tid))
      where
        turned : (b h k : Bool) → (h ≡ true → k ≡ true) → where_so b h ≡ true → where_so b k ≡ true
        turned true h k more is = more is
        turned false h k more is = refl

  pub labels_moved : ((t : Tid) → is_past node t ≡ true → is_past moved t ≡ true) → (labels : List KeptLabel) → list_all (is_sound_label node) labels ≡ true → list_all (is_sound_label moved) labels ≡ true
  labels_moved past = all_implied (is_sound_label node) (is_sound_label moved) (λ begun. by begun.tid)
    where
      by : (o : Option Tid) → ◌≡◌ {A = Bool} (elim o [ None ↦ true | Some t ↦ is_past node t ]) true → ◌≡◌ {A = Bool} (elim o [ None ↦ true | Some t ↦ is_past moved t ]) true
      by None is = refl
      by (Some t) is = past t is
