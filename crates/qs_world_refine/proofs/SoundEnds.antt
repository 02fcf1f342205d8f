-- A node stays sound where the outcome of a transaction gets known, and where the transaction is forgotten.
use Rattle.qs_world_refine.proofs.Words.{◌≡◌, ◌&&◌, ◌||◌, not, Bool, true, false, List, [], ◌∷◌, ◌++◌, Option, Some, None, is_some, refl, sym, ap, subst, ◌∙◌, arith, if◌then◌else◌, list_all, list_any, find, set_value, remove_entry, is_at, nat_tests, tid_cmp, same_tid, ServerNo, Tid, IpcValue, waits_in, is_for, Delivery, is_outcome_of, is_standing_loan, Decided, Lent, Cause, changed_value, is_abort, is_undecided, Participant, was_committed, is_kept_commit, keep_outcome, is_lent, forget, NodeValue}
use Rattle.qs_world_refine.proofs.Words.{Work, began_here, is_sound, in_order, is_less, is_sound_part, is_sound_queue, is_sound_delivery, is_sound_loan, may_be_served, is_past, where_so, or_parts}
use Rattle.qs_base.specs.declared.identifiers.Outcome.{Outcome}
use Rattle.qs_ipc.specs.Ipc as ipc
use Rattle.qs_ipc.specs.Queue.{is_of}
use Rattle.qs_tm.specs.Manager as tm
use Rattle.qs_world_refine.proofs.Frames.{part_apart}
use Rattle.qs_world_refine.proofs.Maps.{lookup_changed}
use Rattle.qs_world_refine.proofs.Others.{forget_apart}
use Rattle.qs_world_refine.proofs.SoundParts.{and_both, both_and, all_set, order_set}
use Rattle.qs_world_refine.proofs.SoundViews.{NodeSound, PartSound, seen, sound_as, part_as}
use Rattle.qs_world_refine.proofs.SoundFrames.{moved, queues_moved, loans_moved, labels_moved, less_on}
use Rattle.qs_world_refine.proofs.SoundKnown.{same_is}
use Rattle.qs_world_refine.proofs.SoundQueued.{forgotten_sound}

-- ---- nothing waits and nothing is lent of it

all_without : {X : Type 0} (p q r : X → Bool) → ((x : X) → p x ≡ true → r x ≡ false → q x ≡ true) → (xs : List X) → list_all p xs ≡ true → list_any r xs ≡ false → list_all q xs ≡ true
all_without p q r each [] all none = refl
all_without p q r each (x ∷ xs) all none =
    let both : (p x ≡ true) × (list_all p xs ≡ true) = and_both (p x) (list_all p xs) all in
    let neither : (r x ≡ false) × (list_any r xs ≡ false) = or_parts (r x) (list_any r xs) none in
    both_and (q x) (list_all q xs) (each x both.0 neither.0) (all_without p q r each xs both.1 neither.1)

module _ (tid : Tid) (node : NodeValue) (known : List (Tid × Participant)) (serves : (t : Tid) → same_tid t tid ≡ false → may_be_served node t ≡ true → may_be_served (moved node known node.queues node.kept) t ≡ true) where
  delivery_moved : (server : ServerNo) (d : Delivery) → is_sound_delivery node server d ≡ true → is_of tid d ≡ false → is_sound_delivery (moved node known node.queues node.kept) server d ≡ true
  delivery_moved server d is other = turned (is_for server d.op) (may_be_served node d.tid) (may_be_served (moved node known node.queues node.kept) d.tid) _ (serves d.tid (grind (arith, nat_tests, other))) is
    where
      turned : (a h k b : Bool) → (h ≡ true → k ≡ true) → (a && (h && b)) ≡ true → (a && (k && b)) ≡ true
      turned true true k true more so = rw (more refl) refl
      turned true true k false more so = absurd (cc (so))
      turned true false k b more so = absurd (cc (so))
      turned false h k b more so = absurd (cc (so))

  queues_without : (qs : IpcValue) → list_all (is_sound_queue node) qs ≡ true → ipc.waits tid qs ≡ false → list_all (is_sound_queue (moved node known node.queues node.kept)) qs ≡ true
  queues_without = all_without (is_sound_queue node) (is_sound_queue (moved node known node.queues node.kept)) (waits_in tid)
      (λ q is none. all_without (is_sound_delivery node q.0) (is_sound_delivery (moved node known node.queues node.kept) q.0) (is_of tid) (delivery_moved q.0) q.1.waiting is none)

  loan_moved : (loan : Lent) → is_sound_loan node loan ≡ true → is_standing_loan tid node.setting.inc loan ≡ false → is_sound_loan (moved node known node.queues node.kept) loan ≡ true
  loan_moved loan is none = by (same_tid loan.tid tid) refl
    where
      turned : (b h k : Bool) → (h ≡ true → k ≡ true) → where_so b h ≡ true → where_so b k ≡ true
      turned true h k more so = more so
      turned false h k more so = refl

      gone : (b k : Bool) → b ≡ false → where_so b k ≡ true
      gone b k so = rw so refl

      by : (b : Bool) → same_tid loan.tid tid ≡ b → is_sound_loan (moved node known node.queues node.kept) loan ≡ true
      by true same = gone (is_standing_loan loan.tid node.setting.inc loan) (may_be_served (moved node known node.queues node.kept) loan.tid)
          (subst (λ (t : Tid). is_standing_loan t node.setting.inc loan ≡ false) (sym (same_is loan.tid tid same)) none)
      by false other = turned (is_standing_loan loan.tid node.setting.inc loan) (may_be_served node loan.tid) (may_be_served (moved node known node.queues node.kept) loan.tid) (serves loan.tid other) is

  loans_without : (loans : List Lent) → list_all (is_sound_loan node) loans ≡ true → list_any (is_standing_loan tid node.setting.inc) loans ≡ false → list_all (is_sound_loan (moved node known node.queues node.kept)) loans ≡ true
  loans_without = all_without (is_sound_loan node) (is_sound_loan (moved node known node.queues node.kept)) (is_standing_loan tid node.setting.inc) loan_moved

-- ---- what is kept of it is changed

module _ (tid : Tid) (f : Participant → Participant) (node : NodeValue) (part : Participant) (known : tm.part_of tid node.manager ≡ Some part) where
  abbrev new_known : List (Tid × Participant)
  new_known = changed_value (is_at (tid_cmp tid)) f node.manager.known

  abbrev served_as : Option Participant → Bool
  served_as o = elim o [ None ↦ false | Some p ↦ is_undecided p || is_abort p.outcome ]

  knows_same : (t : Tid) → tm.knows t (tm.with_part tid f node.manager) ≡ tm.knows t node.manager
  knows_same t = by (same_tid t tid) refl
    where
      by : (b : Bool) → same_tid t tid ≡ b → tm.knows t (tm.with_part tid f node.manager) ≡ tm.knows t node.manager
      by true same = subst (λ (u : Tid). tm.knows u (tm.with_part tid f node.manager) ≡ tm.knows u node.manager) (sym (same_is t tid same))
          (ap (λ (o : Option Participant). is_some o) (lookup_changed (is_at (tid_cmp tid)) f node.manager.known part known) ∙ sym (ap (λ (o : Option Participant). is_some o) known))
      by false other = ap (λ (o : Option Participant). is_some o) (part_apart t tid f node.manager other)

  past_same : (t : Tid) → is_past node t ≡ true → is_past (moved node new_known node.queues node.kept) t ≡ true
  past_same t is = ap (λ (b : Bool). where_so (began_here node t && not b) (was_committed t node)) (knows_same t) ∙ is

  others_serve : (t : Tid) → same_tid t tid ≡ false → may_be_served node t ≡ true → may_be_served (moved node new_known node.queues node.kept) t ≡ true
  others_serve t other is = ap served_as (part_apart t tid f node.manager other) ∙ is

  known_is : new_known ≡ set_value (is_at (tid_cmp tid)) node.manager.known (f part)
  known_is = ap (λ (o : Option Participant). elim o [ None ↦ node.manager.known | Some v ↦ set_value (is_at (tid_cmp tid)) node.manager.known (f v) ]) known

  changed_to : PartSound node tid (f part) → list_all (is_sound_queue (moved node new_known node.queues node.kept)) node.queues ≡ true → list_all (is_sound_loan (moved node new_known node.queues node.kept)) node.kept.now.loans ≡ true
      → NodeSound node → is_sound (record node { manager = tm.with_part tid f node.manager }) ≡ true
  changed_to its queues loans s = sound_as (record node { manager = tm.with_part tid f node.manager }) (record {
    fits = s.fits;
    ordered = rw known_is (order_set (is_at (tid_cmp tid)) node.manager.known (f part) ∙ s.ordered);
    parts = rw known_is (all_set tid (is_sound_part node) node.manager.known (f part) (part_as node tid (f part) its) s.parts);
    queues = queues;
    loans = loans;
    labels = labels_moved node new_known node.queues node.kept past_same node.kept.now.labels s.labels;
  })

  -- it may still be served
  pub part_turned : (served_as (Some part) ≡ true → served_as (Some (f part)) ≡ true) → PartSound node tid (f part) → is_sound node ≡ true → is_sound (record node { manager = tm.with_part tid f node.manager }) ≡ true
  part_turned more its sound =
      let s = seen node sound in
      changed_to its (queues_moved node new_known node.queues node.kept serves node.queues s.queues) (loans_moved node new_known node.queues node.kept serves node.kept.now.loans s.loans) s
    where
      serves : (t : Tid) → may_be_served node t ≡ true → may_be_served (moved node new_known node.queues node.kept) t ≡ true
      serves t is = by (same_tid t tid) refl
        where
          by : (b : Bool) → same_tid t tid ≡ b → may_be_served (moved node new_known node.queues node.kept) t ≡ true
          by true same =
              let now : may_be_served node tid ≡ true = subst (λ (u : Tid). may_be_served node u ≡ true) (same_is t tid same) is in
              subst (λ (u : Tid). may_be_served (moved node new_known node.queues node.kept) u ≡ true) (sym (same_is t tid same))
              (ap served_as (lookup_changed (is_at (tid_cmp tid)) f node.manager.known part known) ∙ more (sym (ap served_as known) ∙ now))
          by false other = others_serve t other is

  -- or nothing of it waits, and nothing is lent
  pub part_ended : ipc.waits tid node.queues ≡ false → is_lent tid node ≡ false → PartSound node tid (f part) → is_sound node ≡ true → is_sound (record node { manager = tm.with_part tid f node.manager }) ≡ true
  part_ended waits lent its sound =
      let s = seen node sound in
      changed_to its (queues_without tid node new_known others_serve node.queues s.queues waits) (loans_without tid node new_known others_serve node.kept.now.loans s.loans lent) s

-- ---- an outcome is kept for the owner

find_more : (p : Decided → Bool) (xs ys : List Decided) → is_kept_commit (find p xs) ≡ true → is_kept_commit (find p (xs ++ ys)) ≡ true
find_more p [] ys is = absurd (cc (is))
find_more p (x ∷ xs) ys is = by (p x) refl (find_more p xs ys)
  where
    by : (b : Bool) → p x ≡ b → (is_kept_commit (find p xs) ≡ true → is_kept_commit (find p (xs ++ ys)) ≡ true) → is_kept_commit (find p (x ∷ (xs ++ ys))) ≡ true
    by true at more = rw at (rw at at is)
    by false at more = rw at (more (rw at at is))

pub keep_sound : (tid : Tid) (outcome : Outcome) (cause : Option Cause) (work : Work) → is_sound work.node ≡ true → is_sound (keep_outcome tid outcome cause work).node ≡ true
keep_sound tid outcome cause work sound =
    let s = seen work.node sound in
    sound_as kept.node (record { fits = s.fits; ordered = s.ordered; parts = s.parts; queues = s.queues; loans = s.loans; labels = labels_moved work.node work.node.manager.known work.node.queues kept.node.kept past work.node.kept.now.labels s.labels })
  where
    kept : Work
    kept = keep_outcome tid outcome cause work

    past : (t : Tid) → is_past work.node t ≡ true → is_past (moved work.node work.node.manager.known work.node.queues kept.node.kept) t ≡ true
    past t = by (began_here work.node t && not (tm.knows t work.node.manager)) (is_kept_commit (find (is_outcome_of t) work.node.kept.now.outcomes)) (is_kept_commit (find (is_outcome_of t) (work.node.kept.now.outcomes ++ record { tid = tid; outcome = outcome; cause = cause } ∷ [])))
        (list_any (same_tid t) work.node.committed) (find_more (is_outcome_of t) work.node.kept.now.outcomes (record { tid = tid; outcome = outcome; cause = cause } ∷ []))
      where
        by : (c a b l : Bool) → (a ≡ true → b ≡ true) → where_so c (a || l) ≡ true → where_so c (b || l) ≡ true
        by false a b l more is = refl
        by true true b l more is = rw (more refl) refl
        by true false true l more is = refl
        by true false false l more is = is

-- ---- it is forgotten

module _ (tid : Tid) where
  abbrev here : Tid → Bool
  here = is_at (tid_cmp tid)

  pub all_removed : {V : Type 0} (p : Tid × V → Bool) (es : List (Tid × V)) → list_all p es ≡ true → list_all p (remove_entry here es) ≡ true
  all_removed p [] is = is
  all_removed p (e ∷ es) is = by (here e.0) refl (all_removed p es (and_both (p e) (list_all p es) is).1)
    where
      by : (b : Bool) → here e.0 ≡ b → list_all p (remove_entry here es) ≡ true → list_all p (remove_entry here (e ∷ es)) ≡ true
      by true at rest = rw at (and_both (p e) (list_all p es) is).1
      by false at rest = rw at (both_and (p e) (list_all p (remove_entry here es)) (and_both (p e) (list_all p es) is).0 rest)

  pub order_removed : (es : List (Tid × Participant)) → in_order es ≡ true → in_order (remove_entry here es) ≡ true
  order_removed [] is = is
  order_removed (e ∷ []) is = by (here e.0) refl
    where
      by : (b : Bool) → here e.0 ≡ b → in_order (remove_entry here (e ∷ [])) ≡ true
      by true at = rw at refl
      by false at = rw at refl
  order_removed (e ∷ (next ∷ rest)) is = by (here e.0) refl (here next.0) refl (order_removed (next ∷ rest) both.1)
    where
      both : (is_less (tid_cmp e.0 next.0) ≡ true) × (in_order (next ∷ rest) ≡ true)
      both = and_both (is_less (tid_cmp e.0 next.0)) (in_order (next ∷ rest)) is

      behind_next : (xs : List (Tid × Participant)) → in_order (next ∷ xs) ≡ true → in_order (e ∷ xs) ≡ true
      behind_next [] so = refl
      behind_next (x ∷ xs) so =
          let more : (is_less (tid_cmp next.0 x.0) ≡ true) × (in_order (x ∷ xs) ≡ true) = and_both (is_less (tid_cmp next.0 x.0)) (in_order (x ∷ xs)) so in
          both_and (is_less (tid_cmp e.0 x.0)) (in_order (x ∷ xs)) (less_on e.0 next.0 x.0 both.0 more.0) more.1

      by : (b : Bool) → here e.0 ≡ b → (c : Bool) → here next.0 ≡ c → in_order (remove_entry here (next ∷ rest)) ≡ true → in_order (remove_entry here (e ∷ (next ∷ rest))) ≡ true
      by true at c so more = rw at both.1
      by false at true so more = rw (at, so) (behind_next rest both.1)
      by false at false so more = rw (at, so) (both_and (is_less (tid_cmp e.0 next.0)) (in_order (next ∷ remove_entry here rest)) both.0 (rw so at more))

  -- of which nothing waits and is lent, and that began elsewhere, earlier, or is kept as committed
  pub removed_sound : (node : NodeValue) → ipc.waits tid node.queues ≡ false → is_lent tid node ≡ false → where_so (began_here node tid) (was_committed tid node) ≡ true
      → is_sound node ≡ true → is_sound (record node { manager = tm.forget tid node.manager }) ≡ true
  removed_sound node waits lent gone sound =
      let s = seen node sound in
      sound_as (record node { manager = tm.forget tid node.manager }) (record {
        fits = s.fits;
        ordered = order_removed node.manager.known s.ordered;
        parts = all_removed (is_sound_part node) node.manager.known s.parts;
        queues = queues_without tid node left others node.queues s.queues waits;
        loans = loans_without tid node left others node.kept.now.loans s.loans lent;
        labels = labels_moved node left node.queues node.kept past node.kept.now.labels s.labels;
      })
    where
      left : List (Tid × Participant)
      left = remove_entry here node.manager.known

      served : Option Participant → Bool
      served o = elim o [ None ↦ false | Some p ↦ is_undecided p || is_abort p.outcome ]

      others : (t : Tid) → same_tid t tid ≡ false → may_be_served node t ≡ true → may_be_served (moved node left node.queues node.kept) t ≡ true
      others t other is = ap served (forget_apart t tid node.manager other) ∙ is

      past : (t : Tid) → is_past node t ≡ true → is_past (moved node left node.queues node.kept) t ≡ true
      past t is = by (same_tid t tid) refl
        where
          kept : (a b c : Bool) → where_so a c ≡ true → where_so (a && b) c ≡ true
          kept true true c so = so
          kept true false c so = refl
          kept false b c so = refl

          by : (b : Bool) → same_tid t tid ≡ b → is_past (moved node left node.queues node.kept) t ≡ true
          by true same = subst (λ (u : Tid). is_past (moved node left node.queues node.kept) u ≡ true) (sym (same_is t tid same))
              (kept (began_here node tid) (not (tm.knows tid (tm.forget tid node.manager))) (was_committed tid node) gone)
          by false other = ap (λ (o : Option Participant). where_so (began_here node t && not (is_some o)) (was_committed t node)) (forget_apart t tid node.manager other) ∙ is

  pub forget_sound : (work : Work) → ipc.waits tid work.node.queues ≡ false → is_lent tid work.node ≡ false → where_so (began_here work.node tid) (was_committed tid work.node) ≡ true
      → is_sound work.node ≡ true → is_sound (forget tid work).node ≡ true
  forget_sound work waits lent gone sound = by (ipc.waits tid work.node.queues)
    where
      removed : is_sound (record work.node { manager = tm.forget tid work.node.manager }) ≡ true
      removed = removed_sound work.node waits lent gone sound

      by : (b : Bool) → is_sound (record work.node { manager = tm.forget tid work.node.manager; queues = if b then work.node.queues else ipc.forget tid work.node.queues }) ≡ true
      by true = removed
      by false = forgotten_sound tid (record work.node { manager = tm.forget tid work.node.manager }) removed
