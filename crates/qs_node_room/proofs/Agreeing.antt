-- What a node knows of its log agrees with what the log keeps after each thing that a step does.
use Rattle.std.proofs.Common.{◌≡◌, ℕ, Bool, true, false, List, [], ◌∷◌, Option, Some, None, refl, sym, ap, subst, ◌∙◌}
use Rattle.std.specs.Prelude.{cond}
use Rattle.std.specs.Cmp.{tied_itself}
use Rattle.std.specs.Map.{lookup, set_value, remove_entry}
use Rattle.std.specs.BTreeMap.{insert_entry, is_at}
use Rattle.std.specs.declared.cmp.Ordering.TheVariants.{Equal}
use Rattle.qs_base.specs.Order.{tid_cmp}
use Rattle.qs_base.specs.declared.identifiers.Tid.{Tid}
use Rattle.qs_base.proofs.Same.{same_tid-true}
use Rattle.qs_base.proofs.TidOrder.{tid_total, same_tid-cmp}
use Rattle.qs_tm.specs.Manager as tm
use Rattle.qs_tm.specs.declared.participant.Participant.{Participant}
use Rattle.qs_node_room.specs.Kept.{Kept, kept_at, with_first, with_list}
use Rattle.qs_node_room.specs.Fits.{Agrees}
use Rattle.qs_book_laws.proofs.Maps.{changed_apart, lookup_put, lookup_put_apart, lookup_set}
use Rattle.qs_book_laws.proofs.Rising.{IsBelow, IsRising, put_rises, remove_rises, removed}

-- ---- keys

pub exact : (s t : Tid) → is_at (tid_cmp s) t ≡ true → s ≡ t
exact s t h = same_tid-true s t (same_tid-cmp s t ∙ h)

flip : (s t : Tid) → is_at (tid_cmp s) t ≡ false → is_at (tid_cmp t) s ≡ false
flip s t h = by (is_at (tid_cmp t) s) refl
  where
    by : (b : Bool) → is_at (tid_cmp t) s ≡ b → is_at (tid_cmp t) s ≡ false
    by false is = is
    by true is = absurd (let same : t ≡ s = exact t s is in let other : is_at (tid_cmp t) s ≡ false = subst (λ (x : Tid). is_at (tid_cmp x) s ≡ false) (sym same) (subst (λ (x : Tid). is_at (tid_cmp s) x ≡ false) same h) in cc (is, other))

apart : (s t k : Tid) → is_at (tid_cmp s) t ≡ false → is_at (tid_cmp t) k ≡ true → is_at (tid_cmp s) k ≡ false
apart s t k other is = subst (λ (x : Tid). is_at (tid_cmp s) x ≡ false) (exact t k is) other

pub itself : (t : Tid) → tid_cmp t t ≡ Equal
itself t = tied_itself tid_total t

-- ---- what is found

module _ {X : Type 0} where
  pub put_own : (t : Tid) (v : X) (es : List (Tid × X)) → lookup (is_at (tid_cmp t)) (insert_entry tid_cmp es t v) ≡ Some v
  put_own t v es = lookup_put tid_cmp t v (itself t) es

  pub put_other : (t q : Tid) (v : X) (es : List (Tid × X)) → is_at (tid_cmp t) q ≡ false → lookup (is_at (tid_cmp q)) (insert_entry tid_cmp es t v) ≡ lookup (is_at (tid_cmp q)) es
  put_other t q v es other = lookup_put_apart tid_cmp t v (λ x is. exact t x (rw is refl)) (is_at (tid_cmp q)) (flip t q other) es

  pub changed_other : (t q : Tid) (f : X → X) (es : List (Tid × X)) → is_at (tid_cmp t) q ≡ false → lookup (is_at (tid_cmp q)) (tm.changed_value (is_at (tid_cmp t)) f es) ≡ lookup (is_at (tid_cmp q)) es
  changed_other t q f es other = changed_apart (is_at (tid_cmp t)) (is_at (tid_cmp q)) (λ k is. apart t q k other is) f es

  pub remove_own : (t : Tid) (es : List (Tid × X)) → IsRising tid_cmp es → lookup (is_at (tid_cmp t)) (remove_entry (is_at (tid_cmp t)) es) ≡ None
  remove_own t es rising = removed tid_cmp exact t es rising

  pub remove_other : (t q : Tid) (es : List (Tid × X)) → is_at (tid_cmp t) q ≡ false → lookup (is_at (tid_cmp q)) (remove_entry (is_at (tid_cmp t)) es) ≡ lookup (is_at (tid_cmp q)) es
  remove_other t q [] other = refl
  remove_other t q (e ∷ es) other = by (is_at (tid_cmp t) e.0) (is_at (tid_cmp q) e.0) refl refl (remove_other t q es other)
    where
      by : (b c : Bool) → is_at (tid_cmp t) e.0 ≡ b → is_at (tid_cmp q) e.0 ≡ c → lookup (is_at (tid_cmp q)) (remove_entry (is_at (tid_cmp t)) es) ≡ lookup (is_at (tid_cmp q)) es
          → lookup (is_at (tid_cmp q)) (remove_entry (is_at (tid_cmp t)) (e ∷ es)) ≡ lookup (is_at (tid_cmp q)) (e ∷ es)
      by true true is has more = absurd (let no : is_at (tid_cmp t) e.0 ≡ false = apart t q e.0 other has in cc (is, no))
      by true false is has more = rw (is, has) refl
      by false true is has more = rw (is, has) refl
      by false false is has more = rw (is, has) more

  -- what is not there can't be taken out
  pub remove_none : (p : Tid → Bool) (es : List (Tid × X)) → lookup p es ≡ None → remove_entry p es ≡ es
  remove_none p [] none = refl
  remove_none p (e ∷ es) none = by (p e.0) refl (remove_none p es)
    where
      by : (b : Bool) → p e.0 ≡ b → (lookup p es ≡ None → remove_entry p es ≡ es) → remove_entry p (e ∷ es) ≡ e ∷ es
      by true is more = absurd (cc (rw is at none))
      by false is more = rw is (ap (λ (xs : List (Tid × X)). e ∷ xs) (more (rw is at none)))

  set_below : (x : Tid) (p : Tid → Bool) (v : X) (es : List (Tid × X)) → IsBelow tid_cmp x es → IsBelow tid_cmp x (set_value p es v)
  set_below x p v [] below = tt
  set_below x p v (e ∷ es) below = by (p e.0) (set_below x p v es below.1)
    where
      by : (b : Bool) → IsBelow tid_cmp x (set_value p es v) → IsBelow tid_cmp x (cond b ((e.0, v) ∷ es) (e ∷ set_value p es v))
      by true more = (below.0, below.1)
      by false more = (below.0, more)

  pub set_rises : (p : Tid → Bool) (v : X) (es : List (Tid × X)) → IsRising tid_cmp es → IsRising tid_cmp (set_value p es v)
  set_rises p v [] rising = tt
  set_rises p v (e ∷ es) rising = by (p e.0) (set_rises p v es rising.1)
    where
      by : (b : Bool) → IsRising tid_cmp (set_value p es v) → IsRising tid_cmp (cond b ((e.0, v) ∷ es) (e ∷ set_value p es v))
      by true more = (rising.0, rising.1)
      by false more = (set_below e.0 p v es rising.0, more)

  pub changed_rises : (p : Tid → Bool) (f : X → X) (es : List (Tid × X)) → IsRising tid_cmp es → IsRising tid_cmp (tm.changed_value p f es)
  changed_rises p f es rising = by (lookup p es)
    where
      by : (o : Option X) → IsRising tid_cmp (elim o [ None ↦ es | Some v ↦ set_value p es (f v) ])
      by None = rising
      by (Some v) = set_rises p (f v) es rising

  pub put_rising : (t : Tid) (v : X) (es : List (Tid × X)) → IsRising tid_cmp es → IsRising tid_cmp (insert_entry tid_cmp es t v)
  put_rising t v es rising = put_rises tid_cmp tid_total t v es rising

  pub remove_rising : (p : Tid → Bool) (es : List (Tid × X)) → IsRising tid_cmp es → IsRising tid_cmp (remove_entry p es)
  remove_rising p es rising = remove_rises tid_cmp p es rising

-- ---- the agreement of one transaction changes, and of no other

pub spread : (keep extra : ℕ) (t : Tid) (ks ls : List (Tid × Participant)) (es fs : Kept)
    → Agrees keep extra (lookup (is_at (tid_cmp t)) ls) (kept_at t fs)
    → ((q : Tid) → is_at (tid_cmp t) q ≡ false → lookup (is_at (tid_cmp q)) ls ≡ lookup (is_at (tid_cmp q)) ks)
    → ((q : Tid) → is_at (tid_cmp t) q ≡ false → kept_at q fs ≡ kept_at q es)
    → ((q : Tid) → Agrees keep extra (lookup (is_at (tid_cmp q)) ks) (kept_at q es)) → (q : Tid) → Agrees keep extra (lookup (is_at (tid_cmp q)) ls) (kept_at q fs)
spread keep extra t ks ls es fs own parts kept old q = by (is_at (tid_cmp t) q) refl
  where
    by : (b : Bool) → is_at (tid_cmp t) q ≡ b → Agrees keep extra (lookup (is_at (tid_cmp q)) ls) (kept_at q fs)
    by true is = subst (λ (x : Tid). Agrees keep extra (lookup (is_at (tid_cmp x)) ls) (kept_at x fs)) (exact t q is) own
    by false is = subst (λ (o : Option Participant). Agrees keep extra o (kept_at q fs)) (sym (parts q is)) (subst (λ (o : Option ℕ). Agrees keep extra (lookup (is_at (tid_cmp q)) ks) o) (sym (kept q is)) (old q))

-- ---- each change of what is kept

pub first_other : (keep : ℕ) (t q : Tid) (es : Kept) → is_at (tid_cmp t) q ≡ false → kept_at q (with_first keep t es) ≡ kept_at q es
first_other keep t q es other = by (kept_at t es)
  where
    by : (o : Option ℕ) → kept_at q (elim o [ None ↦ insert_entry tid_cmp es t keep | Some old ↦ es ]) ≡ kept_at q es
    by None = put_other t q keep es other
    by (Some old) = refl

pub first_rises : (keep : ℕ) (t : Tid) (es : Kept) → IsRising tid_cmp es → IsRising tid_cmp (with_first keep t es)
first_rises keep t es rising = by (kept_at t es)
  where
    by : (o : Option ℕ) → IsRising tid_cmp (elim o [ None ↦ insert_entry tid_cmp es t keep | Some old ↦ es ])
    by None = put_rising t keep es rising
    by (Some old) = rising

pub list_own : (left : ℕ) (t : Tid) (es : Kept) → kept_at t (with_list left t es) ≡ Some left
list_own left t es = by (kept_at t es) refl
  where
    by : (o : Option ℕ) → kept_at t es ≡ o → kept_at t (elim o [ None ↦ insert_entry tid_cmp es t left | Some old ↦ set_value (is_at (tid_cmp t)) es left ]) ≡ Some left
    by None is = put_own t left es
    by (Some old) is = lookup_set (is_at (tid_cmp t)) es old left is

pub list_other : (left : ℕ) (t q : Tid) (es : Kept) → is_at (tid_cmp t) q ≡ false → kept_at q (with_list left t es) ≡ kept_at q es
list_other left t q es other = by (kept_at t es) (changed_other t q (λ old. left) es other)
  where
    by : (o : Option ℕ) → kept_at q (elim o [ None ↦ es | Some old ↦ set_value (is_at (tid_cmp t)) es left ]) ≡ kept_at q es
        → kept_at q (elim o [ None ↦ insert_entry tid_cmp es t left | Some old ↦ set_value (is_at (tid_cmp t)) es left ]) ≡ kept_at q es
    by None same = put_other t q left es other
    by (Some old) same = same

pub list_rises : (left : ℕ) (t : Tid) (es : Kept) → IsRising tid_cmp es → IsRising tid_cmp (with_list left t es)
list_rises left t es rising = by (kept_at t es)
  where
    by : (o : Option ℕ) → IsRising tid_cmp (elim o [ None ↦ insert_entry tid_cmp es t left | Some old ↦ set_value (is_at (tid_cmp t)) es left ])
    by None = put_rising t left es rising
    by (Some old) = set_rises (is_at (tid_cmp t)) left es rising
