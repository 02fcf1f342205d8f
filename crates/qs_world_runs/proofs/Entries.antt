-- What holds of each entry of a map whose keys rise holds once a value is put at a key, or changed there, where it holds of that value.
use Rattle.qs_world_runs.proofs.Words.{◌≡◌, Bool, true, false, List, [], ◌∷◌, Option, Some, None, refl, sym, ap, subst, ◌∙◌, IsTotalOrder, lookup, set_value, insert_entry, is_at, Ordering, Less, Equal, Greater, IsBelow, IsRising, changed_value, same_Some}
use Rattle.std.specs.List.{AllByRecursion}
use Rattle.std.specs.Ordering.{match_ordering, ordering_reverse}

module _ {K : Type 0} (cmp : K → K → Ordering) (exact : (a b : K) → cmp a b ≡ Equal → a ≡ b) where
  pub at_exact : (a b : K) → is_at (cmp a) b ≡ true → a ≡ b
  at_exact a b = by (cmp a b) refl
    where
      by : (r : Ordering) → cmp a b ≡ r → is_at (cmp a) b ≡ true → a ≡ b
      by Less is h = absurd (cc (rw is at h))
      by Equal is h = exact a b is
      by Greater is h = absurd (cc (rw is at h))

module _ {K X : Type 0} (cmp : K → K → Ordering) where
  abbrev pub Each : (K → X → Type 0) → List (K × X) → Type 0
  Each P es = AllByRecursion (λ (e : K × X). P e.0 e.1) es

  pub each_on : (P Q : K → X → Type 0) → ((k : K) (v : X) → P k v → Q k v) → (es : List (K × X)) → Each P es → Each Q es
  each_on P Q goes [] all = tt
  each_on P Q goes (e ∷ es) all = (goes e.0 e.1 all.0, each_on P Q goes es all.1)

  -- where a key is below all, it is none of them
  each_above : (P Q : K → X → Type 0) (k : K) → ((l : K) (v : X) → is_at (cmp k) l ≡ false → P l v → Q l v) → (es : List (K × X)) → IsBelow cmp k es → Each P es → Each Q es
  each_above P Q k goes [] below all = tt
  each_above P Q k goes (e ∷ es) below all = let less : cmp k e.0 ≡ Less = below.0 in (goes e.0 e.1 (rw less refl) all.0, each_above P Q k goes es below.1 all.1)

  -- what is below a key that is below all is below all
  below_more : IsTotalOrder cmp → (k l : K) → cmp k l ≡ Less → (es : List (K × X)) → IsBelow cmp l es → IsBelow cmp k es
  below_more total k l less [] below = tt
  below_more total k l less (e ∷ es) below = (total.trans k l e.0 less below.0, below_more total k l less es below.1)

  module _ (total : IsTotalOrder cmp) (exact : (a b : K) → cmp a b ≡ Equal → a ≡ b) (itself : (a : K) → cmp a a ≡ Equal) where
    pub each_put : (P Q : K → X → Type 0) (k : K) (v : X) → ((l : K) (u : X) → is_at (cmp k) l ≡ false → P l u → Q l u) → Q k v → (es : List (K × X)) → IsRising cmp es → Each P es → Each Q (insert_entry cmp es k v)
    each_put P Q k v goes new [] rising all = (new, tt)
    each_put P Q k v goes new (e ∷ es) rising all = by (cmp k e.0) refl (each_put P Q k v goes new es rising.1 all.1)
      where
        by : (r : Ordering) → cmp k e.0 ≡ r → Each Q (insert_entry cmp es k v) → Each Q (match_ordering r ((k, v) ∷ e ∷ es) ((e.0, v) ∷ es) (e ∷ insert_entry cmp es k v))
        by Less is more = (new, (goes e.0 e.1 (rw is refl) all.0, each_above P Q k goes es (below_more total k e.0 is es rising.0) all.1))
        by Equal is more = (subst (λ (l : K). Q l v) (exact k e.0 is) new, each_above P Q k goes es (subst (λ (l : K). IsBelow cmp l es) (sym (exact k e.0 is)) rising.0) all.1)
        by Greater is more = (goes e.0 e.1 (rw is refl) all.0, more)

    -- what is found under a key
    pub each_at : (P : K → X → Type 0) (k : K) (es : List (K × X)) (u : X) → lookup (is_at (cmp k)) es ≡ Some u → Each P es → P k u
    each_at P k [] u is all = absurd (cc is)
    each_at P k (e ∷ es) u is all = one (is_at (cmp k) e.0) refl is (each_at P k es u)
      where
        one : (b : Bool) → is_at (cmp k) e.0 ≡ b → lookup (is_at (cmp k)) (e ∷ es) ≡ Some u → (lookup (is_at (cmp k)) es ≡ Some u → Each P es → P k u) → P k u
        one true at is more = subst (λ (l : K). P l u) (sym (at_exact cmp exact k e.0 at)) (subst (λ (x : X). P e.0 x) (same_Some e.1 u (rw at at is)) all.0)
        one false at is more = more (rw at at is) all.1

    -- a value that is found there is changed
    pub each_set : (P Q : K → X → Type 0) (k : K) (v : X) → ((l : K) (u : X) → is_at (cmp k) l ≡ false → P l u → Q l u) → Q k v → (es : List (K × X)) → IsRising cmp es → Each P es → Each Q (set_value (is_at (cmp k)) es v)
    each_set P Q k v goes new [] rising all = tt
    each_set P Q k v goes new (e ∷ es) rising all = by (is_at (cmp k) e.0) refl (each_set P Q k v goes new es rising.1 all.1)
      where
        by : (b : Bool) → is_at (cmp k) e.0 ≡ b → Each Q (set_value (is_at (cmp k)) es v) → Each Q (set_value (is_at (cmp k)) (e ∷ es) v)
        by true is more = rw is (subst (λ (l : K). Q l v) (at_exact cmp exact k e.0 is) new, each_above P Q k goes es (subst (λ (l : K). IsBelow cmp l es) (sym (at_exact cmp exact k e.0 is)) rising.0) all.1)
        by false is more = rw is (goes e.0 e.1 is all.0, more)

    pub each_changed : (P Q : K → X → Type 0) (k : K) (f : X → X) → ((l : K) (u : X) → is_at (cmp k) l ≡ false → P l u → Q l u) → (es : List (K × X)) → ((u : X) → lookup (is_at (cmp k)) es ≡ Some u → P k u → Q k (f u)) → IsRising cmp es → Each P es → Each Q (changed_value (is_at (cmp k)) f es)
    each_changed P Q k f goes es here rising all = by (lookup (is_at (cmp k)) es) refl
      where
        -- nothing is found under it
        none : (es : List (K × X)) → lookup (is_at (cmp k)) es ≡ None → Each P es → Each Q es
        none [] is all = tt
        none (e ∷ es) is all = one (is_at (cmp k) e.0) refl is (none es)
          where
            one : (b : Bool) → is_at (cmp k) e.0 ≡ b → lookup (is_at (cmp k)) (e ∷ es) ≡ None → (lookup (is_at (cmp k)) es ≡ None → Each P es → Each Q es) → Each Q (e ∷ es)
            one true at found more = absurd (cc (rw at at found))
            one false at found more = (goes e.0 e.1 at all.0, more (rw at at found) all.1)

        by : (o : Option X) → lookup (is_at (cmp k)) es ≡ o → Each Q (elim o [ None ↦ es | Some u ↦ set_value (is_at (cmp k)) es (f u) ])
        by None is = none es is all
        by (Some u) is = each_set P Q k (f u) goes (here u is (each_at P k es u is all)) es rising all

    -- each is found under its own key
    pub each_found : (es : List (K × X)) → IsRising cmp es → Each (λ (l : K) (u : X). lookup (is_at (cmp l)) es ≡ Some u) es
    each_found [] rising = tt
    each_found (e ∷ es) rising = (rw (itself e.0) refl, behind es rising.0 (each_found es rising.1))
      where
        later : (l : K) (u : X) → cmp e.0 l ≡ Less → lookup (is_at (cmp l)) es ≡ Some u → lookup (is_at (cmp l)) (e ∷ es) ≡ Some u
        later l u less is = rw (total.antisymm l e.0 ∙ ap ordering_reverse less) is

        behind : (fs : List (K × X)) → IsBelow cmp e.0 fs → Each (λ (l : K) (u : X). lookup (is_at (cmp l)) es ≡ Some u) fs → Each (λ (l : K) (u : X). lookup (is_at (cmp l)) (e ∷ es) ≡ Some u) fs
        behind [] below all = tt
        behind (f ∷ fs) below all = (later f.0 f.1 below.0 all.0, behind fs below.1 all.1)

    -- a value that is changed in its place leaves the keys
    pub set_rises : (p : K → Bool) (es : List (K × X)) (v : X) → IsRising cmp es → IsRising cmp (set_value p es v)
    set_rises p [] v rising = tt
    set_rises p (e ∷ es) v rising = by (p e.0) refl (set_rises p es v rising.1)
      where
        below : (l : K) (fs : List (K × X)) → IsBelow cmp l fs → IsBelow cmp l (set_value p fs v)
        below l [] all = tt
        below l (f ∷ fs) all = one (p f.0) refl (below l fs all.1)
          where
            one : (b : Bool) → p f.0 ≡ b → IsBelow cmp l (set_value p fs v) → IsBelow cmp l (set_value p (f ∷ fs) v)
            one true is more = rw is (all.0, all.1)
            one false is more = rw is (all.0, more)

        by : (b : Bool) → p e.0 ≡ b → IsRising cmp (set_value p es v) → IsRising cmp (set_value p (e ∷ es) v)
        by true is more = rw is (rising.0, rising.1)
        by false is more = rw is (below e.0 es rising.0, more)

    pub changed_rises : (p : K → Bool) (f : X → X) (es : List (K × X)) → IsRising cmp es → IsRising cmp (changed_value p f es)
    changed_rises p f es rising = by (lookup p es)
      where
        by : (o : Option X) → IsRising cmp (elim o [ None ↦ es | Some v ↦ set_value p es (f v) ])
        by None = rising
        by (Some v) = set_rises p es (f v) rising
