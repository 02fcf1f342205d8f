-- What is found in a map after a change.
use Rattle.qs_world_refine.proofs.Words.{◌≡◌, Bool, true, false, List, [], ◌∷◌, Option, Some, None, refl, sym, ap, subst, lookup, set_value, insert_entry, is_at, Ordering, Less, Equal, Greater, changed_value}

module _ {K X : Type 0} (p : K → Bool) where
  pub lookup_set : (es : List (K × X)) (v w : X) → lookup p es ≡ Some v → lookup p (set_value p es w) ≡ Some w
  lookup_set [] v w h = absurd (cc h)
  lookup_set (e ∷ es) v w h = by (p e.0) refl (lookup_set es v w)
    where
      by : (b : Bool) → p e.0 ≡ b → (lookup p es ≡ Some v → lookup p (set_value p es w) ≡ Some w) → lookup p (set_value p (e ∷ es) w) ≡ Some w
      by true is more = rw (is, is) refl
      by false is more = rw (is, is) (more (rw is at h))

  pub lookup_changed : (f : X → X) (es : List (K × X)) (v : X) → lookup p es ≡ Some v → lookup p (changed_value p f es) ≡ Some (f v)
  lookup_changed f es v h =
      subst (λ (o : Option X). lookup p (elim o [ None ↦ es | Some u ↦ set_value p es (f u) ]) ≡ Some (f v)) (sym h) (lookup_set es v (f v) h)

  -- of what is not there nothing is changed
  pub changed_none : (f : X → X) (es : List (K × X)) → lookup p es ≡ None → changed_value p f es ≡ es
  changed_none f es h = ap (λ (o : Option X). elim o [ None ↦ es | Some u ↦ set_value p es (f u) ]) h

  pub set_apart : (q : K → Bool) → ((k : K) → q k ≡ true → p k ≡ false) → (es : List (K × X)) (w : X) → lookup q (set_value p es w) ≡ lookup q es
  set_apart q apart [] w = refl
  set_apart q apart (e ∷ es) w = by (p e.0) (q e.0) refl refl (set_apart q apart es w)
    where
      by : (b c : Bool) → p e.0 ≡ b → q e.0 ≡ c → lookup q (set_value p es w) ≡ lookup q es → lookup q (set_value p (e ∷ es) w) ≡ lookup q (e ∷ es)
      by true true is has more = let no : p e.0 ≡ false = apart e.0 has in absurd (cc (is, no))
      by true false is has more = rw (is, has) refl
      by false true is has more = rw (is, has) refl
      by false false is has more = rw (is, has) more

  -- every other value is found as before
  pub changed_apart : (q : K → Bool) → ((k : K) → q k ≡ true → p k ≡ false) → (f : X → X) (es : List (K × X)) → lookup q (changed_value p f es) ≡ lookup q es
  changed_apart q apart f es = by (lookup p es)
    where
      by : (o : Option X) → lookup q (elim o [ None ↦ es | Some v ↦ set_value p es (f v) ]) ≡ lookup q es
      by None = refl
      by (Some v) = set_apart q apart es (f v)

module _ {K X : Type 0} (cmp : K → K → Ordering) (k : K) (v : X) where
  pub lookup_put : cmp k k ≡ Equal → (es : List (K × X)) → lookup (is_at (cmp k)) (insert_entry cmp es k v) ≡ Some v
  lookup_put self [] = rw self refl
  lookup_put self (e ∷ es) = by (cmp k e.0) refl (lookup_put self es)
    where
      by : (r : Ordering) → cmp k e.0 ≡ r → lookup (is_at (cmp k)) (insert_entry cmp es k v) ≡ Some v → lookup (is_at (cmp k)) (insert_entry cmp (e ∷ es) k v) ≡ Some v
      by Less is more = rw (is, self) refl
      by Equal is more = rw (is, is) refl
      by Greater is more = rw (is, is) more

  pub lookup_put_apart : ((x : K) → cmp k x ≡ Equal → k ≡ x) → (p : K → Bool) → p k ≡ false → (es : List (K × X)) → lookup p (insert_entry cmp es k v) ≡ lookup p es
  lookup_put_apart exact p other [] = rw other refl
  lookup_put_apart exact p other (e ∷ es) = by (cmp k e.0) refl (lookup_put_apart exact p other es)
    where
      by : (r : Ordering) → cmp k e.0 ≡ r → lookup p (insert_entry cmp es k v) ≡ lookup p es → lookup p (insert_entry cmp (e ∷ es) k v) ≡ lookup p (e ∷ es)
      by Less is more = rw (is, other) refl
      by Equal is more = let no : p e.0 ≡ false = subst (λ x. p x ≡ false) (exact e.0 is) other in rw (is, no) refl
      by Greater is more = rw (is, more) refl
