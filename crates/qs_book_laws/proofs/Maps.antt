-- What is found in a map or at a place of a list after a change.
use Rattle.qs_book_laws.proofs.Words.{◌≡◌, ℕ, Bool, true, false, List, [], ◌∷◌, Option, Some, None, zero, suc, refl, sym, ap, subst, inl, inr, ◌⊎◌, slice_get, slice_set, is_some, option_map, lookup, set_value, remove_entry, insert_entry, is_at, Ordering, Less, Equal, Greater, changed_value, changed_at}

-- a look-up finds what was there, or the value that was written
abbrev pub Either : {X : Type 0} → Option X → Option X → X → X → Type 0
Either {X} old new v w = (new ≡ old) ⊎ ((old ≡ Some v) × (new ≡ Some w))

module _ {K X : Type 0} (p : K → Bool) where
  pub set_either : (test : K → Bool) (es : List (K × X)) (v w : X) → lookup p es ≡ Some v → Either (lookup test es) (lookup test (set_value p es w)) v w
  set_either test [] v w h = absurd (cc h)
  set_either test (e ∷ es) v w h = by (p e.0) (test e.0) refl refl (set_either test es v w)
    where
      by : (b c : Bool) → p e.0 ≡ b → test e.0 ≡ c → (lookup p es ≡ Some v → Either (lookup test es) (lookup test (set_value p es w)) v w) → Either (lookup test (e ∷ es)) (lookup test (set_value p (e ∷ es) w)) v w
      by true true is has more = rw (is, has) (inr (rw is at h, refl))
      by true false is has more = rw (is, has) (inl refl)
      by false true is has more = rw (is, has) (inl refl)
      by false false is has more = rw (is, has) (more (rw is at h))

  pub lookup_set : (es : List (K × X)) (v w : X) → lookup p es ≡ Some v → lookup p (set_value p es w) ≡ Some w
  lookup_set [] v w h = absurd (cc h)
  lookup_set (e ∷ es) v w h = by (p e.0) refl (lookup_set es v w)
    where
      by : (b : Bool) → p e.0 ≡ b → (lookup p es ≡ Some v → lookup p (set_value p es w) ≡ Some w) → lookup p (set_value p (e ∷ es) w) ≡ Some w
      by true is more = rw (is, is) refl
      by false is more = rw (is, is) (more (rw is at h))

  -- the changed value is found
  pub lookup_changed : (f : X → X) (es : List (K × X)) (v : X) → lookup p es ≡ Some v → lookup p (changed_value p f es) ≡ Some (f v)
  lookup_changed f es v h =
      subst (λ (o : Option X). lookup p (elim o [ None ↦ es | Some u ↦ set_value p es (f u) ]) ≡ Some (f v)) (sym h) (lookup_set es v (f v) h)

  -- each look-up finds what was there, or that value
  pub changed_either : (test : K → Bool) (f : X → X) (es : List (K × X)) (v : X) → lookup p es ≡ Some v → Either (lookup test es) (lookup test (changed_value p f es)) v (f v)
  changed_either test f es v h =
      subst (λ (o : Option X). Either (lookup test es) (lookup test (elim o [ None ↦ es | Some u ↦ set_value p es (f u) ])) v (f v)) (sym h) (set_either test es v (f v) h)

  -- where there is nothing, nothing is changed
  pub changed_none : (f : X → X) (es : List (K × X)) → lookup p es ≡ None → lookup p (changed_value p f es) ≡ None
  changed_none f es is = subst (λ (o : Option X). lookup p (elim o [ None ↦ es | Some u ↦ set_value p es (f u) ]) ≡ None) (sym is) is

  set_apart : (q : K → Bool) → ((k : K) → q k ≡ true → p k ≡ false) → (es : List (K × X)) (w : X) → lookup q (set_value p es w) ≡ lookup q es
  set_apart q apart [] w = refl
  set_apart q apart (e ∷ es) w = by (p e.0) (q e.0) refl refl (set_apart q apart es w)
    where
      by : (b c : Bool) → p e.0 ≡ b → q e.0 ≡ c → lookup q (set_value p es w) ≡ lookup q es → lookup q (set_value p (e ∷ es) w) ≡ lookup q (e ∷ es)
      by true true is has more = let no : p e.0 ≡ false = apart e.0 has in absurd (cc (is, no))
      by true false is has more = rw (is, has) refl
      by false true is has more = rw (is, has) refl
      by false false is has more = rw (is, has) more

  -- every other value is found as before
  pub changed_apart : (q : K → Bool) → ((k : K) → q k ≡ true → p k ≡ false) → (f : X → X) (es : List (K × X)) → lookup q (changed_value p f es) ≡ lookup q es
  changed_apart q apart f es = by (lookup p es)
    where
      by : (o : Option X) → lookup q (elim o [ None ↦ es | Some v ↦ set_value p es (f v) ]) ≡ lookup q es
      by None = refl
      by (Some v) = set_apart q apart es (f v)

  -- what is not there is not there with less
  pub removed_none : (q : K → Bool) (es : List (K × X)) → lookup q es ≡ None → lookup q (remove_entry p es) ≡ None
  removed_none q [] h = refl
  removed_none q (e ∷ es) h = by (p e.0) (q e.0) refl refl (removed_none q es)
    where
      by : (b c : Bool) → p e.0 ≡ b → q e.0 ≡ c → (lookup q es ≡ None → lookup q (remove_entry p es) ≡ None) → lookup q (remove_entry p (e ∷ es)) ≡ None
      by b true is has more = absurd (cc (rw has at h))
      by true false is has more = rw is (rw has at h)
      by false false is has more = rw (is, has) (more (rw has at h))

  pub set_alike : {Y : Type 0} (g : X → Y) (test : K → Bool) (es : List (K × X)) (v w : X) → lookup p es ≡ Some v → g w ≡ g v → option_map g (lookup test (set_value p es w)) ≡ option_map g (lookup test es)
  set_alike g test es v w h same = by (set_either test es v w h)
    where
      by : Either (lookup test es) (lookup test (set_value p es w)) v w → option_map g (lookup test (set_value p es w)) ≡ option_map g (lookup test es)
      by (inl is) = ap (option_map g) is
      by (inr is) = rw (is.0, is.1) (ap Some same)

  -- what a change leaves of each value, each look-up finds as before
  pub changed_alike : {Y : Type 0} (g : X → Y) (f : X → X) → ((x : X) → g (f x) ≡ g x) → (test : K → Bool) (es : List (K × X)) → option_map g (lookup test (changed_value p f es)) ≡ option_map g (lookup test es)
  changed_alike g f keeps test es = by (lookup p es) refl
    where
      by : (o : Option X) → lookup p es ≡ o → option_map g (lookup test (elim o [ None ↦ es | Some u ↦ set_value p es (f u) ])) ≡ option_map g (lookup test es)
      by None is = refl
      by (Some v) is = set_alike g test es v (f v) is (keeps v)

module _ {K X : Type 0} (cmp : K → K → Ordering) (k : K) (v : X) where
  -- the value that was put in is found
  pub lookup_put : cmp k k ≡ Equal → (es : List (K × X)) → lookup (is_at (cmp k)) (insert_entry cmp es k v) ≡ Some v
  lookup_put self [] = rw self refl
  lookup_put self (e ∷ es) = by (cmp k e.0) refl (lookup_put self es)
    where
      by : (r : Ordering) → cmp k e.0 ≡ r → lookup (is_at (cmp k)) (insert_entry cmp es k v) ≡ Some v → lookup (is_at (cmp k)) (insert_entry cmp (e ∷ es) k v) ≡ Some v
      by Less is more = rw (is, self) refl
      by Equal is more = rw (is, is) refl
      by Greater is more = rw (is, is) more

  -- every other key is found as before
  pub lookup_put_apart : ((x : K) → cmp k x ≡ Equal → k ≡ x) → (p : K → Bool) → p k ≡ false → (es : List (K × X)) → lookup p (insert_entry cmp es k v) ≡ lookup p es
  lookup_put_apart exact p other [] = rw other refl
  lookup_put_apart exact p other (e ∷ es) = by (cmp k e.0) refl (lookup_put_apart exact p other es)
    where
      by : (r : Ordering) → cmp k e.0 ≡ r → lookup p (insert_entry cmp es k v) ≡ lookup p es → lookup p (insert_entry cmp (e ∷ es) k v) ≡ lookup p (e ∷ es)
      by Less is more = rw (is, other) refl
      by Equal is more = let no : p e.0 ≡ false = subst (λ x. p x ≡ false) (exact e.0 is) other in rw (is, no) refl
      by Greater is more = rw (is, more) refl

  -- what is found is found with one more
  pub put_known : (p : K → Bool) (es : List (K × X)) → is_some (lookup p es) ≡ true → is_some (lookup p (insert_entry cmp es k v)) ≡ true
  put_known p [] h = absurd (cc h)
  put_known p (e ∷ es) h = by (cmp k e.0) (p k) (p e.0) refl refl refl (put_known p es)
    where
      by : (r : Ordering) (a b : Bool) → cmp k e.0 ≡ r → p k ≡ a → p e.0 ≡ b → (is_some (lookup p es) ≡ true → is_some (lookup p (insert_entry cmp es k v)) ≡ true) → is_some (lookup p (insert_entry cmp (e ∷ es) k v)) ≡ true
      by Less true b is at has more = rw (is, at) refl
      by Less false true is at has more = rw (is, at, has) refl
      by Less false false is at has more = rw (is, at, has) (rw has at h)
      by Equal a true is at has more = rw (is, has) refl
      by Equal a false is at has more = rw (is, has) (rw has at h)
      by Greater a true is at has more = rw (is, has) refl
      by Greater a false is at has more = rw (is, has) (more (rw has at h))

module _ {X : Type 0} where
  pub set_at_either : (xs : List X) (i j : ℕ) (v w : X) → slice_get xs i ≡ Some v → ((j ≡ i) × (slice_get xs j ≡ Some v) × (slice_get (slice_set xs i w) j ≡ Some w)) ⊎ (slice_get (slice_set xs i w) j ≡ slice_get xs j)
  set_at_either [] i j v w h = absurd (cc h)
  set_at_either (x ∷ xs) zero zero v w h = inl (refl, h, refl)
  set_at_either (x ∷ xs) zero (suc j) v w h = inr refl
  set_at_either (x ∷ xs) (suc i) zero v w h = inr refl
  set_at_either (x ∷ xs) (suc i) (suc j) v w h = by (set_at_either xs i j v w h)
    where
      by : ((j ≡ i) × (slice_get xs j ≡ Some v) × (slice_get (slice_set xs i w) j ≡ Some w)) ⊎ (slice_get (slice_set xs i w) j ≡ slice_get xs j) → ((suc j ≡ suc i) × (slice_get xs j ≡ Some v) × (slice_get (slice_set xs i w) j ≡ Some w)) ⊎ (slice_get (slice_set xs i w) j ≡ slice_get xs j)
      by (inl is) = inl (ap suc is.0, is.1, is.2)
      by (inr is) = inr is

  -- after an item was changed: at its place the changed item, elsewhere what was there
  pub changed_at_either : (f : X → X) (xs : List X) (i j : ℕ) (v : X) → slice_get xs i ≡ Some v → ((j ≡ i) × (slice_get xs j ≡ Some v) × (slice_get (changed_at i f xs) j ≡ Some (f v))) ⊎ (slice_get (changed_at i f xs) j ≡ slice_get xs j)
  changed_at_either f xs i j v h =
      subst (λ (o : Option X). ((j ≡ i) × (slice_get xs j ≡ Some v) × (slice_get (elim o [ None ↦ xs | Some x ↦ slice_set xs i (f x) ]) j ≡ Some (f v))) ⊎ (slice_get (elim o [ None ↦ xs | Some x ↦ slice_set xs i (f x) ]) j ≡ slice_get xs j)) (sym h) (set_at_either xs i j v (f v) h)

  set_at_here : (xs : List X) (i : ℕ) (v w : X) → slice_get xs i ≡ Some v → slice_get (slice_set xs i w) i ≡ Some w
  set_at_here [] i v w h = absurd (cc h)
  set_at_here (x ∷ xs) zero v w h = refl
  set_at_here (x ∷ xs) (suc i) v w h = set_at_here xs i v w h

  -- the changed item stands at its place
  pub changed_at_here : (f : X → X) (xs : List X) (i : ℕ) (v : X) → slice_get xs i ≡ Some v → slice_get (changed_at i f xs) i ≡ Some (f v)
  changed_at_here f xs i v h =
      subst (λ (o : Option X). slice_get (elim o [ None ↦ xs | Some x ↦ slice_set xs i (f x) ]) i ≡ Some (f v)) (sym h) (set_at_here xs i v (f v) h)

  -- what a change leaves of each item stands at each place as before
  pub changed_at_alike : {Y : Type 0} (g : X → Y) (f : X → X) → ((x : X) → g (f x) ≡ g x) → (xs : List X) (i j : ℕ) → option_map g (slice_get (changed_at i f xs) j) ≡ option_map g (slice_get xs j)
  changed_at_alike g f keeps xs i j = by (slice_get xs i) refl
    where
      at : (v : X) → ((j ≡ i) × (slice_get xs j ≡ Some v) × (slice_get (slice_set xs i (f v)) j ≡ Some (f v))) ⊎ (slice_get (slice_set xs i (f v)) j ≡ slice_get xs j) → option_map g (slice_get (slice_set xs i (f v)) j) ≡ option_map g (slice_get xs j)
      at v (inl is) = rw (is.1, is.2) (ap Some (keeps v))
      at v (inr is) = ap (option_map g) is

      by : (o : Option X) → slice_get xs i ≡ o → option_map g (slice_get (elim o [ None ↦ xs | Some x ↦ slice_set xs i (f x) ]) j) ≡ option_map g (slice_get xs j)
      by None is = refl
      by (Some v) is = at v (set_at_either xs i j v (f v) is)
