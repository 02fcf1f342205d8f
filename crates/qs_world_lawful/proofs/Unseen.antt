-- Entries of which some are hidden: what is put in, removed, found or hidden of all, is so of those that are not hidden.
use Rattle.qs_world_lawful.proofs.Words.{◌≡◌, Bool, true, false, List, [], ◌∷◌, Less, Equal, Greater, refl, sym, ap, subst, ◌∙◌, true≢false, not, ◌&&◌, filter, lookup, remove_entry, insert_entry, is_at, Ordering, IsBelow, IsRising, and_true}
use Rattle.std.specs.Cmp.{IsTotalOrder}

pub filter_alike : {A : Type 0} (p q : A → Bool) → ((x : A) → q x ≡ p x) → (xs : List A) → filter q xs ≡ filter p xs
filter_alike p q same [] = refl
filter_alike p q same (x ∷ xs) = by (p x) refl (filter_alike p q same xs)
  where
    by : (b : Bool) → p x ≡ b → filter q xs ≡ filter p xs → filter q (x ∷ xs) ≡ filter p (x ∷ xs)
    by true is more = rw (same x ∙ is, is) (ap (λ ys. x ∷ ys) more)
    by false is more = rw (same x ∙ is, is) more

module _ {K X : Type 0} (cmp : K → K → Ordering) (exact : (a b : K) → cmp a b ≡ Equal → a ≡ b) (at_exact : (a b : K) → is_at (cmp a) b ≡ true → a ≡ b) (total : IsTotalOrder cmp) (seen : K → Bool) where
  abbrev p : K × X → Bool
  p e = seen e.0

  front : (k : K) (v : X) (es : List (K × X)) → IsBelow cmp k es → insert_entry cmp es k v ≡ (k, v) ∷ es
  front k v [] below = refl
  front k v (e ∷ es) below = rw below.0 refl

  kept_below : (k : K) (es : List (K × X)) → IsBelow cmp k es → IsBelow cmp k (filter p es)
  kept_below k [] below = tt
  kept_below k (e ∷ es) below = by (p e) refl (kept_below k es below.1)
    where
      by : (b : Bool) → p e ≡ b → IsBelow cmp k (filter p es) → IsBelow cmp k (filter p (e ∷ es))
      by true is more = rw is (below.0, more)
      by false is more = rw is more

  further : (k j : K) → cmp k j ≡ Less → (es : List (K × X)) → IsBelow cmp j es → IsBelow cmp k es
  further k j less [] below = tt
  further k j less (e ∷ es) below = (total.trans k j e.0 less below.0, further k j less es below.1)

  -- an entry that is seen is put in on both sides
  pub filter_put : (k : K) (v : X) → seen k ≡ true → (es : List (K × X)) → IsRising cmp es → filter p (insert_entry cmp es k v) ≡ insert_entry cmp (filter p es) k v
  filter_put k v keeps [] rising = rw keeps refl
  filter_put k v keeps (e ∷ es) rising = by (cmp k e.0) refl (p e) refl (filter_put k v keeps es rising.1)
    where
      key : k ≡ e.0 → seen e.0 ≡ true
      key is = subst (λ (x : K). seen x ≡ true) is keeps

      by : (r : Ordering) → cmp k e.0 ≡ r → (b : Bool) → seen e.0 ≡ b → filter p (insert_entry cmp es k v) ≡ insert_entry cmp (filter p es) k v
          → filter p (insert_entry cmp (e ∷ es) k v) ≡ insert_entry cmp (filter p (e ∷ es)) k v
      by Less is true has more = rw (is, keeps, has, is) refl
      by Less is false has more = rw (is, keeps, has) (sym (front k v (filter p es) (kept_below k es (further k e.0 is es rising.0))))
      by Equal is true has more = rw (is, has, is) refl
      by Equal is false has more = absurd (true≢false (sym (key (exact k e.0 is)) ∙ has))
      by Greater is true has more = rw (is, has, is) (ap (λ (es : List (K × X)). e ∷ es) more)
      by Greater is false has more = rw (is, has) more

  -- one that is hidden on one side alone
  pub filter_hide : (k : K) (v : X) → seen k ≡ false → (es : List (K × X)) → filter p (insert_entry cmp es k v) ≡ filter p es
  filter_hide k v hides [] = rw hides refl
  filter_hide k v hides (e ∷ es) = by (cmp k e.0) refl (p e) refl (filter_hide k v hides es)
    where
      key : k ≡ e.0 → seen e.0 ≡ false
      key is = subst (λ (x : K). seen x ≡ false) is hides

      by : (r : Ordering) → cmp k e.0 ≡ r → (b : Bool) → seen e.0 ≡ b → filter p (insert_entry cmp es k v) ≡ filter p es → filter p (insert_entry cmp (e ∷ es) k v) ≡ filter p (e ∷ es)
      by Less is b has more = rw (is, hides) refl
      by Equal is true has more = absurd (true≢false (sym has ∙ key (exact k e.0 is)))
      by Equal is false has more = rw (is, has) refl
      by Greater is true has more = rw (is, has) (ap (λ (es : List (K × X)). e ∷ es) more)
      by Greater is false has more = rw (is, has) more

  remove_none : (k : K) (es : List (K × X)) → IsBelow cmp k es → remove_entry (is_at (cmp k)) es ≡ es
  remove_none k [] below = refl
  remove_none k (e ∷ es) below = let less : cmp k e.0 ≡ Less = below.0 in rw less (ap (λ (es : List (K × X)). e ∷ es) (remove_none k es below.1))

  below_at : (k : K) (e : K × X) (es : List (K × X)) → is_at (cmp k) e.0 ≡ true → IsBelow cmp e.0 es → IsBelow cmp k es
  below_at k e es is below = subst (λ (x : K). IsBelow cmp x es) (sym (at_exact k e.0 is)) below

  -- what is removed is removed of what is seen
  pub filter_removed : (k : K) (es : List (K × X)) → IsRising cmp es → filter p (remove_entry (is_at (cmp k)) es) ≡ remove_entry (is_at (cmp k)) (filter p es)
  filter_removed k [] rising = refl
  filter_removed k (e ∷ es) rising = by (is_at (cmp k) e.0) (p e) refl refl (filter_removed k es rising.1)
    where
      by : (a b : Bool) → is_at (cmp k) e.0 ≡ a → seen e.0 ≡ b → filter p (remove_entry (is_at (cmp k)) es) ≡ remove_entry (is_at (cmp k)) (filter p es)
          → filter p (remove_entry (is_at (cmp k)) (e ∷ es)) ≡ remove_entry (is_at (cmp k)) (filter p (e ∷ es))
      by true true is has more = rw (is, has, is) refl
      by true false is has more = rw (is, has) (sym (remove_none k (filter p es) (kept_below k es (below_at k e es is rising.0))))
      by false true is has more = rw (is, has, is) (ap (λ (es : List (K × X)). e ∷ es) more)
      by false false is has more = rw (is, has) more

  -- one more that is hidden is removed of what is seen
  module _ (now : K → Bool) (k : K) (hides : (x : K) → now x ≡ (seen x && not (is_at (cmp k) x))) where
    above : (es : List (K × X)) → IsBelow cmp k es → filter (λ (e : K × X). now e.0) es ≡ filter p es
    above [] below = refl
    above (e ∷ es) below = by (seen e.0) refl (above es below.1)
      where
        same : (b : Bool) → seen e.0 ≡ b → now e.0 ≡ b
        same b is = let less : cmp k e.0 ≡ Less = below.0 in hides e.0 ∙ rw (is, less) (and_true b)

        by : (b : Bool) → seen e.0 ≡ b → filter (λ (e : K × X). now e.0) es ≡ filter p es → filter (λ (e : K × X). now e.0) (e ∷ es) ≡ filter p (e ∷ es)
        by true is more = rw (same true is, is) (ap (λ (es : List (K × X)). e ∷ es) more)
        by false is more = rw (same false is, is) more

    pub filter_crossed : (es : List (K × X)) → IsRising cmp es → filter (λ (e : K × X). now e.0) es ≡ remove_entry (is_at (cmp k)) (filter p es)
    filter_crossed [] rising = refl
    filter_crossed (e ∷ es) rising = by (is_at (cmp k) e.0) (seen e.0) refl refl (filter_crossed es rising.1)
      where
        now_is : (a b : Bool) → is_at (cmp k) e.0 ≡ a → seen e.0 ≡ b → now e.0 ≡ (b && not a)
        now_is a b is has = hides e.0 ∙ rw (is, has) refl

        by : (a b : Bool) → is_at (cmp k) e.0 ≡ a → seen e.0 ≡ b → filter (λ (e : K × X). now e.0) es ≡ remove_entry (is_at (cmp k)) (filter p es)
            → filter (λ (e : K × X). now e.0) (e ∷ es) ≡ remove_entry (is_at (cmp k)) (filter p (e ∷ es))
        by true true is has more = rw (now_is true true is has, has, is) (above es (below_at k e es is rising.0))
        by true false is has more = rw (now_is true false is has, has) (above es (below_at k e es is rising.0) ∙ sym (remove_none k (filter p es) (kept_below k es (below_at k e es is rising.0))))
        by false true is has more = rw (now_is false true is has, has, is) (ap (λ (es : List (K × X)). e ∷ es) more)
        by false false is has more = rw (now_is false false is has, has) more

  -- what is seen is found as before
  pub lookup_seen : (k : K) → seen k ≡ true → (es : List (K × X)) → lookup (is_at (cmp k)) (filter p es) ≡ lookup (is_at (cmp k)) es
  lookup_seen k keeps [] = refl
  lookup_seen k keeps (e ∷ es) = by (is_at (cmp k) e.0) (seen e.0) refl refl (lookup_seen k keeps es)
    where
      by : (a b : Bool) → is_at (cmp k) e.0 ≡ a → seen e.0 ≡ b → lookup (is_at (cmp k)) (filter p es) ≡ lookup (is_at (cmp k)) es → lookup (is_at (cmp k)) (filter p (e ∷ es)) ≡ lookup (is_at (cmp k)) (e ∷ es)
      by true true is has more = rw (has, is) refl
      by true false is has more = absurd (true≢false (sym (subst (λ (x : K). seen x ≡ true) (at_exact k e.0 is) keeps) ∙ has))
      by false true is has more = rw (has, is) more
      by false false is has more = rw (has, is) more
