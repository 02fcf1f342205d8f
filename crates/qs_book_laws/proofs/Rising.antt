-- Entries whose keys rise, as those of each map do: they stay so, some alone too, and a key that was removed is not found.
use Rattle.qs_book_laws.proofs.Words.{◌≡◌, Bool, true, false, List, [], ◌∷◌, None, refl, sym, ap, subst, ◌∙◌, cond, ⊤, AllByRecursion, lookup, remove_entry, match_ordering, insert_entry, is_at, Ordering, Less, Equal, Greater, nat_cmp_total, tid_total, voter_cmp, Voter}
use Rattle.std.specs.Cmp.{IsTotalOrder}
use Rattle.std.specs.List.{filter}
use Rattle.std.specs.Ordering.{ordering_reverse}
use Rattle.std.proofs.lemmas.Cmp.{on_total, then_total}

pub voter_total : IsTotalOrder voter_cmp
voter_total = then_total (on_total (λ (v : Voter). v.tid) tid_total) (on_total (λ (v : Voter). v.server.0) nat_cmp_total)

module _ {K X : Type 0} (cmp : K → K → Ordering) where
  -- the key is below those of all entries
  abbrev pub IsBelow : K → List (K × X) → Type 0
  IsBelow k es = AllByRecursion (λ (e : K × X). cmp k e.0 ≡ Less) es

  abbrev pub IsRising : List (K × X) → Type 0
  IsRising [] = ⊤
  IsRising (e ∷ es) = IsBelow e.0 es × IsRising es

  put_below : (x k : K) (v : X) → cmp x k ≡ Less → (es : List (K × X)) → IsBelow x es → IsBelow x (insert_entry cmp es k v)
  put_below x k v less [] below = (less, tt)
  put_below x k v less (e ∷ es) below = by (cmp k e.0) (put_below x k v less es below.1)
    where
      by : (r : Ordering) → IsBelow x (insert_entry cmp es k v) → IsBelow x (match_ordering r ((k, v) ∷ e ∷ es) ((e.0, v) ∷ es) (e ∷ insert_entry cmp es k v))
      by Less more = (less, below)
      by Equal more = (below.0, below.1)
      by Greater more = (below.0, more)

  below_all : IsTotalOrder cmp → (x y : K) → cmp x y ≡ Less → (es : List (K × X)) → IsBelow y es → IsBelow x es
  below_all total x y less [] below = tt
  below_all total x y less (e ∷ es) below = (total.trans x y e.0 less below.0, below_all total x y less es below.1)

  pub put_rises : IsTotalOrder cmp → (k : K) (v : X) (es : List (K × X)) → IsRising es → IsRising (insert_entry cmp es k v)
  put_rises total k v [] rising = (tt, tt)
  put_rises total k v (e ∷ es) rising = by (cmp k e.0) refl (put_rises total k v es rising.1)
    where
      turned : cmp k e.0 ≡ Greater → cmp e.0 k ≡ Less
      turned is = total.antisymm e.0 k ∙ ap ordering_reverse is

      by : (r : Ordering) → cmp k e.0 ≡ r → IsRising (insert_entry cmp es k v) → IsRising (match_ordering r ((k, v) ∷ e ∷ es) ((e.0, v) ∷ es) (e ∷ insert_entry cmp es k v))
      by Less is more = ((is, below_all total k e.0 is es rising.0), rising)
      by Equal is more = rising
      by Greater is more = (put_below e.0 k v (turned is) es rising.0, more)

  remove_below : (x : K) (p : K → Bool) (es : List (K × X)) → IsBelow x es → IsBelow x (remove_entry p es)
  remove_below x p [] below = tt
  remove_below x p (e ∷ es) below = by (p e.0) (remove_below x p es below.1)
    where
      by : (b : Bool) → IsBelow x (remove_entry p es) → IsBelow x (cond b es (e ∷ remove_entry p es))
      by true more = below.1
      by false more = (below.0, more)

  pub remove_rises : (p : K → Bool) (es : List (K × X)) → IsRising es → IsRising (remove_entry p es)
  remove_rises p [] rising = tt
  remove_rises p (e ∷ es) rising = by (p e.0) (remove_rises p es rising.1)
    where
      by : (b : Bool) → IsRising (remove_entry p es) → IsRising (cond b es (e ∷ remove_entry p es))
      by true more = rising.1
      by false more = (remove_below e.0 p es rising.0, more)

  filter_below : (x : K) (p : K → Bool) (es : List (K × X)) → IsBelow x es → IsBelow x (filter (λ (e : K × X). p e.0) es)
  filter_below x p [] below = tt
  filter_below x p (e ∷ es) below = by (p e.0) (filter_below x p es below.1)
    where
      by : (b : Bool) → IsBelow x (filter (λ (e : K × X). p e.0) es) → IsBelow x (cond b (e ∷ filter (λ (e : K × X). p e.0) es) (filter (λ (e : K × X). p e.0) es))
      by true more = (below.0, more)
      by false more = more

  pub filter_rises : (p : K → Bool) (es : List (K × X)) → IsRising es → IsRising (filter (λ (e : K × X). p e.0) es)
  filter_rises p [] rising = tt
  filter_rises p (e ∷ es) rising = by (p e.0) (filter_rises p es rising.1)
    where
      by : (b : Bool) → IsRising (filter (λ (e : K × X). p e.0) es) → IsRising (cond b (e ∷ filter (λ (e : K × X). p e.0) es) (filter (λ (e : K × X). p e.0) es))
      by true more = (filter_below e.0 p es rising.0, more)
      by false more = more

  none_below : (k : K) (es : List (K × X)) → IsBelow k es → lookup (is_at (cmp k)) es ≡ None
  none_below k [] below = refl
  none_below k (e ∷ es) below = let less : cmp k e.0 ≡ Less = below.0 in rw less (none_below k es below.1)

  -- it is found no more
  pub removed : ((x y : K) → is_at (cmp x) y ≡ true → x ≡ y) → (k : K) (es : List (K × X)) → IsRising es → lookup (is_at (cmp k)) (remove_entry (is_at (cmp k)) es) ≡ None
  removed exact k [] rising = refl
  removed exact k (e ∷ es) rising = by (is_at (cmp k) e.0) refl (removed exact k es rising.1)
    where
      by : (b : Bool) → is_at (cmp k) e.0 ≡ b → lookup (is_at (cmp k)) (remove_entry (is_at (cmp k)) es) ≡ None → lookup (is_at (cmp k)) (cond b es (e ∷ remove_entry (is_at (cmp k)) es)) ≡ None
      by true is more = none_below k es (subst (λ (x : K). IsBelow x es) (sym (exact k e.0 is)) rising.0)
      by false is more = rw is more
