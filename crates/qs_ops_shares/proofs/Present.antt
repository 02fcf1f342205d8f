-- A share that is written in its place stands where an insertion would put it.
use Rattle.std.proofs.Common.{◌≡◌, List, [], ◌∷◌, Option, Some, None, refl, ap}
use Rattle.std.specs.Prelude.{cond}
use Rattle.std.specs.declared.cmp.Ordering.TheVariants.{Less, Equal, Greater}
use Rattle.std.specs.Ordering.{match_ordering, is_eq}
use Rattle.std.specs.List.{AllByRecursion}
use Rattle.std.specs.List.Sorted.{IsStrictlySortedBy}
use Rattle.std.specs.Map.{lookup, set_value, keys_of}
use Rattle.std.specs.BTreeMap.{insert_entry, is_at}
use Rattle.std.specs.Cmp.{IsTotalOrder}
use Rattle.std.specs.declared.cmp.Ordering.{Ordering}
use Rattle.std.proofs.lemmas.Map.Keys.{sorted_head, sorted_tail}

module _ {K : Type 0} {R : K → K → Ordering} (o : IsTotalOrder R) where
  less_all : (s t : K) (ks : List K) → R s t ≡ Less → AllByRecursion (λ x. R t x ≡ Less) ks → AllByRecursion (λ x. R s x ≡ Less) ks
  less_all s t [] lt all = tt
  less_all s t (x ∷ ks) lt all = (o.trans s t x lt all.0, less_all s t ks lt all.1)

module _ {K X : Type 0} {R : K → K → Ordering} (o : IsTotalOrder R) where
  lookup-below : (k : K) (es : List (K × X)) → AllByRecursion (λ q. R k q ≡ Less) (keys_of es) → lookup (is_at (R k)) es ≡ None
  lookup-below k [] all = refl
  lookup-below k (e ∷ es) all = rw all.0 (lookup-below k es all.1)

  pub insert_entry-present : (es : List (K × X)) (k : K) (old new : X) → IsStrictlySortedBy R (keys_of es) → Some old ≡ lookup (is_at (R k)) es
      → set_value (is_at (R k)) es new ≡ insert_entry R es k new
  insert_entry-present [] k old new sorted found = absurd (cc)
  insert_entry-present (e ∷ es) k old new sorted found =
      let head = sorted_head R e.0 (keys_of es) sorted in
      let tail = sorted_tail R e.0 (keys_of es) sorted in
      (elim (R k e.0) as (λ r. R k e.0 ≡ r → Some old ≡ cond (is_eq r) (Some e.1) (lookup (is_at (R k)) es) → cond (is_eq r) ((e.0, new) ∷ es) (e ∷ set_value (is_at (R k)) es new) ≡ match_ordering r ((k, new) ∷ e ∷ es) ((e.0, new) ∷ es) (e ∷ insert_entry R es k new)) [
        | Less ↦ λ is there. let gone = lookup-below k es (less_all o k e.0 (keys_of es) is head) in absurd (cc)
        | Equal ↦ λ is there. refl
        | Greater ↦ λ is there. ap (λ l. e ∷ l) (insert_entry-present es k old new tail there)
      ]) refl found
