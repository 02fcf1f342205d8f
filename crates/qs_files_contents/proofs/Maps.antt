-- What is at each key of a map, once an entry is put, changed or removed; and the order of its keys.
use Rattle.std.proofs.Common.{◌≡◌, List, [], ◌∷◌, Option, Some, None, refl, sym, ap, ◌∙◌, subst}
use Rattle.std.specs.Prelude.{Bool, true, false, cond}
use Rattle.std.specs.declared.cmp.Ordering.{Ordering}
use Rattle.std.specs.declared.cmp.Ordering.TheVariants.{Less, Equal, Greater}
use Rattle.std.specs.Ordering.{match_ordering, is_eq, ordering_reverse}
use Rattle.std.specs.Cmp.{IsTotalOrder}
use Rattle.std.specs.List.{AllByRecursion}
use Rattle.std.specs.List.Sorted.{IsStrictlySortedBy}
use Rattle.std.specs.Map.{lookup, set_value, remove_entry, keys_of}
use Rattle.std.specs.BTreeMap.{insert_entry, is_at}
use Rattle.std.proofs.lemmas.Cmp.{tied_itself}
use Rattle.std.proofs.lemmas.Map.{keys-set_value}
use Rattle.std.proofs.lemmas.Map.Keys.{sorted_head, sorted_tail}

-- ---- two tests, one after the other

either_way : {X : Type 0} (a b : Bool) (x y z : X) → (a ≡ true → b ≡ true → ⊥) → cond a x (cond b y z) ≡ cond b y (cond a x z)
either_way true true x y z apart = absurd (apart refl refl)
either_way true false x y z apart = refl
either_way false true x y z apart = refl
either_way false false x y z apart = refl

covered : {X : Type 0} (a : Bool) (x y z : X) → cond a x z ≡ cond a x (cond a y z)
covered true x y z = refl
covered false x y z = refl

nothing_either_way : {X : Type 0} (b : Bool) (x : X) → x ≡ cond b x x
nothing_either_way true x = refl
nothing_either_way false x = refl

equal_from : (o : Ordering) → is_eq o ≡ true → o ≡ Equal
equal_from Less is = absurd (cc)
equal_from Equal is = refl
equal_from Greater is = absurd (cc)

-- what is written at a key that is there is found at it
pub lookup-written : {K X : Type 0} (test : K → Bool) (es : List (K × X)) (v w : X) → lookup test es ≡ Some v → lookup test (set_value test es w) ≡ Some w
lookup-written test [] v w there = absurd (cc)
lookup-written {K} {X} test (e ∷ es) v w there = by (test e.0) refl there (lookup-written test es v w)
  where
    by : (b : Bool) → test e.0 ≡ b → cond b (Some e.1) (lookup test es) ≡ Some v
        → (lookup test es ≡ Some v → lookup test (set_value test es w) ≡ Some w)
        → lookup test (cond b ((e.0, w) ∷ es) (e ∷ set_value test es w)) ≡ Some w
    by true is found rest = ap (λ (b : Bool). cond b (Some w) (lookup test es)) is
    by false is found rest = ap (λ (b : Bool). cond b (Some e.1) (lookup test (set_value test es w))) is ∙ rest found

module _ {K : Type 0} {R : K → K → Ordering} (o : IsTotalOrder R) (exact : (x y : K) → R x y ≡ Equal → x ≡ y) where
  -- a key is not two that differ
  apart : (q k e : K) (r : Ordering) → R k e ≡ r → is_eq r ≡ false → is_eq (R q e) ≡ true → is_eq (R q k) ≡ true → ⊥
  apart q k e r is not a b =
      let qe : q ≡ e = exact q e (equal_from (R q e) a) in
      let qk : q ≡ k = exact q k (equal_from (R q k) b) in
      let ke : k ≡ e = sym qk ∙ qe in
      let tied : R k e ≡ Equal = ap (λ (x : K). R x e) ke ∙ tied_itself o e in
      let bad : true ≡ false = sym (ap is_eq (sym is ∙ tied)) ∙ not in
      absurd (cc)

  less_all : (s t : K) (ks : List K) → R s t ≡ Less → AllByRecursion (λ x. R t x ≡ Less) ks → AllByRecursion (λ x. R s x ≡ Less) ks
  less_all s t [] lt all = tt
  less_all s t (x ∷ ks) lt all = (o.trans s t x lt all.0, less_all s t ks lt all.1)

  pub sorted_cons : (k : K) (ks : List K) → AllByRecursion (λ y. R k y ≡ Less) ks → IsStrictlySortedBy R ks → IsStrictlySortedBy R (k ∷ ks)
  unfolding IsStrictlySortedBy
  sorted_cons k ks head tail = (head, tail)

  pub sorted_none : IsStrictlySortedBy R []
  unfolding IsStrictlySortedBy
  sorted_none = tt

module _ {K X : Type 0} {R : K → K → Ordering} (o : IsTotalOrder R) (exact : (x y : K) → R x y ≡ Equal → x ≡ y) where
  pub lookup-put : (es : List (K × X)) (k : K) (v : X) (q : K) → lookup (is_at (R q)) (insert_entry R es k v) ≡ cond (is_eq (R q k)) (Some v) (lookup (is_at (R q)) es)
  lookup-put [] k v q = refl
  lookup-put (e ∷ es) k v q =
      (elim (R k e.0) as (λ r. R k e.0 ≡ r → lookup (is_at (R q)) (match_ordering r ((k, v) ∷ e ∷ es) ((e.0, v) ∷ es) (e ∷ insert_entry R es k v)) ≡ cond (is_eq (R q k)) (Some v) (lookup (is_at (R q)) (e ∷ es))) [
        | Less ↦ λ is. refl
        | Equal ↦ λ is. rw (exact k e.0 is) (covered (is_eq (R q e.0)) (Some v) (Some e.1) (lookup (is_at (R q)) es))
        | Greater ↦ λ is. ap (λ (l : Option X). cond (is_eq (R q e.0)) (Some e.1) l) (lookup-put es k v q)
            ∙ either_way (is_eq (R q e.0)) (is_eq (R q k)) (Some e.1) (Some v) (lookup (is_at (R q)) es) (apart o exact q k e.0 Greater is refl)
      ]) refl

  pub lookup-set : (es : List (K × X)) (k : K) (v w : X) (q : K) → lookup (is_at (R k)) es ≡ Some v → lookup (is_at (R q)) (set_value (is_at (R k)) es w) ≡ cond (is_eq (R q k)) (Some w) (lookup (is_at (R q)) es)
  lookup-set [] k v w q there = absurd (cc)
  lookup-set (e ∷ es) k v w q there =
      (elim (R k e.0) as (λ r. R k e.0 ≡ r → cond (is_eq r) (Some e.1) (lookup (is_at (R k)) es) ≡ Some v
      → lookup (is_at (R q)) (cond (is_eq r) ((e.0, w) ∷ es) (e ∷ set_value (is_at (R k)) es w)) ≡ cond (is_eq (R q k)) (Some w) (lookup (is_at (R q)) (e ∷ es))) [
        | Less ↦ λ is t. ap (λ (l : Option X). cond (is_eq (R q e.0)) (Some e.1) l) (lookup-set es k v w q t)
            ∙ either_way (is_eq (R q e.0)) (is_eq (R q k)) (Some e.1) (Some w) (lookup (is_at (R q)) es) (apart o exact q k e.0 Less is refl)
        | Equal ↦ λ is t. rw (exact k e.0 is) (covered (is_eq (R q e.0)) (Some w) (Some e.1) (lookup (is_at (R q)) es))
        | Greater ↦ λ is t. ap (λ (l : Option X). cond (is_eq (R q e.0)) (Some e.1) l) (lookup-set es k v w q t)
            ∙ either_way (is_eq (R q e.0)) (is_eq (R q k)) (Some e.1) (Some w) (lookup (is_at (R q)) es) (apart o exact q k e.0 Greater is refl)
      ]) refl there

  -- a key below all is at none
  pub lookup-below : (q : K) (es : List (K × X)) → AllByRecursion (λ y. R q y ≡ Less) (keys_of es) → lookup (is_at (R q)) es ≡ None
  lookup-below q [] all = refl
  lookup-below q (e ∷ es) all = rw all.0 (lookup-below q es all.1)

  head_removed : (b : Bool) (e : K × X) (es : List (K × X)) (q : K) → is_eq (R q e.0) ≡ b → AllByRecursion (λ y. R e.0 y ≡ Less) (keys_of es)
      → lookup (is_at (R q)) es ≡ cond b None (cond b (Some e.1) (lookup (is_at (R q)) es))
  head_removed true e es q is below = subst (λ (x : K). lookup (is_at (R x)) es ≡ None) (sym (exact q e.0 (equal_from (R q e.0) is))) (lookup-below e.0 es below)
  head_removed false e es q is below = refl

  pub lookup-out : (es : List (K × X)) (k q : K) → IsStrictlySortedBy R (keys_of es) → lookup (is_at (R q)) (remove_entry (is_at (R k)) es) ≡ cond (is_eq (R q k)) None (lookup (is_at (R q)) es)
  lookup-out [] k q sorted = nothing_either_way (is_eq (R q k)) None
  lookup-out (e ∷ es) k q sorted =
      let head = sorted_head R e.0 (keys_of es) sorted in
      let tail = sorted_tail R e.0 (keys_of es) sorted in
      (elim (R k e.0) as (λ r. R k e.0 ≡ r → lookup (is_at (R q)) (cond (is_eq r) es (e ∷ remove_entry (is_at (R k)) es)) ≡ cond (is_eq (R q k)) None (lookup (is_at (R q)) (e ∷ es))) [
        | Less ↦ λ is. ap (λ (l : Option X). cond (is_eq (R q e.0)) (Some e.1) l) (lookup-out es k q tail)
            ∙ either_way (is_eq (R q e.0)) (is_eq (R q k)) (Some e.1) None (lookup (is_at (R q)) es) (apart o exact q k e.0 Less is refl)
        | Equal ↦ λ is. rw (exact k e.0 is) (head_removed (is_eq (R q e.0)) e es q refl head)
        | Greater ↦ λ is. ap (λ (l : Option X). cond (is_eq (R q e.0)) (Some e.1) l) (lookup-out es k q tail)
            ∙ either_way (is_eq (R q e.0)) (is_eq (R q k)) (Some e.1) None (lookup (is_at (R q)) es) (apart o exact q k e.0 Greater is refl)
      ]) refl

  -- ---- order

  all-put : (P : K → Type 0) (es : List (K × X)) (k : K) (v : X) → P k → AllByRecursion P (keys_of es) → AllByRecursion P (keys_of (insert_entry R es k v))
  all-put P [] k v is all = (is, tt)
  all-put P (e ∷ es) k v is all =
      elim (R k e.0) as (λ r. AllByRecursion P (keys_of (match_ordering r ((k, v) ∷ e ∷ es) ((e.0, v) ∷ es) (e ∷ insert_entry R es k v)))) [
        | Less ↦ (is, all)
        | Equal ↦ all
        | Greater ↦ (all.0, all-put P es k v is all.1)
      ]

  all-out : (P : K → Type 0) (test : K → Bool) (es : List (K × X)) → AllByRecursion P (keys_of es) → AllByRecursion P (keys_of (remove_entry test es))
  all-out P test [] all = tt
  all-out P test (e ∷ es) all = elim (test e.0) as (λ b. AllByRecursion P (keys_of (cond b es (e ∷ remove_entry test es)))) [ true ↦ all.1 | false ↦ (all.0, all-out P test es all.1) ]

  pub sorted-put : (es : List (K × X)) (k : K) (v : X) → IsStrictlySortedBy R (keys_of es) → IsStrictlySortedBy R (keys_of (insert_entry R es k v))
  sorted-put [] k v sorted = sorted_cons o exact k [] tt (sorted_none o exact)
  sorted-put (e ∷ es) k v sorted =
      let head = sorted_head R e.0 (keys_of es) sorted in
      let tail = sorted_tail R e.0 (keys_of es) sorted in
      (elim (R k e.0) as (λ r. R k e.0 ≡ r → IsStrictlySortedBy R (keys_of (match_ordering r ((k, v) ∷ e ∷ es) ((e.0, v) ∷ es) (e ∷ insert_entry R es k v)))) [
        | Less ↦ λ is. sorted_cons o exact k (keys_of (e ∷ es)) (is, less_all o exact k e.0 (keys_of es) is head) sorted
        | Equal ↦ λ is. sorted_cons o exact e.0 (keys_of es) head tail
        | Greater ↦ λ is. sorted_cons o exact e.0 (keys_of (insert_entry R es k v)) (all-put (λ y. R e.0 y ≡ Less) es k v (o.antisymm e.0 k ∙ ap ordering_reverse is) head) (sorted-put es k v tail)
      ]) refl

  pub sorted-set : (es : List (K × X)) (test : K → Bool) (w : X) → IsStrictlySortedBy R (keys_of es) → IsStrictlySortedBy R (keys_of (set_value test es w))
  sorted-set es test w sorted = subst (λ (ks : List K). IsStrictlySortedBy R ks) (sym (keys-set_value test es w)) sorted

  pub sorted-out : (es : List (K × X)) (test : K → Bool) → IsStrictlySortedBy R (keys_of es) → IsStrictlySortedBy R (keys_of (remove_entry test es))
  sorted-out [] test sorted = sorted
  sorted-out (e ∷ es) test sorted =
      let head = sorted_head R e.0 (keys_of es) sorted in
      let tail = sorted_tail R e.0 (keys_of es) sorted in
      elim (test e.0) as (λ b. IsStrictlySortedBy R (keys_of (cond b es (e ∷ remove_entry test es)))) [
        | true ↦ tail
        | false ↦ sorted_cons o exact e.0 (keys_of (remove_entry test es)) (all-out (λ y. R e.0 y ≡ Less) test es head) (sorted-out es test tail)
      ]
