-- The least other transaction that holds a name, told by those alone who stand under it.
use Rattle.std.proofs.Common.{◌≡◌, List, [], ◌∷◌, Option, Some, None, refl, sym, ap, ◌∙◌}
use Rattle.std.specs.Prelude.{Bool, true, false, not, cond, ◌&&◌, unwrap_or, if◌then◌else◌}
use Rattle.std.specs.List.{list_any, AllByRecursion}
use Rattle.std.specs.List.Sorted.{IsStrictlySortedBy}
use Rattle.std.specs.declared.cmp.Ordering.TheVariants.{Less, Equal, Greater}
use Rattle.std.specs.Ordering.{is_eq}
use Rattle.std.specs.Map.{lookup, keys_of}
use Rattle.std.specs.BTreeMap.{is_at}
use Rattle.std.specs.BTreeSet.{BTreeSet}
use Rattle.std.proofs.lemmas.Map.Keys.{sorted_head, sorted_tail}
use Rattle.std.proofs.lemmas.Map.Lookups.{btree_set_from_contains}
use Rattle.qs_base.specs.Order.{tid_cmp, same_tid}
use Rattle.qs_base.specs.declared.identifiers.Tid.{Tid}
use Rattle.qs_base.proofs.TidOrder.{tid_total, tid_exact}
use Rattle.qs_files_contents.specs.Slots.{first_other}
use Rattle.qs_files_contents.proofs.Maps.{sorted_cons, sorted_none}

abbrev pub value : {X : Type 0} → X → List (Tid × X) → Tid → X
value d es t = unwrap_or (lookup (is_at (tid_cmp t)) es) d

-- the transactions whose value passes a test
abbrev pub keys_where : {X : Type 0} → (X → Bool) → List (Tid × X) → List Tid
keys_where test [] = []
keys_where test (e ∷ es) = if test e.1 then e.0 ∷ keys_where test es else keys_where test es

abbrev first_in : Tid → List Tid → Option Tid
first_in me [] = None
first_in me (t ∷ ts) = if not (same_tid me t) then Some t else first_in me ts

abbrev set_of : List Tid → BTreeSet Tid
set_of ts = record { keys = ts }

module _ {X : Type 0} (test : X → Bool) where
  first-keys : (me : Tid) (es : List (Tid × X)) → first_other test me es ≡ first_in me (keys_where test es)
  first-keys me [] = refl
  first-keys me (e ∷ es) =
      elim (test e.1) as (λ b. (if not (same_tid me e.0) && b then Some e.0 else first_other test me es) ≡ first_in me (if b then e.0 ∷ keys_where test es else keys_where test es)) [
        | true ↦ elim (not (same_tid me e.0)) as (λ a. (if a && true then Some e.0 else first_other test me es) ≡ (if a then Some e.0 else first_in me (keys_where test es))) [
          | true ↦ refl
          | false ↦ first-keys me es
        ]
        | false ↦ elim (not (same_tid me e.0)) as (λ a. (if a && false then Some e.0 else first_other test me es) ≡ first_in me (keys_where test es)) [
          | true ↦ first-keys me es
          | false ↦ first-keys me es
        ]
      ]

  all_keys : (P : Tid → Type 0) (es : List (Tid × X)) → AllByRecursion P (keys_of es) → AllByRecursion P (keys_where test es)
  all_keys P [] all = tt
  all_keys P (e ∷ es) all = elim (test e.1) as (λ b. AllByRecursion P (if b then e.0 ∷ keys_where test es else keys_where test es)) [ true ↦ (all.0, all_keys P es all.1) | false ↦ all_keys P es all.1 ]

  sorted_keys : (es : List (Tid × X)) → IsStrictlySortedBy tid_cmp (keys_of es) → IsStrictlySortedBy tid_cmp (keys_where test es)
  sorted_keys [] sorted = sorted_none tid_total tid_exact
  sorted_keys (e ∷ es) sorted =
      let head = sorted_head tid_cmp e.0 (keys_of es) sorted in
      let tail = sorted_tail tid_cmp e.0 (keys_of es) sorted in
      elim (test e.1) as (λ b. IsStrictlySortedBy tid_cmp (if b then e.0 ∷ keys_where test es else keys_where test es)) [
        | true ↦ sorted_cons tid_total tid_exact e.0 (keys_where test es) (all_keys (λ k. tid_cmp e.0 k ≡ Less) es head) (sorted_keys es tail)
        | false ↦ sorted_keys es tail
      ]

  not_below : (q : Tid) (ts : List Tid) → AllByRecursion (λ k. tid_cmp q k ≡ Less) ts → list_any (is_at (tid_cmp q)) ts ≡ false
  not_below q [] all = refl
  not_below q (t ∷ ts) all = rw all.0 (not_below q ts all.1)

  among : (d : X) → test d ≡ false → (q : Tid) (es : List (Tid × X)) → IsStrictlySortedBy tid_cmp (keys_of es) → list_any (is_at (tid_cmp q)) (keys_where test es) ≡ test (value d es q)
  among d none q [] sorted = sym none
  among d none q (e ∷ es) sorted =
      let head = sorted_head tid_cmp e.0 (keys_of es) sorted in
      let tail = sorted_tail tid_cmp e.0 (keys_of es) sorted in
      (elim (tid_cmp q e.0) as (λ r. tid_cmp q e.0 ≡ r → list_any (is_at (tid_cmp q)) (if test e.1 then e.0 ∷ keys_where test es else keys_where test es) ≡ test (unwrap_or (cond (is_eq r) (Some e.1) (lookup (is_at (tid_cmp q)) es)) d)) [
        | Less ↦ λ is. skip e es q (ap is_eq is) ∙ among d none q es tail
        | Equal ↦ λ is. here e es q is head
        | Greater ↦ λ is. skip e es q (ap is_eq is) ∙ among d none q es tail
      ]) refl
    where
      skip : (e : Tid × X) (es : List (Tid × X)) (q : Tid) → is_eq (tid_cmp q e.0) ≡ false → list_any (is_at (tid_cmp q)) (if test e.1 then e.0 ∷ keys_where test es else keys_where test es) ≡ list_any (is_at (tid_cmp q)) (keys_where test es)
      skip e es q apart = elim (test e.1) as (λ b. list_any (is_at (tid_cmp q)) (if b then e.0 ∷ keys_where test es else keys_where test es) ≡ list_any (is_at (tid_cmp q)) (keys_where test es)) [ true ↦ rw apart refl | false ↦ refl ]

      here : (e : Tid × X) (es : List (Tid × X)) (q : Tid) → tid_cmp q e.0 ≡ Equal → AllByRecursion (λ k. tid_cmp e.0 k ≡ Less) (keys_of es) → list_any (is_at (tid_cmp q)) (if test e.1 then e.0 ∷ keys_where test es else keys_where test es) ≡ test e.1
      here e es q is head = elim (test e.1) as (λ b. list_any (is_at (tid_cmp q)) (if b then e.0 ∷ keys_where test es else keys_where test es) ≡ b) [
        | true ↦ rw is refl
        | false ↦ rw (tid_exact q e.0 is) (not_below e.0 (keys_where test es) (all_keys (λ k. tid_cmp e.0 k ≡ Less) es head))
      ]

-- the first other of two maps in which the same transactions pass
pub first-same : {X Y : Type 0} (test : X → Bool) (d : X) (es : List (Tid × X)) (other : Y → Bool) (e : Y) (fs : List (Tid × Y)) → test d ≡ false → other e ≡ false
    → IsStrictlySortedBy tid_cmp (keys_of es) → IsStrictlySortedBy tid_cmp (keys_of fs) → ((t : Tid) → test (value d es t) ≡ other (value e fs t))
    → (me : Tid) → first_other test me es ≡ first_other other me fs
first-same test d es other e fs none none_too sorted sorted_too same me =
    first-keys test me es
    ∙ ap (λ (ts : List Tid). first_in me ts) (btree_set_from_contains tid_total (set_of (keys_where test es)) (set_of (keys_where other fs)) (sorted_keys test es sorted) (sorted_keys other fs sorted_too)
    (λ q. among test d none q es sorted ∙ same q ∙ sym (among other e none_too q fs sorted_too)) tid_exact)
    ∙ sym (first-keys other me fs)
