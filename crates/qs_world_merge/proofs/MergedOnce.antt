-- A list in order that has of each node what its list has is the merge of the lists, and no other list is.
use Rattle.qs_world_merge.proofs.Words.{◌≡◌, ◌≢◌, ◌⊎◌, ℕ, ◌≤◌, ◌<◌, zero, suc, true, false, List, [], ◌∷◌, ◌++◌, refl, sym, ap, subst, ◌∙◌, arith, inl, inr, append-nil, ⊤, filter, cases_eq, eq-eqb, nat_tests, InKeyOrder, IsMergedBy, is_after, is_of_node, of_node}
use Rattle.std.proofs.Common.{length, get_or, add-one}
use Rattle.std.specs.List.Sorted.{IsSortedBy, IsStableBy, ties}
use Rattle.std.specs.Cmp.{nat_cmp_total, on_total, then_total}
use Rattle.std.specs.Ordering.{nat_cmp, ordering_then}
use Rattle.std.proofs.lemmas.Bool.{cases_lt}
use Rattle.std.proofs.lemmas.List.Sorted.{ranks_by}
use Rattle.qs_book_journal.proofs.OnceLemmas.{sorted_once}
use Rattle.qs_world_merge.specs.MergedByKey.{flat_of, key_lt}
use Rattle.qs_world_merge.proofs.KeyOrder.{OnlyOf, filter_within, none_other, not_below, of_both, tied_nodes}
use Rattle.qs_world_merge.proofs.MergeByKey.{Rising}

module _ {X : Type 0} (key : X → ℕ × ℕ) where
  -- ---- it is sorted

  -- none is below the one before it
  abbrev pub Follows : ℕ × ℕ → List X → Type 0
  Follows last [] = ⊤
  Follows last (x ∷ xs) = (is_after last (key x).0 (key x).1 ≡ true) × Follows (key x) xs

  pub follows_in_order : (size : ℕ) (last : ℕ × ℕ) (xs : List X) → InKeyOrder key size last xs → Follows last xs
  follows_in_order size last [] order = tt
  follows_in_order size last (x ∷ xs) order = (order.1, follows_in_order size (key x) xs order.2)

  sorted_at : (last : ℕ × ℕ) (xs : List X) → Follows last xs → (k : ℕ) (d : X) → suc k < length xs → key_lt key (get_or xs (suc k) d) (get_or xs k d) ≡ false
  sorted_at last [] follows k d lt = absurd (omega (arith, lt))
  sorted_at last (x ∷ []) follows k d lt = absurd (omega (arith, lt))
  sorted_at last (x ∷ y ∷ ys) follows zero d lt = not_below (key x) (key y) follows.1.0
  sorted_at last (x ∷ y ∷ ys) follows (suc k) d lt = sorted_at (key x) (y ∷ ys) follows.1 k d (omega (arith, lt))

  pub is_sorted : (last : ℕ × ℕ) (xs : List X) → Follows last xs → IsSortedBy (key_lt key) xs
  is_sorted last xs follows k d low lt = rw add-one (sorted_at last xs follows k d (omega (arith, lt)))

  -- ---- and has those of one key as they stood

  pub rising_only : (n at : ℕ) (xs : List X) → Rising key n at xs → OnlyOf key n xs
  rising_only n at [] rising = refl
  rising_only n at (x ∷ xs) rising = rw (eq-eqb (key x).1 n rising.0) (ap (λ (l : List X). x ∷ l) (rising_only n (key x).0 xs rising.2))

  flat_none : (size k : ℕ) (lists : ℕ → List X) → ((n : ℕ) → n < size → OnlyOf key n (lists n)) → size ≤ k → of_node key k (flat_of size lists) ≡ []
  flat_none zero k lists only out = refl
  flat_none (suc n) k lists only out =
      of_both key k (flat_of n lists) (lists n)
      ∙ (ap (λ (l : List X). l ++ of_node key k (lists n)) (flat_none n k lists (λ i lt. only i (omega (arith, lt))) (omega (arith, out))) ∙ none_other key k n (lists n) (only n (omega arith)) (grind (arith, nat_tests, out)))

  flat_own : (size k : ℕ) (lists : ℕ → List X) → ((n : ℕ) → n < size → OnlyOf key n (lists n)) → k < size → of_node key k (flat_of size lists) ≡ lists k
  flat_own zero k lists only lt = absurd (omega (arith, lt))
  flat_own (suc n) k lists only lt = of_both key k (flat_of n lists) (lists n) ∙ by (cases_eq k n) (λ less. flat_own n k lists (λ i lt. only i (omega (arith, lt))) less)
    where
      by : (k ≡ n) ⊎ (k ≢ n) → (k < n → of_node key k (flat_of n lists) ≡ lists k) → of_node key k (flat_of n lists) ++ of_node key k (lists n) ≡ lists k
      by (inl is) rest = subst (λ (j : ℕ). of_node key j (flat_of n lists) ++ of_node key j (lists n) ≡ lists j) (sym is)
          (ap (λ (l : List X). l ++ of_node key n (lists n)) (flat_none n n lists (λ i lt. only i (omega (arith, lt))) (omega arith)) ∙ only n (omega arith))
      by (inr other) rest = ap (λ (l : List X). l ++ of_node key k (lists n)) (rest (omega (arith, lt, other)))
          ∙ (ap (λ (l : List X). lists k ++ l) (none_other key k n (lists n) (only n (omega arith)) (grind (arith, nat_tests, other))) ∙ append-nil (lists k))

  pub is_stable : (size : ℕ) (lists : ℕ → List X) (xs : List X) → ((n : ℕ) → n < size → OnlyOf key n (lists n)) → ((n : ℕ) → n < size → of_node key n xs ≡ lists n) → ((n : ℕ) → size ≤ n → of_node key n xs ≡ [])
      → IsStableBy (key_lt key) (flat_of size lists) xs
  is_stable size lists xs only mine none x =
      let alike : (y : X) → ties (key_lt key) x y ≡ true → is_of_node key (key x).1 y ≡ true = λ y is. tied_nodes (key x) (key y) is in
      sym (filter_within (ties (key_lt key) x) (is_of_node key (key x).1) xs alike)
      ∙ (ap (λ (l : List X). filter (ties (key_lt key) x) l) (same (cases_lt (key x).1 size)) ∙ filter_within (ties (key_lt key) x) (is_of_node key (key x).1) (flat_of size lists) alike)
    where
      same : ((key x).1 < size) ⊎ (size ≤ (key x).1) → of_node key (key x).1 xs ≡ of_node key (key x).1 (flat_of size lists)
      same (inl lt) = mine (key x).1 lt ∙ sym (flat_own size (key x).1 lists only lt)
      same (inr out) = none (key x).1 out ∙ sym (flat_none size (key x).1 lists only out)

  -- ---- no two lists are a merge of the same lists

  pub merged_by_once : (size : ℕ) (lists : ℕ → List X) (one other : List X) → IsMergedBy key size lists one → IsMergedBy key size lists other → one ≡ other
  merged_by_once size lists one other a b =
      let order = ranks_by {R = λ (x y : ℕ × ℕ). ordering_then (nat_cmp x.0 y.0) (nat_cmp x.1 y.1)} (then_total (on_total (λ (k : ℕ × ℕ). k.0) nat_cmp_total) (on_total (λ (k : ℕ × ℕ). k.1) nat_cmp_total)) key in
      sorted_once (key_lt key) order (flat_of size lists) one other a.in_order b.in_order a.as_they_stood b.as_they_stood
