-- The lists of all nodes have a merge by key: one node's after the other, each element goes behind all that are not above it.
use Rattle.qs_world_merge.proofs.Words.{◌≡◌, ◌≢◌, ◌⊎◌, ℕ, ◌≤◌, ◌<◌, zero, suc, Bool, true, false, List, [], ◌∷◌, ◌++◌, refl, sym, ap, subst, ◌∙◌, arith, inl, inr, append-nil, le_refl, ⊤, cond, cases_eq, eq-eqb, InKeyOrder, is_after, is_of_node, of_node}
use Rattle.std.proofs.Common.{append_assoc}
use Rattle.std.specs.List.{AllByRecursion}
use Rattle.qs_world_merge.proofs.KeyOrder.{after_own, behind_it, first_after, itself_after, key_of_node, not_behind, other_node}

module _ {X : Type 0} (key : X → ℕ × ℕ) where
  abbrev is_behind : X → X → Bool
  is_behind t u = is_after (key t) (key u).0 (key u).1

  abbrev put_in : X → List X → List X
  put_in u [] = u ∷ []
  put_in u (t ∷ ts) = cond (is_behind t u) (t ∷ put_in u ts) (u ∷ t ∷ ts)

  abbrev put_all : List X → List X → List X
  put_all [] ts = ts
  put_all (u ∷ us) ts = put_all us (put_in u ts)

  abbrev pub merge_of : ℕ → (ℕ → List X) → List X
  merge_of zero lists = []
  merge_of (suc n) lists = put_all (lists n) (merge_of n lists)

  -- ---- it is in order

  put_in_order : (size : ℕ) (last : ℕ × ℕ) (u : X) (ts : List X) → InKeyOrder key size last ts → (key u).1 < size → is_after last (key u).0 (key u).1 ≡ true → InKeyOrder key size last (put_in u ts)
  put_in_order size last u [] order in_run after = (in_run, after, tt)
  put_in_order size last u (t ∷ ts) order in_run after = by (is_behind t u) refl (put_in_order size (key t) u ts order.2 in_run)
    where
      by : (b : Bool) → is_behind t u ≡ b → (is_behind t u ≡ true → InKeyOrder key size (key t) (put_in u ts)) → InKeyOrder key size last (cond b (t ∷ put_in u ts) (u ∷ t ∷ ts))
      by true is rest = (order.0, order.1, rest is)
      by false is rest = (in_run, after, (order.0, behind_it (key t) (key u).0 (key u).1 is, order.2))

  -- ---- and has of each node what its list has

  skipped : (k : ℕ) (t : X) (xs ys : List X) → xs ≡ ys → cond (is_of_node key k t) (t ∷ xs) xs ≡ cond (is_of_node key k t) (t ∷ ys) ys
  skipped k t xs ys same = ap (λ (l : List X). cond (is_of_node key k t) (t ∷ l) l) same

  put_in_other : (k : ℕ) (u : X) (ts : List X) → is_of_node key k u ≡ false → of_node key k (put_in u ts) ≡ of_node key k ts
  put_in_other k u [] other = rw other refl
  put_in_other k u (t ∷ ts) other = by (is_behind t u) (put_in_other k u ts other)
    where
      by : (b : Bool) → of_node key k (put_in u ts) ≡ of_node key k ts → of_node key k (cond b (t ∷ put_in u ts) (u ∷ t ∷ ts)) ≡ of_node key k (t ∷ ts)
      by true same = skipped k t (of_node key k (put_in u ts)) (of_node key k ts) same
      by false same = rw other refl

  -- none has a greater stamp
  abbrev NoneAbove : ℕ → List X → Type 0
  NoneAbove s [] = ⊤
  NoneAbove s (t ∷ ts) = ((key t).0 ≤ s) × NoneAbove s ts

  tail_low : (b : Bool) (s : ℕ) (t : X) (ts : List X) → NoneAbove s (cond b (t ∷ ts) ts) → NoneAbove s ts
  tail_low true s t ts lows = lows.1
  tail_low false s t ts lows = lows

  none_behind : (size n s : ℕ) (last : ℕ × ℕ) (ts : List X) → is_after last s n ≡ false → InKeyOrder key size last ts → NoneAbove s (of_node key n ts) → of_node key n ts ≡ []
  none_behind size n s last [] not order lows = refl
  none_behind size n s last (t ∷ ts) not order lows =
      by (is_of_node key n t) refl lows (none_behind size n s (key t) ts (not_behind last (key t) s n not order.1) order.2 (tail_low (is_of_node key n t) s t (of_node key n ts) lows))
    where
      by : (b : Bool) → is_of_node key n t ≡ b → NoneAbove s (cond b (t ∷ of_node key n ts) (of_node key n ts)) → of_node key n ts ≡ [] → cond b (t ∷ of_node key n ts) (of_node key n ts) ≡ []
      by true is lows none = absurd (cc (not_behind last (key t) s n not order.1, after_own (key t) s n is lows.0))
      by false is lows none = none

  more_of : (b : Bool) (t u : X) (xs : List X) → cond b (t ∷ (xs ++ u ∷ [])) (xs ++ u ∷ []) ≡ cond b (t ∷ xs) xs ++ u ∷ []
  more_of true t u xs = refl
  more_of false t u xs = refl

  put_in_mine : (size n : ℕ) (last : ℕ × ℕ) (u : X) (ts : List X) → is_of_node key n u ≡ true → InKeyOrder key size last ts → NoneAbove (key u).0 (of_node key n ts) → of_node key n (put_in u ts) ≡ of_node key n ts ++ u ∷ []
  put_in_mine size n last u [] mine order lows = rw mine refl
  put_in_mine size n last u (t ∷ ts) mine order lows = by (is_behind t u) refl (put_in_mine size n (key t) u ts mine order.2 (tail_low (is_of_node key n t) (key u).0 t (of_node key n ts) lows))
    where
      by : (b : Bool) → is_behind t u ≡ b → of_node key n (put_in u ts) ≡ of_node key n ts ++ u ∷ [] → of_node key n (cond b (t ∷ put_in u ts) (u ∷ t ∷ ts)) ≡ of_node key n (t ∷ ts) ++ u ∷ []
      by true is rest = skipped n t (of_node key n (put_in u ts)) (of_node key n ts ++ u ∷ []) rest ∙ more_of (is_of_node key n t) t u (of_node key n ts)
      by false is rest =
          let none : of_node key n (t ∷ ts) ≡ [] = none_behind size n (key u).0 (key t) (t ∷ ts) (key_of_node (key t) (key u) n mine is) (order.0, itself_after (key t).0 (key t).1, order.2) lows in
          ap (λ (b : Bool). cond b (u ∷ of_node key n (t ∷ ts)) (of_node key n (t ∷ ts))) mine ∙ (ap (λ (l : List X). u ∷ l) none ∙ sym (ap (λ (l : List X). l ++ u ∷ []) none))

  -- ---- a whole list, of one node, in order

  abbrev pub Rising : ℕ → ℕ → List X → Type 0
  Rising n at [] = ⊤
  Rising n at (u ∷ us) = ((key u).1 ≡ n) × (at ≤ (key u).0) × Rising n (key u).0 us

  none_above_more : (xs : List X) (at s : ℕ) → at ≤ s → NoneAbove at xs → NoneAbove s xs
  none_above_more [] at s low lows = tt
  none_above_more (x ∷ xs) at s low lows = (omega (arith, low, lows.0), none_above_more xs at s low lows.1)

  none_above_next : (s : ℕ) (u : X) (xs : List X) → (key u).0 ≤ s → NoneAbove s xs → NoneAbove s (xs ++ u ∷ [])
  none_above_next s u [] here lows = (here, tt)
  none_above_next s u (x ∷ xs) here lows = (lows.0, none_above_next s u xs here lows.1)

  all_mine : (size n : ℕ) → n < size → (at : ℕ) (us ts : List X) → Rising n at us → InKeyOrder key size (0, 0) ts → NoneAbove at (of_node key n ts) → of_node key n (put_all us ts) ≡ of_node key n ts ++ us
  all_mine size n in_run at [] ts rising order lows = sym (append-nil (of_node key n ts))
  all_mine size n in_run at (u ∷ us) ts rising order lows =
      let raised = none_above_more (of_node key n ts) at (key u).0 rising.1 lows in
      let put : of_node key n (put_in u ts) ≡ of_node key n ts ++ u ∷ [] = put_in_mine size n (0, 0) u ts (eq-eqb (key u).1 n rising.0) order raised in
      all_mine size n in_run (key u).0 us (put_in u ts) rising.2 (put_in_order size (0, 0) u ts order (omega (arith, rising.0, in_run)) (first_after (key u).0 (key u).1))
      (subst (λ (l : List X). NoneAbove (key u).0 l) (sym put) (none_above_next (key u).0 u (of_node key n ts) (le_refl (key u).0) raised))
      ∙ (ap (λ (l : List X). l ++ us) put ∙ append_assoc (of_node key n ts) (u ∷ []) us)

  all_other : (n k at : ℕ) (us ts : List X) → k ≢ n → Rising n at us → of_node key k (put_all us ts) ≡ of_node key k ts
  all_other n k at [] ts other rising = refl
  all_other n k at (u ∷ us) ts other rising = all_other n k (key u).0 us (put_in u ts) other rising.2 ∙ put_in_other k u ts (other_node (key u).1 k n rising.0 other)

  all_order : (size n : ℕ) → n < size → (at : ℕ) (us ts : List X) → Rising n at us → InKeyOrder key size (0, 0) ts → InKeyOrder key size (0, 0) (put_all us ts)
  all_order size n in_run at [] ts rising order = order
  all_order size n in_run at (u ∷ us) ts rising order =
      all_order size n in_run (key u).0 us (put_in u ts) rising.2 (put_in_order size (0, 0) u ts order (omega (arith, rising.0, in_run)) (first_after (key u).0 (key u).1))

  -- ---- the lists of all nodes

  pub record Merges (size n : ℕ) (lists : ℕ → List X) : Type 0 where
    pub order : InKeyOrder key size (0, 0) (merge_of n lists)
    pub each : (k : ℕ) → k < n → of_node key k (merge_of n lists) ≡ lists k
    pub none : (k : ℕ) → n ≤ k → of_node key k (merge_of n lists) ≡ []

  merges : (size n : ℕ) (lists : ℕ → List X) → n ≤ size → ((k : ℕ) → k < size → Rising k 0 (lists k)) → Merges size n lists
  merges size zero lists in_run rising = record { order = tt; each = λ k lt. absurd (omega (arith, lt)); none = λ k le. refl }
  merges size (suc n) lists in_run rising =
      let before = merges size n lists (omega (arith, in_run)) rising in
      let here : n < size = omega (arith, in_run) in
      record {
        order = all_order size n here 0 (lists n) (merge_of n lists) (rising n here) before.order;
        each = λ k lt. by before here k lt (cases_eq k n);
        none = λ k le. all_other n k 0 (lists n) (merge_of n lists) (above k le) (rising n here) ∙ before.none k (omega (arith, le));
      }
    where
      above : (k : ℕ) → suc n ≤ k → k ≢ n
      above k le = omega (arith, le)

      by : Merges size n lists → n < size → (k : ℕ) → k < suc n → (k ≡ n) ⊎ (k ≢ n) → of_node key k (put_all (lists n) (merge_of n lists)) ≡ lists k
      by before here k lt (inl is) =
          subst (λ (j : ℕ). of_node key j (put_all (lists n) (merge_of n lists)) ≡ lists j) (sym is)
          (all_mine size n here 0 (lists n) (merge_of n lists) (rising n here) before.order (subst (λ (l : List X). NoneAbove 0 l) (sym (before.none n (le_refl n))) tt)
          ∙ ap (λ (l : List X). l ++ lists n) (before.none n (le_refl n)))
      by before here k lt (inr other) = all_other n k 0 (lists n) (merge_of n lists) other (rising n here) ∙ before.each k (omega (arith, lt, other))

  pub merged_all : (size : ℕ) (lists : ℕ → List X) → ((k : ℕ) → k < size → Rising k 0 (lists k)) → Merges size size lists
  merged_all size lists rising = merges size size lists (le_refl size) rising

  -- ---- what holds of each element of the lists holds of each of the merge

  in_holds : (P : X → Type 0) (u : X) (ts : List X) → P u → AllByRecursion P ts → AllByRecursion P (put_in u ts)
  in_holds P u [] here all = (here, tt)
  in_holds P u (t ∷ ts) here all = by (is_behind t u) (in_holds P u ts here all.1)
    where
      by : (b : Bool) → AllByRecursion P (put_in u ts) → AllByRecursion P (cond b (t ∷ put_in u ts) (u ∷ t ∷ ts))
      by true rest = (all.0, rest)
      by false rest = (here, all)

  all_holds : (P : X → Type 0) (us ts : List X) → AllByRecursion P us → AllByRecursion P ts → AllByRecursion P (put_all us ts)
  all_holds P [] ts here all = all
  all_holds P (u ∷ us) ts here all = all_holds P us (put_in u ts) here.1 (in_holds P u ts here.0 all)

  pub merged_holds : (P : X → Type 0) (n : ℕ) (lists : ℕ → List X) → ((k : ℕ) → k < n → AllByRecursion P (lists k)) → AllByRecursion P (merge_of n lists)
  merged_holds P zero lists each = tt
  merged_holds P (suc n) lists each = all_holds P (lists n) (merge_of n lists) (each n (omega arith)) (merged_holds P n lists (λ k lt. each k (omega (arith, lt))))
