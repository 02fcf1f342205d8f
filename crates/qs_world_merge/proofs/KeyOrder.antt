-- Keys of a stamp and a node, and what a list has of one node.
use Rattle.qs_world_merge.proofs.Words.{◌≡◌, ◌≢◌, ℕ, ◌==◌, ◌≤◌, ◌<◌, Bool, true, false, List, [], ◌∷◌, ◌++◌, refl, sym, ap, ◌∙◌, arith, ◌&&◌, cond, not, filter, eq-eqb, nat_tests, InKeyOrder, is_after, is_of_node, of_node}
use Rattle.std.specs.Ordering.{is_lt, nat_cmp, ordering_then}
use Rattle.std.proofs.lemmas.List.Elements.{filter-append}

-- ---- keys

pub itself_after : (s n : ℕ) → is_after (s, n) s n ≡ true
itself_after s n = grind (arith, nat_tests)

pub first_after : (s n : ℕ) → is_after (0, 0) s n ≡ true
first_after s n = grind (arith, nat_tests)

pub after_then : (a b : ℕ × ℕ) (s n : ℕ) → is_after a b.0 b.1 ≡ true → is_after b s n ≡ true → is_after a s n ≡ true
after_then a b s n x y = grind (arith, nat_tests, x, y)

pub after_later : (last : ℕ × ℕ) (stamp s n : ℕ) → is_after last stamp n ≡ true → stamp ≤ s → is_after last s n ≡ true
after_later last stamp s n after low = grind (arith, nat_tests, after, low)

pub after_stamp : (last : ℕ × ℕ) (s n : ℕ) → is_after last s n ≡ true → last.0 ≤ s
after_stamp last s n is = grind (arith, nat_tests, is)

pub behind_it : (a : ℕ × ℕ) (s n : ℕ) → is_after a s n ≡ false → is_after (s, n) a.0 a.1 ≡ true
behind_it a s n not = grind (arith, nat_tests, not)

pub not_behind : (last : ℕ × ℕ) (a : ℕ × ℕ) (s n : ℕ) → is_after last s n ≡ false → is_after last a.0 a.1 ≡ true → is_after a s n ≡ false
not_behind last a s n not after = grind (arith, nat_tests, not, after)

pub after_own : (a : ℕ × ℕ) (s n : ℕ) → (a.1 == n) ≡ true → a.0 ≤ s → is_after a s n ≡ true
after_own a s n is low = grind (arith, nat_tests, is, low)

pub key_of_node : (a b : ℕ × ℕ) (n : ℕ) → (b.1 == n) ≡ true → is_after a b.0 b.1 ≡ false → is_after a b.0 n ≡ false
key_of_node a b n mine not = grind (arith, nat_tests, mine, not)

pub not_below : (a b : ℕ × ℕ) → is_after a b.0 b.1 ≡ true → is_lt (ordering_then (nat_cmp b.0 a.0) (nat_cmp b.1 a.1)) ≡ false
not_below a b after = grind (arith, nat_tests, after)

pub tied_nodes : (a b : ℕ × ℕ) → (not (is_lt (ordering_then (nat_cmp a.0 b.0) (nat_cmp a.1 b.1))) && not (is_lt (ordering_then (nat_cmp b.0 a.0) (nat_cmp b.1 a.1)))) ≡ true → (b.1 == a.1) ≡ true
tied_nodes a b is = grind (arith, nat_tests, is)

pub other_node : (a k n : ℕ) → a ≡ n → k ≢ n → (a == k) ≡ false
other_node a k n is other = grind (arith, nat_tests, is, other)

-- ---- what a list has of a node

-- a test that the other one follows from finds in its elements all that it finds in the list
pub filter_within : {A : Type 0} (p q : A → Bool) (xs : List A) → ((y : A) → p y ≡ true → q y ≡ true) → filter p (filter q xs) ≡ filter p xs
filter_within p q [] follows = refl
filter_within {A} p q (x ∷ xs) follows = by (q x) (p x) (follows x) refl (filter_within p q xs follows)
  where
    by : (b c : Bool) → (c ≡ true → b ≡ true) → p x ≡ c → filter p (filter q xs) ≡ filter p xs → filter p (cond b (x ∷ filter q xs) (filter q xs)) ≡ cond c (x ∷ filter p xs) (filter p xs)
    by true c f is rest = ap (λ (d : Bool). cond d (x ∷ filter p (filter q xs)) (filter p (filter q xs))) is ∙ ap (λ (l : List A). cond c (x ∷ l) l) rest
    by false true f is rest = absurd (cc (f refl))
    by false false f is rest = rest

module _ {X : Type 0} (key : X → ℕ × ℕ) where
  pub of_both : (n : ℕ) (xs ys : List X) → of_node key n (xs ++ ys) ≡ of_node key n xs ++ of_node key n ys
  of_both n xs ys = filter-append (is_of_node key n) xs ys

  pub first_of : (x : X) (xs : List X) → of_node key (key x).1 (x ∷ xs) ≡ x ∷ of_node key (key x).1 xs
  first_of x xs = rw (eq-eqb (key x).1 (key x).1 refl) refl

  pub other_of : (n : ℕ) (x : X) (xs : List X) → ((key x).1 == n) ≡ false → of_node key n (x ∷ xs) ≡ of_node key n xs
  other_of n x xs other = rw other refl

  -- all of it is of the node
  abbrev pub OnlyOf : ℕ → List X → Type 0
  OnlyOf n xs = ◌≡◌ {A = List X} (of_node key n xs) xs

  pub none_twice : (k n : ℕ) (xs : List X) → (n == k) ≡ false → of_node key k (of_node key n xs) ≡ []
  none_twice k n [] other = refl
  none_twice k n (x ∷ xs) other = by (is_of_node key n x) refl (none_twice k n xs other)
    where
      apart : (a : ℕ) → (a == n) ≡ true → (a == k) ≡ false
      apart a is = grind (arith, nat_tests, is, other)

      by : (b : Bool) → is_of_node key n x ≡ b → of_node key k (of_node key n xs) ≡ [] → of_node key k (cond b (x ∷ of_node key n xs) (of_node key n xs)) ≡ []
      by true is rest = ap (λ (c : Bool). cond c (x ∷ of_node key k (of_node key n xs)) (of_node key k (of_node key n xs))) (apart (key x).1 is) ∙ rest
      by false is rest = rest

  pub none_other : (k n : ℕ) (xs : List X) → OnlyOf n xs → (n == k) ≡ false → of_node key k xs ≡ []
  none_other k n xs only other = ap (λ (l : List X). of_node key k l) (sym only) ∙ none_twice k n xs other

  pub none_beyond : (size n : ℕ) (last : ℕ × ℕ) (xs : List X) → InKeyOrder key size last xs → size ≤ n → of_node key n xs ≡ []
  none_beyond size n last [] order out = refl
  none_beyond size n last (x ∷ xs) order out = other_of n x xs (apart (key x).1 order.0) ∙ none_beyond size n (key x) xs order.2 out
    where
      apart : (k : ℕ) → k < size → (k == n) ≡ false
      apart k lt = grind (arith, nat_tests, lt, out)
