-- An index stays one as a key comes to it, and as the list grows.
use Rattle.std.proofs.Common.{◌≡◌, ◌∙◌, ℕ, zero, suc, List, [], ◌∷◌, ◌++◌, length, refl, sym, subst}
use Rattle.std.specs.Prelude.{Bool, Option, Some, None, true, false, cond, is_none, slice_get, if◌then◌else◌}
use Rattle.std.specs.List.{find}
use Rattle.std.specs.Map.{lookup}
use Rattle.std.specs.BTreeMap.{is_at}
use Rattle.std.specs.Ordering.{is_eq}
use Rattle.std.specs.declared.cmp.Ordering.{Ordering}
use Rattle.std.specs.declared.cmp.Ordering.TheVariants.{Less, Equal, Greater}
use Rattle.qs_node_kept.specs.Index.{IsIndexOf, passing, found_at}

-- ---- a list that grows

pub find-none : {T : Type 0} (test : T → Bool) (xs : List T) (y : T) → find test xs ≡ None → find test (xs ++ y ∷ []) ≡ (if test y then Some y else None)
find-none test [] y h = by (test y)
  where
    by : (b : Bool) → cond b (Some y) None ≡ (if b then Some y else None)
    by true = refl
    by false = refl
find-none test (x ∷ xs) y h = by (test x) (find-none test xs y) h
  where
    by : (b : Bool) → (find test xs ≡ None → find test (xs ++ y ∷ []) ≡ (if test y then Some y else None)) → cond b (Some x) (find test xs) ≡ None
        → cond b (Some x) (find test (xs ++ y ∷ [])) ≡ (if test y then Some y else None)
    by true rest h = absurd (cc)
    by false rest h = rest h

find-some : {T : Type 0} (test : T → Bool) (xs : List T) (y r : T) → find test xs ≡ Some r → find test (xs ++ y ∷ []) ≡ Some r
find-some test [] y r h = absurd (cc)
find-some test (x ∷ xs) y r h = by (test x) (find-some test xs y r) h
  where
    by : (b : Bool) → (find test xs ≡ Some r → find test (xs ++ y ∷ []) ≡ Some r) → cond b (Some x) (find test xs) ≡ Some r
        → cond b (Some x) (find test (xs ++ y ∷ [])) ≡ Some r
    by true rest h = h
    by false rest h = rest h

get-some : {T : Type 0} (test : T → Bool) (xs : List T) (y r : T) (i : ℕ) → passing test (slice_get xs i) ≡ Some r → passing test (slice_get (xs ++ y ∷ []) i) ≡ Some r
get-some test [] y r i h = absurd (cc)
get-some test (x ∷ xs) y r zero h = h
get-some test (x ∷ xs) y r (suc i) h = get-some test xs y r i h

pub get-none : {T : Type 0} (test : T → Bool) (xs : List T) (y : T) (i : ℕ) → test y ≡ false → passing test (slice_get xs i) ≡ None → passing test (slice_get (xs ++ y ∷ []) i) ≡ None
get-none test [] y zero is h = rw is refl
get-none test [] y (suc i) is h = refl
get-none test (x ∷ xs) y zero is h = h
get-none test (x ∷ xs) y (suc i) is h = get-none test xs y i is h

pub get-last : {T : Type 0} (test : T → Bool) (xs : List T) (y : T) → test y ≡ true → passing test (slice_get (xs ++ y ∷ []) (length xs)) ≡ Some y
get-last test [] y is = rw is refl
get-last test (x ∷ xs) y is = get-last test xs y is

pub get-past : {T : Type 0} (test : T → Bool) (xs : List T) → passing test (slice_get xs (length xs)) ≡ None
get-past test [] = refl
get-past test (x ∷ xs) = get-past test xs

found-some : {T : Type 0} (test : T → Bool) (xs : List T) (y r : T) (o : Option ℕ) → found_at test xs o ≡ Some r → found_at test (xs ++ y ∷ []) o ≡ Some r
found-some test xs y r None h = absurd (cc)
found-some test xs y r (Some i) h = get-some test xs y r i h

found-none : {T : Type 0} (test : T → Bool) (xs : List T) (y : T) (o : Option ℕ) → test y ≡ false → found_at test xs o ≡ None → found_at test (xs ++ y ∷ []) o ≡ None
found-none test xs y None is h = refl
found-none test xs y (Some i) is h = get-none test xs y i is h

-- one more item, whose key, if no item before had it, has the next place
found-more : {T : Type 0} (test : T → Bool) (xs : List T) (y : T) (o : Option ℕ) → found_at test xs o ≡ find test xs
    → (find test xs ≡ None → test y ≡ true → o ≡ Some (length xs)) → found_at test (xs ++ y ∷ []) o ≡ find test (xs ++ y ∷ [])
found-more {T} test xs y o h here = by (find test xs) refl
  where
    fresh : (b : Bool) → test y ≡ b → find test xs ≡ None → found_at test (xs ++ y ∷ []) o ≡ find test (xs ++ y ∷ [])
    fresh true is none = rw (here none is, find-none test xs y none, is) (get-last test xs y is)
    fresh false is none = rw (find-none test xs y none, is) (found-none test xs y o is (h ∙ none))

    by : (r : Option T) → find test xs ≡ r → found_at test (xs ++ y ∷ []) o ≡ find test (xs ++ y ∷ [])
    by None at = fresh (test y) refl at
    by (Some r) at = found-some test xs y r o (h ∙ at) ∙ sym (find-some test xs y r at)

pub index-more : {K T : Type 0} (cmp : K → K → Ordering) (has : K → T → Bool) (places : List (K × ℕ)) (xs : List T) (y : T) → IsIndexOf cmp has places xs
    → ((key : K) → find (has key) xs ≡ None → has key y ≡ true → lookup (is_at (cmp key)) places ≡ Some (length xs))
    → IsIndexOf cmp has places (xs ++ y ∷ [])
index-more cmp has places xs y h here key = found-more (has key) xs y (lookup (is_at (cmp key)) places) (h key) (here key)

-- a key that no item has gets the next place
pub index-put : {K T : Type 0} (cmp : K → K → Ordering) (has : K → T → Bool) (places more : List (K × ℕ)) (xs : List T) (key : K)
    → ((a b : K) → cmp a b ≡ Equal → a ≡ b) → find (has key) xs ≡ None
    → ((q : K) → lookup (is_at (cmp q)) more ≡ cond (is_at (cmp key) q) (Some (length xs)) (lookup (is_at (cmp q)) places))
    → IsIndexOf cmp has places xs → IsIndexOf cmp has more xs
index-put {K} cmp has places more xs key exact none at h q = rw (at q) (by (cmp key q) refl)
  where
    by : (o : Ordering) → cmp key q ≡ o → found_at (has q) xs (cond (is_eq o) (Some (length xs)) (lookup (is_at (cmp q)) places)) ≡ find (has q) xs
    by Less is = h q
    by Greater is = h q
    by Equal is = get-past (has q) xs ∙ sym (subst (λ (k : K). find (has k) xs ≡ None) (exact key q is) none)

-- ---- a key that comes with its item

pub record IsIndexOfBoth {K T : Type 0} (cmp : K → K → Ordering) (has : K → T → Bool) (places : List (K × ℕ)) (xs : List T) (y : T) : Type 0 where
  pub stays : IsIndexOf cmp has places xs
  pub grows : IsIndexOf cmp has places (xs ++ y ∷ [])

-- a new key gets the next place
pub index-new : {K T : Type 0} (cmp : K → K → Ordering) (has : K → T → Bool) (places more : List (K × ℕ)) (xs : List T) (y : T) (key : K)
    → ((a b : K) → cmp a b ≡ Equal → a ≡ b) → ((q : K) → has q y ≡ true → key ≡ q) → find (has key) xs ≡ None
    → ((q : K) → lookup (is_at (cmp q)) more ≡ cond (is_at (cmp key) q) (Some (length xs)) (lookup (is_at (cmp q)) places))
    → lookup (is_at (cmp key)) more ≡ Some (length xs)
    → IsIndexOf cmp has places xs → IsIndexOfBoth cmp has more xs y
index-new {K} cmp has places more xs y key exact owns none at there h =
    let stays = index-put cmp has places more xs key exact none at h in
    record {
      stays = stays;
      grows = index-more cmp has more xs y stays (λ q missing is. subst (λ (k : K). lookup (is_at (cmp k)) more ≡ Some (length xs)) (owns q is) there);
    }

-- a key that an item before has keeps its place
pub index-old : {K T : Type 0} (cmp : K → K → Ordering) (has : K → T → Bool) (places : List (K × ℕ)) (xs : List T) (y : T) (key : K)
    → ((q : K) → has q y ≡ true → key ≡ q) → is_none (find (has key) xs) ≡ false
    → IsIndexOf cmp has places xs → IsIndexOf cmp has places (xs ++ y ∷ [])
index-old {K} cmp has places xs y key owns some h =
    index-more cmp has places xs y h
    (λ q missing is. absurd (clash (find (has key) xs) some (subst (λ (k : K). find (has k) xs ≡ None) (sym (owns q is)) missing)))
  where
    clash : {T : Type 0} (o : Option T) → is_none o ≡ false → o ≡ None → ⊥
    clash None some none = absurd (cc)
    clash (Some x) some none = absurd (cc)

-- an item without a key changes nothing
pub index-without : {K T : Type 0} (cmp : K → K → Ordering) (has : K → T → Bool) (places : List (K × ℕ)) (xs : List T) (y : T)
    → ((q : K) → has q y ≡ false) → IsIndexOf cmp has places xs → IsIndexOf cmp has places (xs ++ y ∷ [])
index-without cmp has places xs y none h = index-more cmp has places xs y h (λ q missing is. absurd (clash (has q y) is (none q)))
  where
    clash : (b : Bool) → b ≡ true → b ≡ false → ⊥
    clash true is not_is = absurd (cc)
    clash false is not_is = absurd (cc)
