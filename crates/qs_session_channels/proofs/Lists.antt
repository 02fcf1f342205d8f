-- Facts on lists that std does not have in this form.
use Rattle.std.proofs.Common.{◌≡◌, ◌≢◌, ◌⊎◌, ℕ, ◌+◌, ◌-◌, ◌<◌, ◌≤◌, true, false, refl, sym, subst, ap, ◌∙◌, arith, List, [], ◌∷◌, ◌++◌, length, take, drop, zero, suc, Option, Some, None}
use Rattle.std.specs.Prelude.{slice_get, min}
use Rattle.std.proofs.lemmas.Bool.Decides.{nat_tests}
use Rattle.std.proofs.lemmas.List.{append_assoc, length-append, drop-append-le}

pub get_more : {M : Type 0} → (xs ys : List M) (k : ℕ) (x : M) → slice_get xs k ≡ Some x → slice_get (xs ++ ys) k ≡ Some x
get_more [] ys k x is = grind (arith, is)
get_more (y ∷ xs) ys zero x is = is
get_more (y ∷ xs) ys (suc k) x is = get_more xs ys k x is

pub get_last : {M : Type 0} → (xs : List M) (x : M) → slice_get (xs ++ x ∷ []) (length xs) ≡ Some x
get_last [] x = refl
get_last (y ∷ xs) x = get_last xs x

pub get_drop : {M : Type 0} → (a : ℕ) (xs : List M) (k : ℕ) → slice_get (drop a xs) k ≡ slice_get xs (a + k)
get_drop zero xs k = let e : 0 + k ≡ k = omega arith in rw e refl
get_drop (suc a) [] k = refl
get_drop (suc a) (x ∷ xs) k = let e : suc a + k ≡ suc (a + k) = omega arith in rw e (get_drop a xs k)

drop_nil : {M : Type 0} → (n : ℕ) → ◌≡◌ {A = List M} (drop n []) []
drop_nil zero = refl
drop_nil (suc n) = refl

pub drop_drop : {M : Type 0} → (a b : ℕ) (xs : List M) → drop b (drop a xs) ≡ drop (a + b) xs
drop_drop zero b xs = let e : 0 + b ≡ b = omega arith in rw e refl
drop_drop (suc a) b [] = let e : suc a + b ≡ suc (a + b) = omega arith in rw e (drop_nil b)
drop_drop (suc a) b (x ∷ xs) = let e : suc a + b ≡ suc (a + b) = omega arith in rw e (drop_drop a b xs)

pub drop_took : {M : Type 0} → (n : ℕ) (xs : List M) → drop (length (take n xs)) xs ≡ drop n xs
drop_took zero xs = refl
drop_took (suc n) [] = refl
drop_took (suc n) (x ∷ xs) = drop_took n xs

pub took : {M : Type 0} → (n : ℕ) (xs : List M) → (length (take n xs) ≤ n) × (length (take n xs) ≤ length xs)
took zero xs = grind arith
took (suc n) [] = grind arith
took (suc n) (x ∷ xs) = grind (arith, took n xs)

pub tail_from : {M : Type 0} → (k : ℕ) (xs : List M) (x : M) → slice_get xs k ≡ Some x → drop k xs ≡ x ∷ drop (k + 1) xs
tail_from zero [] x get = grind (arith, get)
tail_from zero (y ∷ xs) x get = grind (arith, get)
tail_from (suc k) [] x get = grind (arith, get)
tail_from (suc k) (y ∷ xs) x get = let e : suc k + 1 ≡ suc (k + 1) = omega arith in rw e (tail_from k xs x get)

-- the next one
pub next_is : {M : Type 0} → (hs xs : List M) (x : M) → xs ≡ hs ++ drop (length hs) xs → slice_get xs (length hs) ≡ Some x → xs ≡ hs ++ x ∷ drop (length hs + 1) xs
next_is {M = M} hs xs x is get = is ∙ ap (λ (l : List M). hs ++ l) (tail_from (length hs) xs x get)
