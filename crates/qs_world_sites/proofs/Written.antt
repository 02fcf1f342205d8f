-- What is written back over the whole of a vector is what it has then.
use Rattle.std.proofs.Common.{◌≡◌, ap, refl, subst, ℕ, List, [], ◌∷◌, ◌++◌, drop, length, take}

take_front : {A : Type 0} (xs ys : List A) → take (length xs) (xs ++ ys) ≡ xs
take_front [] ys = refl
take_front {A} (x ∷ xs) ys = ap (λ (zs : List A). x ∷ zs) (take_front xs ys)

pub written : {A : Type 0} (len : ℕ) (new items : List A) → length new ≡ len → take len (new ++ drop (length new) items) ≡ new
written len new items long = subst (λ (n : ℕ). take n (new ++ drop (length new) items) ≡ new) long (take_front new (drop (length new) items))
