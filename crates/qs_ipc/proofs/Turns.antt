-- One more turn at the same server.
use Rattle.std.proofs.Common.{◌≡◌, ℕ, zero, suc, ◌+◌, ◌<◌, List, [], ◌∷◌, ◌++◌, map, take, length, refl, ap, arith}

pub same_more : {X A : Type 0} (a : A) (xs : List X) (i : ℕ) → i < length xs → map (λ (x : X). a) (take (i + 1) xs) ≡ map (λ (x : X). a) (take i xs) ++ a ∷ []
same_more a [] i within = absurd (omega arith)
same_more a (x ∷ xs) zero within = refl
same_more {A = A} a (x ∷ xs) (suc i) within =
    let e : suc i + 1 ≡ suc (i + 1) = omega arith in
    rw e (ap (λ (l : List A). a ∷ l) (same_more a xs i (omega (arith, within))))
