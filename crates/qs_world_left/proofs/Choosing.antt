-- What is found for each number below a limit, as one function.
use Rattle.std.proofs.Common.{◌≡◌, refl, ℕ, ◌<◌, Bool, true, false, arith, nat_lt}
use Rattle.std.proofs.lemmas.Bool.{ltb-true}
use Rattle.std.proofs.lemmas.Bool.Decides.{nat_tests}

pub record Choice {A : Type 0} (size : ℕ) (P : ℕ → A → Type 0) : Type 0 where
  pub at : ℕ → A
  pub has : (n : ℕ) → n < size → P n (at n)

pub choose : {A : Type 0} (size : ℕ) (P : ℕ → A → Type 0) → A → ((n : ℕ) → n < size → (x : A) × P n x) → Choice size P
choose {A} size P other each = record { at = λ n. (pick n).0; has = λ n low. (pick n).1 low }
  where
    pick : (n : ℕ) → (x : A) × (n < size → P n x)
    pick n = by (nat_lt n size) refl
      where
        by : (b : Bool) → nat_lt n size ≡ b → (x : A) × (n < size → P n x)
        by true is = let found : (x : A) × P n x = each n (ltb-true n size is) in (found.0, λ low. found.1)
        by false is = (other, λ low. absurd (grind (arith, nat_tests, is, low)))
