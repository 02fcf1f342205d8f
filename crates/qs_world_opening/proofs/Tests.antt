-- Small facts on tests: of two together, of a number and itself, and of each number below one.
use Rattle.std.proofs.Common.{◌≡◌, ℕ, ◌<◌, ◌==◌, ◌&&◌, Bool, true, false, refl, arith}
use Rattle.std.specs.Prelude.{zero, suc}
use Rattle.std.proofs.lemmas.Bool.Decides.{nat_tests}
use Rattle.qs_world.specs.Openings.{each_below}

pub both : (a b : Bool) → a ≡ true → b ≡ true → (a && b) ≡ true
both a b x y = rw (x, y) refl

pub parts : (a b : Bool) → (a && b) ≡ true → (a ≡ true) × (b ≡ true)
parts true b is = (refl, is)
parts false b is = absurd (cc is)

pub itself : (n : ℕ) → (n == n) ≡ true
itself n = grind (arith, nat_tests)

-- ---- each number below one

last_low : (n : ℕ) → n < suc n
last_low n = grind (arith)

further : (k n : ℕ) → k < n → k < suc n
further k n low = grind (arith, low)

-- each number below one passes the test
pub each_so : (n : ℕ) (test : ℕ → Bool) → ((k : ℕ) → k < n → test k ≡ true) → each_below n test ≡ true
each_so zero test all = refl
each_so (suc n) test all = both (test n) (each_below n test) (all n (last_low n)) (each_so n test (λ k low. all k (further k n low)))

pub each_more : (n : ℕ) (test other : ℕ → Bool) → ((k : ℕ) → test k ≡ true → other k ≡ true) → each_below n test ≡ true → each_below n other ≡ true
each_more zero test other more is = refl
each_more (suc n) test other more is = let p = parts (test n) (each_below n test) is in
    both (other n) (each_below n other) (more n p.0) (each_more n test other more p.1)
