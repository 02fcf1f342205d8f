-- Truth values put together and taken apart, what two answers have in common, and nodes by their numbers.
use Rattle.qs_world_lawful.proofs.Words.{◌≡◌, ◌==◌, Bool, true, false, ℕ, Some, refl, ap, arith, nat_tests, not, ◌&&◌, NodeNo}

pub left_true : (a b : Bool) → (a && b) ≡ true → a ≡ true
left_true true b h = refl
left_true false b h = absurd (cc h)

pub right_true : (a b : Bool) → (a && b) ≡ true → b ≡ true
right_true true b h = h
right_true false b h = absurd (cc h)

pub not_true : (b : Bool) → not b ≡ true → b ≡ false
not_true true e = absurd (cc e)
not_true false e = refl

pub clash : false ≡ true → ⊥
clash e = cc e

pub of_some : {A : Type 0} {x y : A} → Some x ≡ Some y → x ≡ y
of_some e = cc e

pub node_is : (a b : NodeNo) → a.0 ≡ b.0 → a ≡ b
node_is a b e = ap (λ (n : ℕ). record { 0 = n }) e

pub same_self : (n : ℕ) → (n == n) ≡ true
same_self n = grind (arith, nat_tests)
