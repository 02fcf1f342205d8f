-- What tests of truth values, numbers and options tell, where std has no such lemma; each is stated here once.
use Rattle.std.proofs.Common.{◌≡◌, ℕ, ◌+◌, ◌<◌, ◌≤◌, ◌==◌, ◌&&◌, ◌||◌, not, suc, arith, nat_lt, Bool, true, false, Option, Some, None, refl, is_none, is_some}
use Rattle.std.proofs.lemmas.Bool.Decides.{nat_tests}

-- ---- both, and either
pub and_first : (a b : Bool) → (a && b) ≡ true → a ≡ true
and_first true b is = refl
and_first false b is = absurd (cc is)

pub and_last : (a b : Bool) → (a && b) ≡ true → b ≡ true
and_last true b is = is
and_last false b is = absurd (cc is)

pub and_three : (a b c : Bool) → a ≡ true → b ≡ true → c ≡ true → (a && (b && c)) ≡ true
and_three a b c x y z = rw (x, y, z) refl

pub and_false : (b : Bool) → (b && false) ≡ false
and_false true = refl
and_false false = refl

pub and_true : (b : Bool) → (b && true) ≡ b
and_true true = refl
and_true false = refl

pub and_rest : (a b : Bool) → a ≡ true → (a && b) ≡ false → b ≡ false
and_rest true b is off = off
and_rest false b is off = absurd (cc is)

pub and_not : (a b : Bool) → b ≡ true → (a && not b) ≡ false
and_not true b is = rw is refl
and_not false b is = refl

pub or_first : (a b : Bool) → (a || b) ≡ false → a ≡ false
or_first true b off = absurd (cc off)
or_first false b off = refl

pub or_last : (a b : Bool) → (a || b) ≡ false → b ≡ false
or_last true b off = absurd (cc off)
or_last false b off = off

pub or_assoc : (a b c : Bool) → ((a || b) || c) ≡ (a || (b || c))
or_assoc true b c = refl
or_assoc false b c = refl

pub false-or : (b : Bool) → b ≡ (b || false)
false-or true = refl
false-or false = refl

-- ---- a test and its opposite
pub never_both : (b : Bool) → b ≡ true → b ≡ false → ⊥
never_both b is off = cc (is, off)

pub never_not : (b : Bool) → b ≡ true → not b ≡ true → ⊥
never_not b is off = cc (rw is at off)

pub not_never : (b : Bool) → not b ≡ true → b ≡ true → ⊥
not_never b off is = cc (rw is at off)

-- one test is false, or else another is true
pub implied : (a b : Bool) → a ≡ true → (not a || b) ≡ true → b ≡ true
implied true b is so = so
implied false b is so = absurd (cc is)

pub not_implied : (a b : Bool) → (not a || b) ≡ false → a ≡ true
not_implied true b off = refl
not_implied false b off = absurd (cc off)

-- ---- numbers
pub eqb-self : (n : ℕ) → (n == n) ≡ true
eqb-self n = grind (arith, nat_tests)

pub eqb_turned : (a b : ℕ) → (a == b) ≡ true → b ≡ a
eqb_turned a b is = grind (arith, nat_tests, is)

pub apart_turned : (a b : ℕ) → (a == b) ≡ false → (b == a) ≡ false
apart_turned a b apart = grind (arith, nat_tests, apart)

pub equal_apart : (a b : ℕ) → a ≡ b → (a == b) ≡ false → ⊥
equal_apart a b is apart = grind (arith, nat_tests, is, apart)

pub lt_apart : (a b : ℕ) → a < b → (a == b) ≡ false
lt_apart a b less = grind (arith, nat_tests, less)

pub ltb_apart : (a b : ℕ) → nat_lt a b ≡ true → (a == b) ≡ false
ltb_apart a b less = grind (arith, nat_tests, less)

pub ltb_some : (a : ℕ) → nat_lt 0 a ≡ true → 1 ≤ a
ltb_some a is = grind (arith, nat_tests, is)

pub le_le : (a b c : ℕ) → a ≤ b → b ≤ c → a ≤ c
le_le a b c p q = omega (arith, p, q)

pub le_lt : (a b c : ℕ) → a ≤ b → b < c → a < c
le_lt a b c p q = omega (arith, p, q)

pub le_lt_le : (a b c : ℕ) → a ≤ b → b < c → a ≤ c
le_lt_le a b c p q = omega (arith, p, q)

pub lt_lt : (a b c : ℕ) → a < b → b < c → a < c
lt_lt a b c p q = omega (arith, p, q)

pub lt_le : (a b : ℕ) → a < b → a ≤ b
lt_le a b less = omega (arith, less)

pub eq_le : (a b : ℕ) → a ≡ b → a ≤ b
eq_le a b is = omega (arith, is)

pub eq_ge : (a b : ℕ) → b ≡ a → a ≤ b
eq_ge a b is = omega (arith, is)

pub zero_le : (n : ℕ) → 0 ≤ n
zero_le n = omega arith

pub zero_least : (a b : ℕ) → a ≡ 0 → a ≤ b
zero_least a b none = omega (arith, none)

pub le_zero : (a b : ℕ) → a ≤ b → b ≡ 0 → a ≡ 0
le_zero a b least none = omega (arith, least, none)

pub le_one_more : (a b : ℕ) → a ≤ b → a ≤ b + 1
le_one_more a b least = omega (arith, least)

pub le_suc : (a b : ℕ) → a ≤ b → a ≤ suc b
le_suc a b least = omega (arith, least)

pub le_next : (n : ℕ) → n ≤ n + 1
le_next n = omega arith

pub lt_not_equal : (a b : ℕ) → a < b → a ≡ b → ⊥
lt_not_equal a b less is = omega (arith, less, is)

pub none_below_zero : (n : ℕ) → n < 0 → ⊥
none_below_zero n less = omega (arith, less)

pub some_not_zero : (n : ℕ) → 1 ≤ n → n ≡ 0 → ⊥
some_not_zero n some none = omega (arith, some, none)

pub next_not_zero : (n : ℕ) → n + 1 ≡ 0 → ⊥
next_not_zero n is = omega (arith, is)

pub suc_not_zero : (n : ℕ) → suc n ≡ 0 → ⊥
suc_not_zero n is = omega (arith, is)

pub zero_plus : (n : ℕ) → 0 + n ≡ n
zero_plus n = omega arith

pub is_zero_plus : (n : ℕ) → n ≡ 0 + n
is_zero_plus n = omega arith

pub plus_zero : (n : ℕ) → n + 0 ≡ n
plus_zero n = omega arith

pub is_plus_zero : (n : ℕ) → n ≡ n + 0
is_plus_zero n = omega arith

-- ---- options
pub some_same : {X : Type 0} {x y : X} → Some x ≡ Some y → x ≡ y
some_same is = cc is

pub none_is : {X : Type 0} (o : Option X) → is_none o ≡ true → o ≡ None
none_is None is = refl
none_is (Some x) is = absurd (cc is)

pub some_none : {X : Type 0} (x : X) → Some x ≡ None → ⊥
some_none x is = absurd (cc is)

pub none_some : {X : Type 0} (o : Option X) → o ≡ None → is_some o ≡ true → ⊥
none_some None is some = cc some
none_some (Some x) is some = cc is
