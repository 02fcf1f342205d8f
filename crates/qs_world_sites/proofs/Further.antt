-- One link more, and one site more, until all are carried.
use Rattle.std.proofs.Common.{◌≡◌, ◌≢◌, ◌≤◌, ◌<◌, ◌+◌, ◌==◌, ◌&&◌, ◌||◌, refl, sym, ℕ, Bool, true, false, List, length, arith}
use Rattle.std.proofs.lemmas.Bool.Decides.{nat_tests}
use Rattle.std.specs.Prelude.{nat_lt}
use Rattle.qs_world_rounds.specs.Rounds.{Cast}
use Rattle.qs_world_sites.proofs.Between.{where_is, where_none, where_on}
use Rattle.qs_world_sites.specs.Carrying.{CarriesWhere, Comes}

none_below : (n : ℕ) → nat_lt n 0 ≡ false
none_below n = grind (arith, nat_tests)

one_further : (n k : ℕ) → nat_lt n (k + 1) ≡ (nat_lt n k || (n == k))
one_further n k = grind (arith, nat_tests)

not_below : (n k : ℕ) → nat_lt n k ≡ true → (n == k) ≡ false
not_below n k less = grind (arith, nat_tests, less)

is_below : (n k long : ℕ) → n < long → long ≤ k → nat_lt n k ≡ true
is_below n k long less most = grind (arith, nat_tests, less, most)

both_further : (p q b : Bool) → ((p || q) && b) ≡ ((p && b) || (q && b))
both_further true true true = refl
both_further true true false = refl
both_further true false true = refl
both_further true false false = refl
both_further false true true = refl
both_further false true false = refl
both_further false false true = refl
both_further false false false = refl

apart_further : (p q b : Bool) → (p ≡ true → q ≡ false) → (p && b) ≡ true → (q && b) ≡ false
apart_further true q true apart both = rw (apart refl) refl
apart_further true q false apart both = absurd (cc both)
apart_further false q b apart both = absurd (cc both)

never_both : (n m k : ℕ) → n ≢ m → ((n == k) && (m == k)) ≡ false
never_both n m k apart = by (n == k) refl (m == k) refl
  where
    by : (p : Bool) → (n == k) ≡ p → (q : Bool) → (m == k) ≡ q → (p && q) ≡ false
    by true is true other = absurd (apart (grind (arith, nat_tests, is, other)))
    by true is false other = refl
    by false is q other = refl

module _ {D : Type 0} (Came : Comes) where
  -- ---- to one site

  pub from_none : (to : ℕ) (xs : List (Cast D)) → CarriesWhere Came (λ n m. nat_lt n 0 && (m == to)) xs xs
  from_none to xs = where_is Came (λ n m. false) (λ n m. nat_lt n 0 && (m == to)) xs xs (λ n m less other apart. rw (none_below n) refl) (where_none Came xs)

  pub to_itself : (at : ℕ) (xs : List (Cast D)) → CarriesWhere Came (λ n m. (n == at) && (m == at)) xs xs
  to_itself at xs = where_is Came (λ n m. false) (λ n m. (n == at) && (m == at)) xs xs (λ n m less other apart. never_both n m at apart) (where_none Came xs)

  pub from_more : (to k : ℕ) (xs ys zs : List (Cast D)) → CarriesWhere Came (λ n m. nat_lt n k && (m == to)) xs ys → CarriesWhere Came (λ n m. (n == k) && (m == to)) ys zs
      → CarriesWhere Came (λ n m. nat_lt n (k + 1) && (m == to)) xs zs
  from_more to k xs ys zs first second =
      where_is Came (λ n m. (nat_lt n k && (m == to)) || ((n == k) && (m == to))) (λ n m. nat_lt n (k + 1) && (m == to)) xs zs
      (λ n m less other apart. rw (one_further n k) (both_further (nat_lt n k) (n == k) (m == to)))
      (where_on Came (λ n m. nat_lt n k && (m == to)) (λ n m. (n == k) && (m == to)) (λ n m done. apart_further (nat_lt n k) (n == k) (m == to) (not_below n k) done) xs ys zs first second)

  pub from_all : (to k : ℕ) (xs ys : List (Cast D)) → length xs ≤ k → CarriesWhere Came (λ n m. nat_lt n k && (m == to)) xs ys → CarriesWhere Came (λ n m. m == to) xs ys
  from_all to k xs ys most all = where_is Came (λ n m. nat_lt n k && (m == to)) (λ n m. m == to) xs ys (λ n m less other apart. rw (is_below n k (length xs) less most) refl) all

  -- ---- to each

  pub to_none : (xs : List (Cast D)) → CarriesWhere Came (λ n m. nat_lt m 0) xs xs
  to_none xs = where_is Came (λ n m. false) (λ n m. nat_lt m 0) xs xs (λ n m less other apart. none_below m) (where_none Came xs)

  pub to_more : (k : ℕ) (xs ys zs : List (Cast D)) → CarriesWhere Came (λ n m. nat_lt m k) xs ys → CarriesWhere Came (λ n m. m == k) ys zs → CarriesWhere Came (λ n m. nat_lt m (k + 1)) xs zs
  to_more k xs ys zs first second =
      where_is Came (λ n m. nat_lt m k || (m == k)) (λ n m. nat_lt m (k + 1)) xs zs (λ n m less other apart. one_further m k)
      (where_on Came (λ n m. nat_lt m k) (λ n m. m == k) (λ n m done. not_below m k done) xs ys zs first second)

  pub to_all : (k : ℕ) (xs ys : List (Cast D)) → length xs ≤ k → CarriesWhere Came (λ n m. nat_lt m k) xs ys → CarriesWhere Came (λ n m. true) xs ys
  to_all k xs ys most all = where_is Came (λ n m. nat_lt m k) (λ n m. true) xs ys (λ n m less other apart. sym (is_below m k (length xs) other most)) all
