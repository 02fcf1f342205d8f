-- What stands beside one another, place by place, and lists that end in one item.
use Rattle.std.proofs.Common.{◌≡◌, ◌∙◌, ◌+◌, ap, refl, subst, sym, ℕ, zero, suc, List, [], ◌∷◌, ◌++◌, length, arith}
use Rattle.std.proofs.lemmas.List.{append_cancel_right, length-append}
use Rattle.std.specs.Prelude.{Some, slice_get}
use Rattle.qs_world_serial.specs.Serial.{EachBeside}

the_same : {A : Type 0} {x y : A} → Some x ≡ Some y → x ≡ y
the_same is = cc is

module _ {A B : Type 0} where
  pub beside_none : (P : ℕ → A → B → Type 0) → EachBeside P [] []
  beside_none P = record { count = refl; each = λ n a b here there. absurd (cc here) }

  pub beside_more : (P : ℕ → A → B → Type 0) (a : A) (b : B) (xs : List A) (ys : List B) → P 0 a b → EachBeside (λ n. P (suc n)) xs ys → EachBeside P (a ∷ xs) (b ∷ ys)
  beside_more P a b xs ys first rest = record { count = let c = rest.count in omega arith; each = by }
    where
      by : (n : ℕ) (x : A) (y : B) → slice_get (a ∷ xs) n ≡ Some x → slice_get (b ∷ ys) n ≡ Some y → P n x y
      by zero x y here there = subst (P zero x) (the_same there) (subst (λ (z : A). P zero z b) (the_same here) first)
      by (suc n) x y here there = rest.each n x y here there

  pub beside_is : (P Q : ℕ → A → B → Type 0) → ((n : ℕ) (a : A) (b : B) → P n a b → Q n a b) → (xs : List A) (ys : List B) → EachBeside P xs ys → EachBeside Q xs ys
  beside_is P Q weaker xs ys all = record { count = all.count; each = λ n a b here there. weaker n a b (all.each n a b here there) }

pub beside_same : {A : Type 0} (P : ℕ → A → A → Type 0) → ((n : ℕ) (a : A) → P n a a) → (xs : List A) → EachBeside P xs xs
beside_same P same xs = record { count = refl; each = λ n a b here there. subst (P n a) (the_same (sym here ∙ there)) (same n a) }

-- ---- one item behind others

module _ {A : Type 0} where
  pub last_long : (xs : List A) (a : A) → length (xs ++ a ∷ []) ≡ length xs + 1
  last_long xs a = length-append xs (a ∷ [])

  pub last_one : (xs ys : List A) (a b : A) → xs ++ a ∷ [] ≡ ys ++ b ∷ [] → a ≡ b
  last_one [] [] a b is = cc is
  last_one [] (y ∷ ys) a b is = absurd (let long = ap (λ (l : List A). length l) is in let there = last_long ys b in omega arith)
  last_one (x ∷ xs) [] a b is = absurd (let long = ap (λ (l : List A). length l) is in let here = last_long xs a in omega arith)
  last_one (x ∷ xs) (y ∷ ys) a b is = last_one xs ys a b (cc is)

  pub last_front : (xs ys : List A) (a b : A) → xs ++ a ∷ [] ≡ ys ++ b ∷ [] → xs ≡ ys
  last_front xs ys a b is = append_cancel_right xs ys (b ∷ []) (ap (λ (z : A). xs ++ z ∷ []) (sym (last_one xs ys a b is)) ∙ is)
