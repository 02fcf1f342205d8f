-- Sites by their places: what is found there after a change, and what holds of the posts of two lists of sites.
use Rattle.std.proofs.Common.{◌≡◌, ◌⊎◌, ap, inl, inr, refl, subst, sym, ℕ, zero, suc, ◌<◌, List, [], ◌∷◌, length, Option, Some, arith, slice_get, slice_set}
use Rattle.std.specs.Prelude.{unwrap_or}
use Rattle.qs_cell.specs.Hearing.{Post}
use Rattle.qs_cell.specs.Starts.{post_of}
use Rattle.qs_world_nodes.specs.Nodes.{post_at, post_by}
use Rattle.qs_world_rounds.specs.Rounds.{Cast}

pub same_some : {A : Type 0} (x y : A) → Some x ≡ Some y → x ≡ y
same_some x y e = ap (λ (o : Option _). unwrap_or o x) e

-- ---- places of a list

pub low_of : {A : Type 0} (xs : List A) (n : ℕ) (x : A) → slice_get xs n ≡ Some x → n < length xs
low_of [] n x e = absurd (cc e)
low_of (y ∷ xs) zero x e = omega arith
low_of (y ∷ xs) (suc n) x e = let low : n < length xs = low_of xs n x e in omega (arith, low)

pub found : {A : Type 0} (xs : List A) (n : ℕ) → n < length xs → (x : A) × (slice_get xs n ≡ Some x)
found [] n low = absurd (omega (arith, low))
found (y ∷ xs) zero low = (y, refl)
found (y ∷ xs) (suc n) low = found xs n (omega (arith, low))

pub set_length : {A : Type 0} (xs : List A) (n : ℕ) (x : A) → length (slice_set xs n x) ≡ length xs
set_length [] n x = refl
set_length (y ∷ xs) zero x = refl
set_length (y ∷ xs) (suc n) x = ap suc (set_length xs n x)

pub set_here : {A : Type 0} (xs : List A) (n : ℕ) (x y : A) → slice_get xs n ≡ Some x → slice_get (slice_set xs n y) n ≡ Some y
set_here [] n x y e = absurd (cc e)
set_here (z ∷ xs) zero x y e = refl
set_here (z ∷ xs) (suc n) x y e = set_here xs n x y e

-- each place is that one, or it has what it had
pub set_other : {A : Type 0} (xs : List A) (n j : ℕ) (y : A) → (j ≡ n) ⊎ (slice_get (slice_set xs n y) j ≡ slice_get xs j)
set_other [] n j y = inr refl
set_other (z ∷ xs) zero zero y = inl refl
set_other (z ∷ xs) zero (suc j) y = inr refl
set_other (z ∷ xs) (suc n) zero y = inr refl
set_other (z ∷ xs) (suc n) (suc j) y = by (set_other xs n j y)
  where
    by : (j ≡ n) ⊎ (slice_get (slice_set xs n y) j ≡ slice_get xs j) → (suc j ≡ suc n) ⊎ (slice_get (slice_set xs n y) j ≡ slice_get xs j)
    by (inl e) = inl (ap suc e)
    by (inr e) = inr e

-- ---- posts

pub post_there : {D : Type 0} (other : Post D) (sites : List (Cast D)) (n : ℕ) (a : Cast D) → slice_get sites n ≡ Some a → post_at other sites n ≡ post_of a.node
post_there other sites n a is = ap (post_by other) is

pub posts_at : {D : Type 0} (P : Post D → Post D → Type 0) (other : Post D) (old new : List (Cast D)) (n : ℕ) (a b : Cast D) → slice_get old n ≡ Some a → slice_get new n ≡ Some b
    → P (post_of a.node) (post_of b.node) → P (post_at other old n) (post_at other new n)
posts_at P other old new n a b old_is new_is holds =
    subst (λ (p : Post _). P p (post_at other new n)) (sym (post_there other old n a old_is)) (subst (P (post_of a.node)) (sym (post_there other new n b new_is)) holds)

-- what holds of the posts of each two sites at one place
pub posts_of_each : {D : Type 0} (P : ℕ → Post D → Post D → Type 0) (other : Post D) (old new : List (Cast D)) → length new ≡ length old
    → ((n : ℕ) (a b : Cast D) → slice_get old n ≡ Some a → slice_get new n ≡ Some b → P n (post_of a.node) (post_of b.node))
    → (n : ℕ) → n < length old → P n (post_at other old n) (post_at other new n)
posts_of_each {D} P other old new count each n low = by (found old n low) (found new n (omega (arith, count, low)))
  where
    by : (a : Cast D) × (slice_get old n ≡ Some a) → (b : Cast D) × (slice_get new n ≡ Some b) → P n (post_at other old n) (post_at other new n)
    by (a, old_is) (b, new_is) = posts_at (P n) other old new n a b old_is new_is (each n a b old_is new_is)
