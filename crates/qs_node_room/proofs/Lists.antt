-- Tests of all or some items of a list, after items were added, left out or changed.
use Rattle.std.proofs.Common.{◌≡◌, Bool, true, false, List, [], ◌∷◌, ◌++◌, map, refl, ap}
use Rattle.std.specs.Prelude.{◌&&◌, ◌||◌, cond}
use Rattle.std.specs.List.{filter, list_all, list_any}

pub both_of : (a b : Bool) → (a && b) ≡ true → (a ≡ true) × (b ≡ true)
both_of true b is = (refl, is)
both_of false b is = absurd (cc is)

pub neither : (a b : Bool) → (a || b) ≡ false → (a ≡ false) × (b ≡ false)
neither true b is = absurd (cc is)
neither false b is = (refl, is)

module _ {X : Type 0} where
  pub any_more : (p : X → Bool) (xs ys : List X) → list_any p (xs ++ ys) ≡ (list_any p xs || list_any p ys)
  any_more p [] ys = refl
  any_more p (x ∷ xs) ys = by (p x) (any_more p xs ys)
    where
      by : (b : Bool) → list_any p (xs ++ ys) ≡ (list_any p xs || list_any p ys) → (b || list_any p (xs ++ ys)) ≡ ((b || list_any p xs) || list_any p ys)
      by true more = refl
      by false more = more

  -- what the filter leaves of a test that what goes out does not meet
  pub any_left : (p q : X → Bool) → ((x : X) → p x ≡ true → q x ≡ true) → (xs : List X) → list_any p (filter q xs) ≡ list_any p xs
  any_left p q passes [] = refl
  any_left p q passes (x ∷ xs) = by (p x) (q x) refl refl (any_left p q passes xs)
    where
      by : (b c : Bool) → p x ≡ b → q x ≡ c → list_any p (filter q xs) ≡ list_any p xs → list_any p (cond (q x) (x ∷ filter q xs) (filter q xs)) ≡ (p x || list_any p xs)
      by true true is has more = rw (has, is) refl
      by true false is has more = absurd (let yes_it : q x ≡ true = passes x is in cc (yes_it, has))
      by false true is has more = rw (has, is) more
      by false false is has more = rw (has, is) more

  pub any_out : (p q : X → Bool) → ((x : X) → p x ≡ true → q x ≡ false) → (xs : List X) → list_any p (filter q xs) ≡ false
  any_out p q goes [] = refl
  any_out p q goes (x ∷ xs) = by (p x) (q x) refl refl (any_out p q goes xs)
    where
      by : (b c : Bool) → p x ≡ b → q x ≡ c → list_any p (filter q xs) ≡ false → list_any p (cond (q x) (x ∷ filter q xs) (filter q xs)) ≡ false
      by true true is has more = absurd (let gone : q x ≡ false = goes x is in cc (gone, has))
      by true false is has more = rw has more
      by false true is has more = rw (has, is) more
      by false false is has more = rw has more

  pub any_less : (p q : X → Bool) (xs : List X) → list_any p xs ≡ false → list_any p (filter q xs) ≡ false
  any_less p q [] none = refl
  any_less p q (x ∷ xs) none = let n = neither (p x) (list_any p xs) none in by (q x) n.0 (any_less p q xs n.1)
    where
      by : (c : Bool) → p x ≡ false → list_any p (filter q xs) ≡ false → list_any p (cond c (x ∷ filter q xs) (filter q xs)) ≡ false
      by true is more = rw is more
      by false is more = more

  pub all_less : (p q : X → Bool) (xs : List X) → list_all p xs ≡ true → list_all p (filter q xs) ≡ true
  all_less p q [] all = refl
  all_less p q (x ∷ xs) all = let a = both_of (p x) (list_all p xs) all in by (q x) a.0 (all_less p q xs a.1)
    where
      by : (c : Bool) → p x ≡ true → list_all p (filter q xs) ≡ true → list_all p (cond c (x ∷ filter q xs) (filter q xs)) ≡ true
      by true is more = rw is more
      by false is more = more

  pub all_more : (p : X → Bool) (xs : List X) (y : X) → list_all p xs ≡ true → p y ≡ true → list_all p (xs ++ y ∷ []) ≡ true
  all_more p [] y all is = rw is refl
  all_more p (x ∷ xs) y all is = let a = both_of (p x) (list_all p xs) all in let one : p x ≡ true = a.0 in rw one (all_more p xs y a.1 is)

  pub all_kept : (p : X → Bool) (xs : List X) → list_all p xs ≡ true → filter p xs ≡ xs
  all_kept p [] all = refl
  all_kept p (x ∷ xs) all = let a = both_of (p x) (list_all p xs) all in let one : p x ≡ true = a.0 in rw one (ap (λ (l : List X). x ∷ l) (all_kept p xs a.1))

  pub any_mapped : (p : X → Bool) (f : X → X) → ((x : X) → p (f x) ≡ p x) → (xs : List X) → list_any p (map f xs) ≡ list_any p xs
  any_mapped p f same [] = refl
  any_mapped p f same (x ∷ xs) = rw (same x, any_mapped p f same xs) refl
