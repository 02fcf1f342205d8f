-- Members of lists that are joined, and of what a function gives of a list.
use Rattle.qs_world_merge.proofs.Words.{◌≡◌, List, [], ◌∷◌, ◌++◌, refl, ap, ◌∙◌, inl, inr, map, Among}

pub among_front : {A : Type 0} (xs ys : List A) (y : A) → Among xs y → Among (xs ++ ys) y
among_front [] ys y h = absurd h
among_front (x ∷ xs) ys y (inl is) = inl is
among_front (x ∷ xs) ys y (inr h) = inr (among_front xs ys y h)

pub among_back : {A : Type 0} (xs ys : List A) (y : A) → Among ys y → Among (xs ++ ys) y
among_back [] ys y h = h
among_back (x ∷ xs) ys y h = inr (among_back xs ys y h)

pub among_map : {A B : Type 0} (f : A → B) (xs : List A) (y : B) → Among (map f xs) y → (x : A) × Among xs x × (f x ≡ y)
among_map f [] y h = absurd h
among_map f (x ∷ xs) y (inl is) = (x, inl refl, is)
among_map f (x ∷ xs) y (inr h) = let r = among_map f xs y h in (r.0, inr r.1, r.2)

pub map_among : {A B : Type 0} (f : A → B) (xs : List A) (x : A) (y : B) → Among xs x → f x ≡ y → Among (map f xs) y
map_among f [] x y h is = absurd h
map_among f (z ∷ xs) x y (inl same) is = inl (ap f same ∙ is)
map_among f (z ∷ xs) x y (inr h) is = inr (map_among f xs x y h is)
