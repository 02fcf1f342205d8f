-- Lists that are cut at a place.
use Rattle.std.proofs.Common.{◌≡◌, ℕ, List, ◌∷◌, ◌++◌, length, drop, ap, ◌∙◌, sym, append_assoc}
use Rattle.std.proofs.Math.Seq.{drop-append_seam}

-- a list in two parts, before another one
pub regroup : (front back whole x : List ℕ) → whole ≡ front ++ back → whole ++ x ≡ front ++ (back ++ x)
regroup front back whole x is = ap (λ (xs : List ℕ). xs ++ x) is ∙ append_assoc front back x

-- what stands behind one front is one
pub same_behind : (a b x y : List ℕ) → a ≡ b → a ++ x ≡ b ++ y → x ≡ y
same_behind a b x y same e = sym (drop-append_seam a x) ∙ ap (λ (xs : List ℕ). drop (length a) xs) e ∙ ap (λ (xs : List ℕ). drop (length xs) (b ++ y)) same ∙ drop-append_seam b y

pub same_tail : (m n : ℕ) (x y : List ℕ) → m ∷ x ≡ n ∷ y → x ≡ y
same_tail m n x y e = cc

pub same_cons : {A : Type 0} (r s : A) (rs ss : List A) → r ≡ s → rs ≡ ss → r ∷ rs ≡ s ∷ ss
same_cons r s rs ss p q = cc

pub same_append : {A : Type 0} (r s t u : List A) → r ≡ t → s ≡ u → r ++ s ≡ t ++ u
same_append r s t u p q = cc
