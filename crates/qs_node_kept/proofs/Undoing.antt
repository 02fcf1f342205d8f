-- What changes do to what a list goes back to.
use Rattle.std.proofs.Common.{◌≡◌, ◌∙◌, refl, ap, zero, suc, ℕ, ◌+◌, ◌<◌, ◌≤◌, List, [], ◌∷◌, ◌++◌, length, take, slice_set, slice_index_or}
use native.Mathlib.Omega.{arith}
use Rattle.std.proofs.lemmas.List.{length-set, set-append_left, take-append-le}
use Rattle.qs_node_kept.specs.Ledger.{undone, restored, IsBelow}

pub length-undone : {T : Type 0} (es : List (ℕ × T)) (xs : List T) → length (undone es xs) ≡ length xs
length-undone [] xs = refl
length-undone (e ∷ es) xs = length-set (undone es xs) e.0 e.1 ∙ length-undone es xs

-- a longer list goes back as the shorter one, and keeps its end
undone-push : {T : Type 0} (es : List (ℕ × T)) (xs : List T) (x : T) → IsBelow (length xs) es → undone es (xs ++ x ∷ []) ≡ undone es xs ++ x ∷ []
undone-push [] xs x below = refl
undone-push (e ∷ es) xs x below =
    ap (λ ys. slice_set ys e.0 e.1) (undone-push es xs x below.1)
    ∙ set-append_left (undone es xs) (x ∷ []) e.0 e.1 (rw (length-undone es xs) below.0)

pub restored-push : {T : Type 0} (mark : ℕ) (es : List (ℕ × T)) (xs : List T) (x : T) → IsBelow (length xs) es → mark ≤ length xs
    → restored mark es (xs ++ x ∷ []) ≡ restored mark es xs
restored-push mark es xs x below within =
    ap (take mark) (undone-push es xs x below)
    ∙ take-append-le mark (undone es xs) (x ∷ []) (rw (length-undone es xs) within)

set-back : {T : Type 0} (xs : List T) (i : ℕ) (y d : T) → slice_set (slice_set xs i y) i (slice_index_or xs i d) ≡ xs
set-back [] i y d = refl
set-back (x ∷ xs) zero y d = refl
set-back (x ∷ xs) (suc i) y d = ap (λ ys. x ∷ ys) (set-back xs i y d)

pub undone-more : {T : Type 0} (es : List (ℕ × T)) (i : ℕ) (y : T) (xs : List T) → undone (es ++ (i, y) ∷ []) xs ≡ undone es (slice_set xs i y)
undone-more [] i y xs = refl
undone-more (e ∷ es) i y xs = ap (λ ys. slice_set ys e.0 e.1) (undone-more es i y xs)

-- a change and what undoes it
pub undone-set : {T : Type 0} (es : List (ℕ × T)) (xs : List T) (i : ℕ) (y d : T)
    → undone (es ++ (i, slice_index_or xs i d) ∷ []) (slice_set xs i y) ≡ undone es xs
undone-set es xs i y d = undone-more es i (slice_index_or xs i d) (slice_set xs i y) ∙ ap (undone es) (set-back xs i y d)

pub below-more : {T : Type 0} (n : ℕ) (es : List (ℕ × T)) (i : ℕ) (y : T) → IsBelow n es → i < n → IsBelow n (es ++ (i, y) ∷ [])
below-more n [] i y below within = (within, tt)
below-more n (e ∷ es) i y below within = (below.0, below-more n es i y below.1 within)

pub below-longer : {T : Type 0} (n : ℕ) (es : List (ℕ × T)) → IsBelow n es → IsBelow (n + 1) es
below-longer n [] below = tt
below-longer n (e ∷ es) below = (omega (arith, below.0), below-longer n es below.1)

pub below-last : {T : Type 0} (n : ℕ) (es : List (ℕ × T)) (i : ℕ) (y : T) → IsBelow n (es ++ (i, y) ∷ []) → (i < n) × IsBelow n es
below-last n [] i y below = (below.0, tt)
below-last n (e ∷ es) i y below = ((below-last n es i y below.1).0, (below.0, (below-last n es i y below.1).1))
