-- Parts of lists that stand within another, and what is pending from an incarnation on.
use Rattle.qs_world_lawful.proofs.Words.{◌≡◌, ℕ, ◌<◌, ◌+◌, ◌++◌, zero, suc, List, [], ◌∷◌, inl, inr, refl, sym, ap, subst, ◌∙◌, arith, append_assoc, append-nil, Op, Parcel, pending_from, IsWithin, is_plus_zero, zero_plus}
use Rattle.qs_world_lawful.proofs.Within.{within_left}

-- those in front
pub within_front : (xs ys rs : List Op) → IsWithin (xs ++ ys) rs → IsWithin xs rs
within_front [] ys rs h = tt
within_front (x ∷ xs) ys [] h = absurd h
within_front (x ∷ xs) ys (r ∷ rs) (inl both) = inl (both.0, within_front xs ys rs both.1)
within_front (x ∷ xs) ys (r ∷ rs) (inr h) = inr (within_front (x ∷ xs) ys rs h)

-- those behind
pub within_behind : (xs ys rs : List Op) → IsWithin (xs ++ ys) rs → IsWithin ys rs
within_behind [] ys rs h = h
within_behind (x ∷ xs) ys rs h = within_behind xs ys rs (within_left (x ∷ (xs ++ ys)) rs h)

-- all but some in the middle
pub within_around : (ws xs ys rs : List Op) → IsWithin (ws ++ (xs ++ ys)) rs → IsWithin (ws ++ ys) rs
within_around [] xs ys rs h = within_behind xs ys rs h
within_around (w ∷ ws) xs ys [] h = absurd h
within_around (w ∷ ws) xs ys (r ∷ rs) (inl both) = inl (both.0, within_around ws xs ys rs both.1)
within_around (w ∷ ws) xs ys (r ∷ rs) (inr h) = inr (within_around (w ∷ ws) xs ys rs h)

-- all but some at the end
pub within_first : (ws xs ys rs : List Op) → IsWithin (ws ++ (xs ++ ys)) rs → IsWithin (ws ++ xs) rs
within_first [] xs ys rs h = within_front xs ys rs h
within_first (w ∷ ws) xs ys [] h = absurd h
within_first (w ∷ ws) xs ys (r ∷ rs) (inl both) = inl (both.0, within_first ws xs ys rs both.1)
within_first (w ∷ ws) xs ys (r ∷ rs) (inr h) = inr (within_first (w ∷ ws) xs ys rs h)

-- ---- what is pending

suc_plus : (x y : ℕ) → suc x + y ≡ suc (x + y)
suc_plus x y = grind (arith)

-- where each is alike
pub pending_same : (f g : ℕ → List Parcel) → ((i : ℕ) → f i ≡ g i) → (i more : ℕ) → pending_from f i more ≡ pending_from g i more
pending_same f g same i zero = refl
pending_same f g same i (suc more) = rw (same i, pending_same f g same (suc i) more) refl

-- nothing is pending of incarnations that are to come
pub pending_none : (at : ℕ → List Parcel) (last : ℕ) → ((i : ℕ) → last < i → at i ≡ []) → (i more : ℕ) → last < i → pending_from at i more ≡ []
pending_none at last none i zero later = refl
pending_none at last none i (suc more) later = rw (none i later) (pending_none at last none (suc i) more (on i later))
  where
    on : (i : ℕ) → last < i → last < suc i
    on i e = grind (arith, e)

pub pending_past : (at : ℕ → List Parcel) (last : ℕ) → ((i : ℕ) → last < i → at i ≡ []) → (i x y : ℕ) → last < i + x → pending_from at i (x + y) ≡ pending_from at i x
pending_past at last none i zero y later = ap (pending_from at i) (zero_plus y) ∙ pending_none at last none i y (plain i later)
  where
    plain : (i : ℕ) → last < i + 0 → last < i
    plain i e = grind (arith, e)
pending_past at last none i (suc x) y later = ap (pending_from at i) (suc_plus x y) ∙ ap (λ (t : List Parcel). at i ++ t) (pending_past at last none (suc i) x y (on i x later))
  where
    on : (i x : ℕ) → last < i + suc x → last < suc i + x
    on i x e = grind (arith, e)

pub pending_parts : (at : ℕ → List Parcel) (i x y : ℕ) → pending_from at i (x + y) ≡ pending_from at i x ++ pending_from at (i + x) y
pending_parts at i zero y = ap (pending_from at i) (zero_plus y) ∙ ap (λ (k : ℕ). pending_from at k y) (is_plus_zero i)
pending_parts at i (suc x) y =
    ap (pending_from at i) (suc_plus x y) ∙ (ap (λ (t : List Parcel). at i ++ t) (pending_parts at (suc i) x y)
    ∙ (sym (append_assoc (at i) (pending_from at (suc i) x) (pending_from at (suc i + x) y))
    ∙ ap (λ (k : ℕ). (at i ++ pending_from at (suc i) x) ++ pending_from at k y) (over i x)))
  where
    over : (i x : ℕ) → suc i + x ≡ i + suc x
    over i x = grind (arith)

-- what stands behind the last goes to the end
pub pending_last : (f g : ℕ → List Parcel) (w : List Parcel) (last : ℕ) → g last ≡ f last ++ w → ((i : ℕ) → i < last → g i ≡ f i) → (i x : ℕ) → i + x ≡ last → pending_from g i (suc x) ≡ pending_from f i (suc x) ++ w
pending_last f g w last own less i zero is = append-nil (g i) ∙ (at_last ∙ ap (λ (t : List Parcel). t ++ w) (sym (append-nil (f i))))
  where
    here : (i : ℕ) → i + 0 ≡ last → i ≡ last
    here i e = grind (arith, e)

    at_last : g i ≡ f i ++ w
    at_last = subst (λ (k : ℕ). g k ≡ f k ++ w) (sym (here i is)) own
pending_last f g w last own less i (suc x) is = rw (less i (below i x is), pending_last f g w last own less (suc i) x (on i x is)) (sym (append_assoc (f i) _ w))
  where
    below : (i x : ℕ) → i + suc x ≡ last → i < last
    below i x e = grind (arith, e)

    on : (i x : ℕ) → i + suc x ≡ last → suc i + x ≡ last
    on i x e = grind (arith, e)
