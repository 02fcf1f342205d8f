-- Labels that stand apart stand apart where some are left out; and each label of one client is other than those of another.
use Rattle.qs_world_runs.proofs.Words.{◌≡◌, ℕ, ◌<◌, ◌==◌, Bool, true, false, ◌||◌, not, List, [], ◌∷◌, ◌++◌, zero, suc, refl, sym, ap, subst, ◌∙◌, arith, append_assoc, append-nil, eqb-true, not-true, and_from, nat_tests, list_any-append, same_label, Every, none_below_zero}
use Rattle.qs_world.specs.Openings.{all_below, are_apart, has_label}
use Rattle.qs_world_refine.proofs.SoundParts.{and_both}

abbrev Labels : Type 0
Labels = List (List ℕ)

-- ---- some are left out

not_either : (a b : Bool) → not (a || b) ≡ true → (not a ≡ true) × (not b ≡ true)
not_either true b is = absurd (cc is)
not_either false true is = absurd (cc is)
not_either false false is = (refl, refl)

apart_behind : (ys zs : Labels) → are_apart (ys ++ zs) ≡ true → are_apart zs ≡ true
apart_behind [] zs is = is
apart_behind (y ∷ ys) zs is = apart_behind ys zs (and_both (not (has_label (ys ++ zs) y)) (are_apart (ys ++ zs)) is).1

apart_front : (xs ys : Labels) → are_apart (xs ++ ys) ≡ true → are_apart xs ≡ true
apart_front [] ys is = refl
apart_front (x ∷ xs) ys is =
    and_from (not (has_label xs x)) (are_apart xs)
    (not_either (has_label xs x) (has_label ys x) (ap not (sym (list_any-append (same_label x) xs ys)) ∙ (and_both (not (has_label (xs ++ ys) x)) (are_apart (xs ++ ys)) is).0)).0
    (apart_front xs ys (and_both (not (has_label (xs ++ ys) x)) (are_apart (xs ++ ys)) is).1)

apart_around : (xs ys zs : Labels) → are_apart (xs ++ (ys ++ zs)) ≡ true → are_apart (xs ++ zs) ≡ true
apart_around [] ys zs is = apart_behind ys zs is
apart_around (x ∷ xs) ys zs is =
    and_from (not (has_label (xs ++ zs) x)) (are_apart (xs ++ zs)) (ap not (list_any-append (same_label x) xs zs) ∙ none) (apart_around xs ys zs (and_both (not (has_label (xs ++ (ys ++ zs)) x)) (are_apart (xs ++ (ys ++ zs))) is).1)
  where
    first : (not (has_label xs x) ≡ true) × (not (has_label (ys ++ zs) x) ≡ true)
    first = not_either (has_label xs x) (has_label (ys ++ zs) x) (ap not (sym (list_any-append (same_label x) xs (ys ++ zs))) ∙ (and_both (not (has_label (xs ++ (ys ++ zs)) x)) (are_apart (xs ++ (ys ++ zs))) is).0)

    second : not (has_label zs x) ≡ true
    second = (not_either (has_label ys x) (has_label zs x) (ap not (sym (list_any-append (same_label x) ys zs)) ∙ first.1)).1

    neither : (a b : Bool) → not a ≡ true → not b ≡ true → not (a || b) ≡ true
    neither true b p q = absurd (cc p)
    neither false b p q = q

    none : not (has_label xs x || has_label zs x) ≡ true
    none = neither (has_label xs x) (has_label zs x) first.0 second

-- of each client those in front
pub record IsBehind (whole left : Labels) : Type 0 where
  pub front : Labels
  pub is : whole ≡ front ++ left

all_left : (n : ℕ) (f g : ℕ → Labels) → ((k : ℕ) → IsBehind (f k) (g k)) → (tail : Labels) → are_apart (all_below n f ++ tail) ≡ true → are_apart (all_below n g ++ tail) ≡ true
all_left zero f g each tail is = is
all_left (suc n) f g each tail is =
    ap are_apart (append_assoc (all_below n g) (g n) tail)
    ∙ apart_around (all_below n g) (each n).front (g n ++ tail) (ap (λ (xs : Labels). are_apart (all_below n g ++ xs)) (sym (append_assoc (each n).front (g n) tail))
    ∙ (ap (λ (xs : Labels). are_apart (all_below n g ++ (xs ++ tail))) (sym (each n).is)
    ∙ all_left n f g each (f n ++ tail) (ap are_apart (sym (append_assoc (all_below n f) (f n) tail)) ∙ is)))

pub apart_left : (n : ℕ) (f g : ℕ → Labels) → ((k : ℕ) → IsBehind (f k) (g k)) → are_apart (all_below n f) ≡ true → are_apart (all_below n g) ≡ true
apart_left n f g each is = ap are_apart (sym (append-nil (all_below n g))) ∙ all_left n f g each [] (ap are_apart (append-nil (all_below n f)) ∙ is)

-- ---- two clients

abbrev pub AreOther : Labels → List ℕ → Type 0
AreOther ys x = Every (λ (y : List ℕ). same_label x y ≡ false) ys

other_of : (ys : Labels) (x : List ℕ) → not (has_label ys x) ≡ true → AreOther ys x
other_of [] x is = tt
other_of (y ∷ ys) x is = let both = not_either (same_label x y) (has_label ys x) is in (not-true (same_label x y) both.0, other_of ys x both.1)

pub pairs : (xs ys : Labels) → are_apart (xs ++ ys) ≡ true → Every (AreOther ys) xs
pairs [] ys is = tt
pairs (x ∷ xs) ys is = let both = and_both (not (has_label (xs ++ ys) x)) (are_apart (xs ++ ys)) is in
    (other_of ys x (not_either (has_label xs x) (has_label ys x) (ap not (sym (list_any-append (same_label x) xs ys)) ∙ both.0)).1, pairs xs ys both.1)

pub front_of : {A : Type 0} (P : A → Type 0) (xs ys : List A) → Every P (xs ++ ys) → Every P xs
front_of P [] ys all = tt
front_of P (x ∷ xs) ys all = (all.0, front_of P xs ys all.1)

pub behind_of : {A : Type 0} (P : A → Type 0) (xs ys : List A) → Every P (xs ++ ys) → Every P ys
behind_of P [] ys all = all
behind_of P (x ∷ xs) ys all = behind_of P xs ys all.1

below_of : (P : List ℕ → Type 0) (n : ℕ) (f : ℕ → Labels) (i : ℕ) → i < n → Every P (all_below n f) → Every P (f i)
below_of P zero f i low all = absurd (none_below_zero i low)
below_of P (suc n) f i low all = by (i == n) refl (λ less. below_of P n f i less (front_of P (all_below n f) (f n) all))
  where
    lower : (i == n) ≡ false → i < n
    lower other = grind (arith, nat_tests, other, low)

    by : (b : Bool) → (i == n) ≡ b → (i < n → Every P (f i)) → Every P (f i)
    by true is rest = subst (λ (k : ℕ). Every P (f k)) (sym (eqb-true i n is)) (behind_of P (all_below n f) (f n) all)
    by false is rest = rest (lower is)

-- those of an earlier client, and those of a later one
pub earlier_other : (n : ℕ) (f : ℕ → Labels) → are_apart (all_below n f) ≡ true → (i j : ℕ) → i < j → j < n → Every (AreOther (f j)) (f i)
earlier_other zero f is i j less low = absurd (none_below_zero j low)
earlier_other (suc n) f is i j less low = by (j == n) refl (λ below. earlier_other n f (apart_front (all_below n f) (f n) is) i j less below)
  where
    lower : (j == n) ≡ false → j < n
    lower other = grind (arith, nat_tests, other, low)

    by : (b : Bool) → (j == n) ≡ b → (j < n → Every (AreOther (f j)) (f i)) → Every (AreOther (f j)) (f i)
    by true same rest = subst (λ (k : ℕ). Every (AreOther (f k)) (f i)) (sym (eqb-true j n same)) (below_of (AreOther (f n)) n f i (subst (λ (k : ℕ). i < k) (eqb-true j n same) less) (pairs (all_below n f) (f n) is))
    by false other rest = rest (lower other)

-- within one client
pub own_other : (n : ℕ) (f : ℕ → Labels) → are_apart (all_below n f) ≡ true → (i : ℕ) → i < n → are_apart (f i) ≡ true
own_other zero f is i low = absurd (none_below_zero i low)
own_other (suc n) f is i low = by (i == n) refl (own_other n f (apart_front (all_below n f) (f n) is) i)
  where
    lower : (i == n) ≡ false → i < n
    lower other = grind (arith, nat_tests, other, low)

    by : (b : Bool) → (i == n) ≡ b → (i < n → are_apart (f i) ≡ true) → are_apart (f i) ≡ true
    by true same rest = subst (λ (k : ℕ). are_apart (f k) ≡ true) (sym (eqb-true i n same)) (apart_behind (all_below n f) (f n) is)
    by false other rest = rest (lower other)
