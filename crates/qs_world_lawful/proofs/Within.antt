-- What waits stands in the same order, once where it is not crossed: so it goes on as requests come, are issued and are served.
use Rattle.qs_world_lawful.proofs.Words.{◌≡◌, ◌≢◌, inl, inr, ℕ, ◌≤◌, Bool, true, false, List, [], ◌∷◌, ◌++◌, suc, refl, sym, ap, ◌∙◌, arith, length, drop, map, le_refl, filter, same_member, Member, same_member-true, is_standing, mark_served, Request, Op, IsWithin, op_in, zero_le, le_suc, and_first, and_false}

-- ---- within

within_skip : (ds rs : List Op) (r : Op) → IsWithin ds rs → IsWithin ds (r ∷ rs)
within_skip [] rs r w = tt
within_skip (d ∷ ds) rs r w = inr w

within_less : (d : Op) (ds rs : List Op) → IsWithin (d ∷ ds) rs → IsWithin ds rs
within_less d ds [] w = absurd w
within_less d ds (r ∷ rs) (inl both) = within_skip ds rs r both.1
within_less d ds (r ∷ rs) (inr w) = within_skip ds rs r (within_less d ds rs w)

-- the first that waits leaves, and the first that stands is served
pub within_served : (d : Op) (ds rs : List Op) → IsWithin (d ∷ ds) rs → IsWithin ds (drop 1 rs)
within_served d ds [] w = absurd w
within_served d ds (r ∷ rs) (inl both) = both.1
within_served d ds (r ∷ rs) (inr w) = within_less d ds rs w

-- the first that waits leaves alone
pub within_left : (ds rs : List Op) → IsWithin ds rs → IsWithin (drop 1 ds) rs
within_left [] rs w = tt
within_left (d ∷ ds) rs w = within_less d ds rs w

-- one more stands
pub within_right : (ds rs : List Op) (x : Op) → IsWithin ds rs → IsWithin ds (rs ++ x ∷ [])
within_right [] rs x w = tt
within_right (d ∷ ds) [] x w = absurd w
within_right (d ∷ ds) (r ∷ rs) x (inl both) = inl (both.0, within_right ds rs x both.1)
within_right (d ∷ ds) (r ∷ rs) x (inr w) = inr (within_right (d ∷ ds) rs x w)

-- and waits
pub within_both : (ds rs : List Op) (x : Op) → IsWithin ds rs → IsWithin (ds ++ x ∷ []) (rs ++ x ∷ [])
within_both [] [] x w = inl (refl, tt)
within_both [] (r ∷ rs) x w = inr (within_both [] rs x tt)
within_both (d ∷ ds) [] x w = absurd w
within_both (d ∷ ds) (r ∷ rs) x (inl both) = inl (both.0, within_both ds rs x both.1)
within_both (d ∷ ds) (r ∷ rs) x (inr w) = inr (within_both (d ∷ ds) rs x w)

-- where one stands at most, that is it
pub within_one : (d : Op) (ds rs : List Op) → IsWithin (d ∷ ds) rs → length rs ≤ 1 → rs ≡ d ∷ []
within_one d ds [] w most = absurd w
within_one d ds (r ∷ []) (inl both) most = ap (λ (x : Op). x ∷ []) (sym both.0)
within_one d ds (r ∷ []) (inr w) most = absurd w
within_one d ds (r ∷ s ∷ rs) w most = absurd (many (length rs) most)
  where
    many : (n : ℕ) → suc (suc n) ≤ 1 → ⊥
    many n e = grind (arith, e)

-- as many stand as wait, or more
pub within_count : (ds rs : List Op) → IsWithin ds rs → length ds ≤ length rs
within_count [] rs w = zero_le (length rs)
within_count (d ∷ ds) [] w = absurd w
within_count (d ∷ ds) (r ∷ rs) (inl both) = more (length ds) (length rs) (within_count ds rs both.1)
  where
    more : (a b : ℕ) → a ≤ b → suc a ≤ suc b
    more a b e = grind (arith, e)
within_count (d ∷ ds) (r ∷ rs) (inr w) = le_suc (suc (length ds)) (length rs) (within_count (d ∷ ds) rs w)

-- ---- lists

pub map_last : {A B : Type 0} (f : A → B) (xs : List A) (x : A) → map f (xs ++ x ∷ []) ≡ map f xs ++ f x ∷ []
map_last f [] x = refl
map_last f (y ∷ ys) x = ap (λ zs. f y ∷ zs) (map_last f ys x)

pub map_length : {A B : Type 0} (f : A → B) (xs : List A) → length (map f xs) ≡ length xs
map_length f [] = refl
map_length f (x ∷ xs) = ap suc (map_length f xs)

-- ---- what stands once the first is served

-- at its member the others stand
pub mark_first : (member : Member) (rs : List Request) → map op_in (filter (is_standing member) (mark_served member rs)) ≡ drop 1 (map op_in (filter (is_standing member) rs))
mark_first member [] = refl
mark_first member (r ∷ rs) = by (is_standing member r) refl (mark_first member rs)
  where
    by : (b : Bool) → is_standing member r ≡ b → map op_in (filter (is_standing member) (mark_served member rs)) ≡ drop 1 (map op_in (filter (is_standing member) rs))
        → map op_in (filter (is_standing member) (mark_served member (r ∷ rs))) ≡ drop 1 (map op_in (filter (is_standing member) (r ∷ rs)))
    by true is more = rw is (rw (and_false (same_member r.member member)) refl)
    by false is more = rw is (rw is more)

-- at every other member all do
pub mark_apart : (member other : Member) → member ≢ other → (rs : List Request) → filter (is_standing other) (mark_served member rs) ≡ filter (is_standing other) rs
mark_apart member other far [] = refl
mark_apart member other far (r ∷ rs) = by (is_standing member r) refl (is_standing other r) refl (mark_apart member other far rs)
  where
    clash : is_standing member r ≡ true → is_standing other r ≡ true → ⊥
    clash p q = far (sym (same_member-true r.member member (and_first _ _ p)) ∙ same_member-true r.member other (and_first _ _ q))

    by : (b : Bool) → is_standing member r ≡ b → (c : Bool) → is_standing other r ≡ c → filter (is_standing other) (mark_served member rs) ≡ filter (is_standing other) rs
        → filter (is_standing other) (mark_served member (r ∷ rs)) ≡ filter (is_standing other) (r ∷ rs)
    by true is true has more = absurd (clash is has)
    by true is false has more = rw (is, has) (rw (and_false (same_member r.member other)) refl)
    by false is true has more = rw is (rw has (ap (λ (zs : List Request). r ∷ zs) more))
    by false is false has more = rw is (rw has more)

-- no more stand than before
pub mark_fewer : (member other : Member) (n : ℕ) (rs : List Request) → length (filter (is_standing other) rs) ≤ n → length (filter (is_standing other) (mark_served member rs)) ≤ n
mark_fewer member other n [] h = h
mark_fewer member other n (r ∷ rs) h = by (λ m k. mark_fewer member other m rs k) (is_standing member r) refl (is_standing other r) refl
  where
    less : (a b : ℕ) → suc a ≤ b → a ≤ b
    less a b e = grind (arith, e)

    step : (a b : ℕ) → suc a ≤ b → (c : ℕ) → c ≤ a → suc c ≤ b
    step a b e c f = grind (arith, e, f)

    by : ((m : ℕ) → length (filter (is_standing other) rs) ≤ m → length (filter (is_standing other) (mark_served member rs)) ≤ m)
        → (b : Bool) → is_standing member r ≡ b → (c : Bool) → is_standing other r ≡ c → length (filter (is_standing other) (mark_served member (r ∷ rs))) ≤ n
    by more true is true has = rw is (rw (and_false (same_member r.member other)) (less _ _ (rw has at h)))
    by more true is false has = rw is (rw (and_false (same_member r.member other)) (rw has at h))
    by more false is true has = rw is (rw has (step _ _ (rw has at h) _ (more (length (filter (is_standing other) rs)) (le_refl _))))
    by more false is false has = rw is (rw has (more n (rw has at h)))
