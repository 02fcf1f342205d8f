-- The least taken name of a transaction: where a table has all that another has, and the name is taken in that other too, it is
-- the least there.
use Rattle.qs_world_lawful.proofs.Words.{◌≡◌, ◌⊎◌, inl, inr, ℕ, Bool, true, false, List, [], ◌∷◌, Option, Some, None, Less, Equal, Greater, refl, sym, ap, subst, ◌∙◌, if◌then◌else◌, ⊤, list_any, Ordering, bytes_cmp, Tid, same_bytes-self, same_bytes-true, TableValue, is_change_of, Op, Put, Append, Del, Get, Listing, Note, Notes, Bind, Find, Timer, Left, Window, Title, Keep, Fetch, Lend, Extra, or-true, same_Some}
use Rattle.std.specs.Ordering.{is_eq, match_ordering, ordering_reverse}
use Rattle.std.specs.Cmp.Lexicographic.{texts_ties}
use Rattle.qs_ops.proofs.FileOrder.{bytes_total}
use Rattle.qs_ops.specs.Table.{is_taken, least_taken_in, lesser, taken_by}

-- ---- names in order

abbrev IsAtMost : List ℕ → List ℕ → Type 0
IsAtMost n m = (bytes_cmp n m ≡ Less) ⊎ (n ≡ m)

exact : (n m : List ℕ) → bytes_cmp n m ≡ Equal → n ≡ m
exact n m is = same_bytes-true n m (texts_ties n m ∙ ap is_eq is)

itself : (n : List ℕ) → bytes_cmp n n ≡ Equal
itself n = of (bytes_cmp n n) (sym (texts_ties n n) ∙ same_bytes-self n)
  where
    of : (r : Ordering) → is_eq r ≡ true → r ≡ Equal
    of Less e = absurd (cc e)
    of Equal e = refl
    of Greater e = absurd (cc e)

turned : (n m : List ℕ) → bytes_cmp n m ≡ Greater → bytes_cmp m n ≡ Less
turned n m is = bytes_total.antisymm m n ∙ ap ordering_reverse is

above : (n m : List ℕ) → bytes_cmp m n ≡ Less → bytes_cmp n m ≡ Greater
above n m is = bytes_total.antisymm n m ∙ ap ordering_reverse is

less_most : (x y z : List ℕ) → bytes_cmp x y ≡ Less → IsAtMost y z → bytes_cmp x z ≡ Less
less_most x y z less (inl more) = bytes_total.trans x y z less more
less_most x y z less (inr same) = subst (λ (w : List ℕ). bytes_cmp x w ≡ Less) same less

most_most : (x y z : List ℕ) → IsAtMost x y → IsAtMost y z → IsAtMost x z
most_most x y z (inl less) more = inl (less_most x y z less more)
most_most x y z (inr same) more = subst (λ (w : List ℕ). IsAtMost w z) (sym same) more

-- one that is there is none below the other, which is there too
abbrev IsNoLess : Option (List ℕ) → Option (List ℕ) → Type 0
IsNoLess None m = ⊤
IsNoLess (Some n) None = ⊥
IsNoLess (Some n) (Some m) = IsAtMost m n

lesser_either : (x z y : List ℕ) → IsAtMost x y ⊎ IsAtMost z y → IsNoLess (Some y) (lesser (Some x) (Some z))
lesser_either x z y most = by (bytes_cmp x z) refl most
  where
    by : (r : Ordering) → bytes_cmp x z ≡ r → IsAtMost x y ⊎ IsAtMost z y → IsNoLess (Some y) (match_ordering r (Some x) (Some x) (Some z))
    by Less is (inl a) = a
    by Less is (inr b) = inl (less_most x z y is b)
    by Equal is (inl a) = a
    by Equal is (inr b) = subst (λ (w : List ℕ). IsAtMost w y) (sym (exact x z is)) b
    by Greater is (inl a) = inl (less_most z x y (turned x z is) a)
    by Greater is (inr b) = b

lesser_both : (n m a b : Option (List ℕ)) → IsNoLess n a → IsNoLess m b → IsNoLess (lesser n m) (lesser a b)
lesser_both None None a b p q = tt
lesser_both None (Some m) a None p q = absurd q
lesser_both None (Some m) None (Some z) p q = q
lesser_both None (Some m) (Some x) (Some z) p q = lesser_either x z m (inr q)
lesser_both (Some n) m None b p q = absurd p
lesser_both (Some n) None (Some x) None p q = p
lesser_both (Some n) None (Some x) (Some z) p q = lesser_either x z n (inl p)
lesser_both (Some n) (Some m) (Some x) None p q = absurd q
lesser_both (Some n) (Some m) (Some x) (Some z) p q = by (bytes_cmp n m)
  where
    by : (r : Ordering) → IsNoLess (match_ordering r (Some n) (Some n) (Some m)) (lesser (Some x) (Some z))
    by Less = lesser_either x z n (inl p)
    by Equal = lesser_either x z n (inl p)
    by Greater = lesser_either x z m (inr q)

none_less : (n : Option (List ℕ)) → IsNoLess n None → n ≡ None
none_less None h = refl
none_less (Some n) h = absurd h

-- ---- the least of two tables' taken names

module _ (kept held : TableValue) (me : Tid) (more : (name : List ℕ) → is_taken kept me name ≡ true → is_taken held me name ≡ true) where
  abbrev if_taken : Bool → List ℕ → Option (List ℕ)
  if_taken b name = if b then Some name else None

  one_less : (op : Op) → IsNoLess (taken_by kept me op) (taken_by held me op)
  one_less (Bind name text) = by (is_taken kept me name) refl
    where
      by : (b : Bool) → is_taken kept me name ≡ b → IsNoLess (if_taken b name) (if_taken (is_taken held me name) name)
      by false is = tt
      by true is = subst (λ (c : Bool). IsNoLess (Some name) (if_taken c name)) (sym (more name is)) (inr refl)
  one_less (Put name text) = tt
  one_less (Append name text) = tt
  one_less (Del name) = tt
  one_less (Get name) = tt
  one_less Listing = tt
  one_less (Note text) = tt
  one_less Notes = tt
  one_less (Find name) = tt
  one_less (Timer name ticks) = tt
  one_less (Left name) = tt
  one_less (Window name text) = tt
  one_less (Title name) = tt
  one_less (Keep name text) = tt
  one_less (Fetch name) = tt
  one_less (Lend client) = tt
  one_less (Extra code text) = tt

  all_less : (ops : List Op) → IsNoLess (least_taken_in kept me ops) (least_taken_in held me ops)
  all_less [] = tt
  all_less (op ∷ ops) = lesser_both (taken_by kept me op) (least_taken_in kept me ops) (taken_by held me op) (least_taken_in held me ops) (one_less op) (all_less ops)

  -- where none is taken, none is in the other
  pub none_taken : (ops : List Op) → least_taken_in held me ops ≡ None → least_taken_in kept me ops ≡ None
  none_taken ops is = none_less (least_taken_in kept me ops) (subst (λ (o : Option (List ℕ)). IsNoLess (least_taken_in kept me ops) o) is (all_less ops))

  -- ---- what is taken there

  record IsBound (name : List ℕ) (op : Op) : Type 0 where
    taken : is_taken held me name ≡ true
    binds : is_change_of name op ≡ true
    own : is_taken kept me name ≡ true → taken_by kept me op ≡ Some name

  bound : (op : Op) (name : List ℕ) → taken_by held me op ≡ Some name → IsBound name op
  bound (Bind n text) name e = by (is_taken held me n) refl e
    where
      by : (b : Bool) → is_taken held me n ≡ b → if_taken b n ≡ Some name → IsBound name (Bind n text)
      by false is f = absurd (cc f)
      by true is f = subst (λ (w : List ℕ). IsBound w (Bind n text)) (same_Some n name f) (record { taken = is; binds = same_bytes-self n; own = λ has. rw has refl })
  bound (Put n text) name e = absurd (cc e)
  bound (Append n text) name e = absurd (cc e)
  bound (Del n) name e = absurd (cc e)
  bound (Get n) name e = absurd (cc e)
  bound Listing name e = absurd (cc e)
  bound (Note text) name e = absurd (cc e)
  bound Notes name e = absurd (cc e)
  bound (Find n) name e = absurd (cc e)
  bound (Timer n ticks) name e = absurd (cc e)
  bound (Left n) name e = absurd (cc e)
  bound (Window n text) name e = absurd (cc e)
  bound (Title n) name e = absurd (cc e)
  bound (Keep n text) name e = absurd (cc e)
  bound (Fetch n) name e = absurd (cc e)
  bound (Lend client) name e = absurd (cc e)
  bound (Extra code text) name e = absurd (cc e)

  pub record IsLeast (name : List ℕ) (ops : List Op) : Type 0 where
    pub taken : is_taken held me name ≡ true
    pub binds : list_any (is_change_of name) ops ≡ true
    pub same : is_taken kept me name ≡ true → least_taken_in kept me ops ≡ Some name

  pub least : (ops : List Op) (name : List ℕ) → least_taken_in held me ops ≡ Some name → IsLeast name ops
  least [] name e = absurd (cc e)
  least (op ∷ ops) name e = by (taken_by held me op) refl (least_taken_in held me ops) refl e (least ops)
    where
      -- the first is the least
      first : (n : List ℕ) → taken_by held me op ≡ Some n → ((y : List ℕ) → least_taken_in kept me ops ≡ Some y → IsAtMost n y) → IsLeast n (op ∷ ops)
      first n at most = let b = bound op n at in record {
        taken = b.taken;
        binds = rw b.binds refl;
        same = λ has. ap (λ (o : Option (List ℕ)). lesser o (least_taken_in kept me ops)) (b.own has) ∙ of (least_taken_in kept me ops) refl;
      }
        where
          of : (o : Option (List ℕ)) → least_taken_in kept me ops ≡ o → lesser (Some n) o ≡ Some n
          of None is = refl
          of (Some y) is = at_most (most y is)
            where
              at_most : IsAtMost n y → match_ordering (bytes_cmp n y) (Some n) (Some n) (Some y) ≡ Some n
              at_most (inl less) = rw less refl
              at_most (inr same) = subst (λ (w : List ℕ). match_ordering (bytes_cmp n w) (Some n) (Some n) (Some w) ≡ Some n) same (rw (itself n) refl)

      -- one of the others is
      later : (m : List ℕ) → IsLeast m ops → ((x : List ℕ) → taken_by kept me op ≡ Some x → bytes_cmp m x ≡ Less) → IsLeast m (op ∷ ops)
      later m k most = record {
        taken = k.taken;
        binds = rw k.binds (or-true (is_change_of m op));
        same = λ has. ap (λ (o : Option (List ℕ)). lesser (taken_by kept me op) o) (k.same has) ∙ of (taken_by kept me op) refl;
      }
        where
          of : (o : Option (List ℕ)) → taken_by kept me op ≡ o → lesser o (Some m) ≡ Some m
          of None is = refl
          of (Some x) is = rw (above x m (most x is)) refl

      there : (n : Option (List ℕ)) (y m : List ℕ) → n ≡ Some y → IsNoLess n (Some m) → IsAtMost m y
      there n y m is h = subst (λ (o : Option (List ℕ)). IsNoLess o (Some m)) is h

      by : (a : Option (List ℕ)) → taken_by held me op ≡ a → (b : Option (List ℕ)) → least_taken_in held me ops ≡ b → lesser a b ≡ Some name
          → ((n : List ℕ) → least_taken_in held me ops ≡ Some n → IsLeast n ops) → IsLeast name (op ∷ ops)
      by None at None has f rest = absurd (cc f)
      by None at (Some m) has f rest = subst (λ (w : List ℕ). IsLeast w (op ∷ ops)) (same_Some m name f)
          (later m (rest m has) (λ x is. absurd (no (sym (none_less (taken_by kept me op) (subst (λ (o : Option (List ℕ)). IsNoLess (taken_by kept me op) o) at (one_less op))) ∙ is))))
        where
          no : {x : List ℕ} → None ≡ Some x → ⊥
          no e = cc e
      by (Some n) at None has f rest = subst (λ (w : List ℕ). IsLeast w (op ∷ ops)) (same_Some n name f)
          (first n at (λ y is. absurd (no (sym (none_taken ops has) ∙ is))))
        where
          no : {x : List ℕ} → None ≡ Some x → ⊥
          no e = cc e
      by (Some n) at (Some m) has f rest = of (bytes_cmp n m) refl f
        where
          least_most : (y : List ℕ) → least_taken_in kept me ops ≡ Some y → IsAtMost m y
          least_most y is = there (least_taken_in kept me ops) y m is (subst (λ (o : Option (List ℕ)). IsNoLess (least_taken_in kept me ops) o) has (all_less ops))

          first_most : (x : List ℕ) → taken_by kept me op ≡ Some x → IsAtMost n x
          first_most x is = there (taken_by kept me op) x n is (subst (λ (o : Option (List ℕ)). IsNoLess (taken_by kept me op) o) at (one_less op))

          of : (r : Ordering) → bytes_cmp n m ≡ r → match_ordering r (Some n) (Some n) (Some m) ≡ Some name → IsLeast name (op ∷ ops)
          of Less is g = subst (λ (w : List ℕ). IsLeast w (op ∷ ops)) (same_Some n name g) (first n at (λ y there_is. inl (less_most n m y is (least_most y there_is))))
          of Equal is g = subst (λ (w : List ℕ). IsLeast w (op ∷ ops)) (same_Some n name g) (first n at (λ y there_is. subst (λ (w : List ℕ). IsAtMost w y) (sym (exact n m is)) (least_most y there_is)))
          of Greater is g = subst (λ (w : List ℕ). IsLeast w (op ∷ ops)) (same_Some m name g) (later m (rest m has) (λ x there_is. less_most m n x (turned n m is) (first_most x there_is)))
