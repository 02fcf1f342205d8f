-- The ends of nodes, as one node more comes in.
use Rattle.std.proofs.Common.{◌≡◌, ◌≢◌, ◌⊎◌, ◌∙◌, ◌<◌, ◌+◌, ap, subst, sym, refl, inl, inr, ℕ, zero, suc, List, [], ◌∷◌, ◌++◌, length, arith}
use Rattle.std.proofs.lemmas.Bool.{cases_eq}
use Rattle.std.proofs.lemmas.Bool.Decides.{nat_tests}
use Rattle.std.proofs.lemmas.List.{append-nil, length_push}
use Rattle.std.specs.Prelude.{Some, slice_get, slice_set}
use Rattle.qs_book_script.specs.declared.script.FaultLine.{FaultLine}
use Rattle.qs_cell_peers.specs.Peers.{place}
use Rattle.qs_world_sites.proofs.Halves.{get_back, get_front}
use Rattle.qs_world_sites.proofs.Staying.{Got, got_at, got_below, set_here, set_there}
use Rattle.qs_world_sites.specs.Linking.{AreJoined, AreWide, Extends, IsJoined, IsMade, IsWide, Joins, JoinsBelow}
use Rattle.qs_world_sites.specs.declared.linking.Ends.{Ends}

-- ---- what stands at a place of a list that grew

one : {A : Type 0} {x y : A} → Some x ≡ Some y → x ≡ y
one is = cc is

module _ {A : Type 0} where
  stays_in : (xs ys all : List A) (i : ℕ) (x : A) → all ≡ xs ++ ys → slice_get xs i ≡ Some x → slice_get all i ≡ Some x
  stays_in xs ys all i x is got = ap (λ (l : List A). slice_get l i) is ∙ (get_front xs ys i (got_below xs i x got) ∙ got)

  last_in : (xs all : List A) (i : ℕ) (x : A) → all ≡ xs ++ x ∷ [] → length xs ≡ i → slice_get all i ≡ Some x
  last_in xs all i x is long = ap (λ (l : List A). slice_get l i) is ∙ (ap (slice_get (xs ++ x ∷ [])) (sym long) ∙ get_back xs (x ∷ []))

  pub longer : (xs all : List A) (x : A) → all ≡ xs ++ x ∷ [] → length all ≡ length xs + 1
  longer xs all x is = ap (λ (l : List A). length l) is ∙ length_push xs x

  -- an item of a list with one more is one of the list, or that one
  pub which : (xs : List A) (x : A) (i : ℕ) (y : A) → slice_get (xs ++ x ∷ []) i ≡ Some y → ((i < length xs) × (slice_get xs i ≡ Some y)) ⊎ ((i ≡ length xs) × (x ≡ y))
  which [] x zero y got = inr (refl, one got)
  which [] x (suc i) y got = absurd (cc got)
  which (z ∷ xs) x zero y got = inl (omega arith, got)
  which (z ∷ xs) x (suc i) y got = further (which xs x i y got)
    where
      further : ((i < length xs) × (slice_get xs i ≡ Some y)) ⊎ ((i ≡ length xs) × (x ≡ y)) → ((suc i < suc (length xs)) × (slice_get xs i ≡ Some y)) ⊎ ((suc i ≡ suc (length xs)) × (x ≡ y))
      further (inl (less, is)) = inl (omega (arith, less), is)
      further (inr (at, is)) = inr (ap suc at, is)

-- ---- the places of two nodes among the others

place_above : (n k : ℕ) → n < k → place n k + 1 ≡ k
place_above n k less = grind (arith, nat_tests, less)

place_under : (n k : ℕ) → n < k → place k n ≡ n
place_under n k less = grind (arith, nat_tests, less)

-- ---- a link that is made stays

made_on : (lines : List FaultLine) (n m : ℕ) (a new_a b new_b : Ends) → Extends a new_a → Extends b new_b → IsMade lines n m a b → IsMade lines n m new_a new_b
made_on lines n m a new_a b new_b first second made = record {
  from = made.from;
  to = made.to;
  out_is = stays_in a.out first.out new_a.out (place n m) made.from first.out_is made.out_is;
  into_is = stays_in b.into second.into new_b.into (place m n) made.to second.into_is made.into_is;
  is_new = made.is_new;
}

extends_none : (a : Ends) → Extends a a
extends_none a = record { out = []; into = []; out_is = sym (append-nil a.out); into_is = sym (append-nil a.into) }

joined_on : (lines : List FaultLine) (n k : ℕ) (a new_a b new_b : Ends) → Extends b new_b → IsJoined lines n k a new_a b → IsJoined lines n k a new_a new_b
joined_on lines n k a new_a b new_b more j = record {
  extends = j.extends;
  wide = j.wide;
  there = made_on lines n k new_a new_a b new_b (extends_none new_a) more j.there;
  back = made_on lines k n b new_b new_a new_a more (extends_none new_a) j.back;
}

-- ---- the links of one pair

module _ (lines : List FaultLine) (n k : ℕ) (a new_a b new_b : Ends) (less : n < k) (wide : IsWide k a) (so_far : IsWide (n + 1) b) (j : Joins lines n k a new_a b new_b) where
  joins_extends : Extends b new_b
  joins_extends = record { out = j.back.from ∷ []; into = j.there.to ∷ []; out_is = j.back.out_is; into_is = j.there.into_is }

  joins_wide : IsWide (n + 1 + 1) new_b
  joins_wide = record {
    out = let long = longer b.out new_b.out j.back.from j.back.out_is in let was = so_far.out in omega arith;
    into = let long = longer b.into new_b.into j.there.to j.there.into_is in let was = so_far.into in omega arith;
  }

  joins_here : IsJoined lines n k a new_a new_b
  joins_here = record {
    extends = record { out = j.there.from ∷ []; into = j.back.to ∷ []; out_is = j.there.out_is; into_is = j.back.into_is };
    wide = record {
      out = let long = longer a.out new_a.out j.there.from j.there.out_is in let was = wide.out in omega arith;
      into = let long = longer a.into new_a.into j.back.to j.back.into_is in let was = wide.into in omega arith;
    };
    there = record {
      from = j.there.from;
      to = j.there.to;
      out_is = last_in a.out new_a.out (place n k) j.there.from j.there.out_is (let at = place_above n k less in let was = wide.out in omega arith);
      into_is = last_in b.into new_b.into (place k n) j.there.to j.there.into_is (let at = place_under n k less in let was = so_far.into in omega arith);
      is_new = j.there.is_new;
    };
    back = record {
      from = j.back.from;
      to = j.back.to;
      out_is = last_in b.out new_b.out (place k n) j.back.from j.back.out_is (let at = place_under n k less in let was = so_far.out in omega arith);
      into_is = last_in a.into new_a.into (place n k) j.back.to j.back.into_is (let at = place_above n k less in let was = wide.into in omega arith);
      is_new = j.back.is_new;
    };
  }

-- ---- those of each node with the one that comes in

module _ (lines : List FaultLine) (n : ℕ) (old mid : List Ends) (a new_a b new_b : Ends) (wide : AreWide old) (below : JoinsBelow lines n old mid b) (long : length mid ≡ length old)
    (at : slice_get mid n ≡ Some a) (joins : Joins lines n (length old) a new_a b new_b) where
  less : n < length old
  less = let in_mid = got_below mid n a at in omega arith

  was : slice_get old n ≡ Some a
  was = sym (below.rest n (omega arith)) ∙ at

  here : IsJoined lines n (length old) a new_a new_b
  here = joins_here lines n (length old) a new_a b new_b less (wide.each n a was) below.wide joins

  each_now : (m : ℕ) (x y : Ends) → m < n + 1 → slice_get old m ≡ Some x → slice_get (slice_set mid n new_a) m ≡ Some y → IsJoined lines m (length old) x y new_b
  each_now m x y below_m first second = by (cases_eq m n)
    where
      by : (m ≡ n) ⊎ (m ≢ n) → IsJoined lines m (length old) x y new_b
      by (inl e) =
          let x_is : a ≡ x = one (sym was ∙ (ap (slice_get old) (sym e) ∙ first)) in
          let y_is : new_a ≡ y = one (sym (set_here mid n new_a (got_below mid n a at)) ∙ (ap (slice_get (slice_set mid n new_a)) (sym e) ∙ second)) in
          subst (λ (i : ℕ). IsJoined lines i (length old) x y new_b) (sym e)
          (subst (λ (z : Ends). IsJoined lines n (length old) x z new_b) y_is (subst (λ (z : Ends). IsJoined lines n (length old) z new_a new_b) x_is here))
      by (inr apart) =
          joined_on lines m (length old) x y b new_b (joins_extends lines n (length old) a new_a b new_b less (wide.each n a was) below.wide joins)
          (below.each m x y (omega (arith, below_m, apart)) first (sym (set_there mid n m new_a (λ e. apart (sym e))) ∙ second))

  pub one_joined : JoinsBelow lines (n + 1) old (slice_set mid n new_a) new_b
  one_joined = record {
    wide = joins_wide lines n (length old) a new_a b new_b less (wide.each n a was) below.wide joins;
    rest = λ m from. set_there mid n m new_a (omega (arith, from)) ∙ below.rest m (omega (arith, from));
    each = each_now;
  }

-- ---- one node more

module _ (lines : List FaultLine) (old new : List Ends) (b : Ends) (joined : AreJoined lines old) (long : length new ≡ length old) (below : JoinsBelow lines (length old) old new b) where
  size : length (new ++ b ∷ []) ≡ length old + 1
  size = length_push new b ∙ ap (λ (k : ℕ). k + 1) long

  was_there : (n : ℕ) → n < length new → Got old n
  was_there n less = got_at old n (omega (arith, less))

  with_new : (n : ℕ) (a : Ends) (less : n < length new) → slice_get new n ≡ Some a → IsJoined lines n (length old) (was_there n less).item a b
  with_new n a less is = below.each n (was_there n less).item a (omega (arith, less)) (was_there n less).is is

  wide_now : (n : ℕ) (a : Ends) → slice_get (new ++ b ∷ []) n ≡ Some a → IsWide (length old + 1) a
  wide_now n a got = by (which new b n a got)
    where
      by : ((n < length new) × (slice_get new n ≡ Some a)) ⊎ ((n ≡ length new) × (b ≡ a)) → IsWide (length old + 1) a
      by (inl (less, is)) = (with_new n a less is).wide
      by (inr (at, is)) = subst (IsWide (length old + 1)) is below.wide

  made_now : (n m : ℕ) (a c : Ends) → slice_get (new ++ b ∷ []) n ≡ Some a → slice_get (new ++ b ∷ []) m ≡ Some c → n ≢ m → IsMade lines n m a c
  made_now n m a c first second apart = by (which new b n a first) (which new b m c second)
    where
      by : ((n < length new) × (slice_get new n ≡ Some a)) ⊎ ((n ≡ length new) × (b ≡ a)) → ((m < length new) × (slice_get new m ≡ Some c)) ⊎ ((m ≡ length new) × (b ≡ c)) → IsMade lines n m a c
      by (inl (less, is)) (inl (under, there)) =
          let x = was_there n less in
          let y = was_there m under in
          made_on lines n m x.item a y.item c (with_new n a less is).extends (with_new m c under there).extends (joined.made n m x.item y.item x.is y.is apart)
      by (inl (less, is)) (inr (at, there)) =
          subst (λ (k : ℕ). IsMade lines n k a c) (sym (at ∙ long)) (subst (IsMade lines n (length old) a) there (with_new n a less is).there)
      by (inr (at, is)) (inl (under, there)) =
          subst (λ (k : ℕ). IsMade lines k m a c) (sym (at ∙ long)) (subst (λ (z : Ends). IsMade lines (length old) m z c) is (with_new m c under there).back)
      by (inr (at, is)) (inr (also, there)) = absurd (apart (at ∙ sym also))

  pub all_joined : AreJoined lines (new ++ b ∷ [])
  all_joined = record { wide = record { each = λ n a got. subst (λ (k : ℕ). IsWide k a) (sym size) (wide_now n a got) }; made = made_now }
