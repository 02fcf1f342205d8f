-- Two sites of a list that is split between them: which they are, and what the list is once both have changed.
use Rattle.std.proofs.Common.{◌≡◌, ◌≢◌, ◌∙◌, ◌<◌, ap, subst, sym, refl, ℕ, zero, suc, List, [], ◌∷◌, ◌++◌, get_or, length, arith}
use Rattle.std.proofs.lemmas.Option.{slice_get-get_or}
use Rattle.std.specs.Prelude.{Some, Result, slice_get, slice_set, true}
use Rattle.qs_base.specs.declared.memory.NoMemory.{NoMemory}
use Rattle.qs_cell_peers.specs.Links.{CarriesLink, into_of, is_peer_of, out_of}
use Rattle.qs_link.specs.Lane.{IsLane}
use Rattle.qs_world_rounds.specs.Rounds.{Cast}
use Rattle.qs_world_sites.proofs.Between.{IsOneCarried}
use Rattle.qs_world_sites.proofs.Staying.{got_below, peer_at, set_here, set_long, set_there}
use Rattle.qs_world_sites.specs.Sites.{AreLinked, links_of}

module _ {A : Type 0} where
  -- ---- what stands at a place

  pub get_front : (xs ys : List A) (i : ℕ) → i < length xs → slice_get (xs ++ ys) i ≡ slice_get xs i
  get_front [] ys i less = absurd (omega (arith, less))
  get_front (x ∷ xs) ys zero less = refl
  get_front (x ∷ xs) ys (suc i) less = get_front xs ys i (omega (arith, less))

  pub get_back : (xs ys : List A) → slice_get (xs ++ ys) (length xs) ≡ slice_get ys 0
  get_back [] ys = refl
  get_back (x ∷ xs) ys = get_back xs ys

  pub front_got : (all xs ys : List A) (i : ℕ) (d : A) → all ≡ xs ++ ys → i < length xs → slice_get all i ≡ Some (get_or xs i d)
  front_got all xs ys i d is less = ap (λ (l : List A). slice_get l i) is ∙ (get_front xs ys i less ∙ slice_get-get_or xs i d less)

  pub back_got : (all xs ys : List A) (i : ℕ) (d : A) → all ≡ xs ++ ys → length xs ≡ i → 0 < length ys → slice_get all i ≡ Some (get_or ys 0 d)
  back_got all xs ys i d is long some =
      ap (λ (l : List A). slice_get l i) is ∙ (ap (slice_get (xs ++ ys)) (sym long) ∙ (get_back xs ys ∙ slice_get-get_or ys 0 d some))

  -- ---- both changed

  set_front : (xs ys : List A) (i : ℕ) (a : A) → i < length xs → slice_set (xs ++ ys) i a ≡ slice_set xs i a ++ ys
  set_front [] ys i a less = absurd (omega (arith, less))
  set_front (x ∷ xs) ys zero a less = refl
  set_front (x ∷ xs) ys (suc i) a less = ap (λ (l : List A). x ∷ l) (set_front xs ys i a (omega (arith, less)))

  set_back : (xs ys : List A) (a : A) → slice_set (xs ++ ys) (length xs) a ≡ xs ++ slice_set ys 0 a
  set_back [] ys a = refl
  set_back (x ∷ xs) ys a = ap (λ (l : List A). x ∷ l) (set_back xs ys a)

  pub both_set : (all xs ys : List A) (i j : ℕ) (a b : A) → all ≡ xs ++ ys → i < length xs → length xs ≡ j → slice_set xs i a ++ slice_set ys 0 b ≡ slice_set (slice_set all i a) j b
  both_set all xs ys i j a b is less long =
      let same : length (slice_set xs i a) ≡ j = set_long xs i a ∙ long in
      sym (ap (λ (l : List A). slice_set (slice_set l i a) j b) is
      ∙ (ap (λ (l : List A). slice_set l j b) (set_front xs ys i a less)
      ∙ (ap (λ (k : ℕ). slice_set (slice_set xs i a ++ ys) k b) (sym same) ∙ set_back (slice_set xs i a) ys b)))

-- ---- two sites

module _ {D : Type 0} where
  module _ (sites : List (Cast D)) (from to : ℕ) (x y : Cast D) (linked : AreLinked sites) (apart : from ≢ to) (x_is : slice_get sites from ≡ Some x) (y_is : slice_get sites to ≡ Some y) where
    from_is : (links_of x).me.0 ≡ from
    from_is = linked.numbers from x x_is

    to_is : (links_of y).me.0 ≡ to
    to_is = linked.numbers to y y_is

    pub may_peer : is_peer_of (links_of y) (links_of x).me.0 ≡ true
    may_peer = subst (λ (k : ℕ). is_peer_of (links_of y) k ≡ true) (sym from_is) (peer_at sites to from y x linked y_is x_is (λ is. apart (sym is)))

    pub may_its : is_peer_of (links_of x) (links_of y).me.0 ≡ true
    may_its = subst (λ (k : ℕ). is_peer_of (links_of x) k ≡ true) (sym to_is) (peer_at sites from to x y linked x_is y_is apart)

    pub may_lane : IsLane (out_of (links_of x) (links_of y).me.0).feed (into_of (links_of y) (links_of x).me.0)
    may_lane = subst (λ (k : ℕ). IsLane (out_of (links_of x) k).feed (into_of (links_of y) (links_of x).me.0)) (sym to_is)
        (subst (λ (k : ℕ). IsLane (out_of (links_of x) to).feed (into_of (links_of y) k)) (sym from_is) (linked.lanes from to x y x_is y_is apart))

    -- whichever of the two was changed first
    pub carried_first : (result : Result ℕ NoMemory) (new : List (Cast D)) (x' y' : Cast D) → new ≡ slice_set (slice_set sites from x') to y' → CarriesLink result (links_of x) (links_of x') (links_of y) (links_of y')
        → y' ≡ record y { node = record y.node { links = y'.node.links } } → x' ≡ record x { node = record x.node { links = x'.node.links } } → IsOneCarried result from to sites new x x' y y'
    carried_first result new x' y' is carries own its = record {
      apart = apart;
      x_is = x_is;
      y_is = y_is;
      new_x = ap (λ (l : List (Cast D)). slice_get l from) is ∙ (set_there (slice_set sites from x') to from y' (λ e. apart (sym e)) ∙ set_here sites from x' (got_below sites from x x_is));
      new_y = ap (λ (l : List (Cast D)). slice_get l to) is ∙ set_here (slice_set sites from x') to y' (let less = got_below sites to y y_is in let long = set_long sites from x' in omega arith);
      count = ap (λ (l : List (Cast D)). length l) is ∙ (set_long (slice_set sites from x') to y' ∙ set_long sites from x');
      rest = λ k not_from not_to. ap (λ (l : List (Cast D)). slice_get l k) is ∙ (set_there (slice_set sites from x') to k y' (λ e. not_to (sym e)) ∙ set_there sites from k x' (λ e. not_from (sym e)));
      carries = carries;
      own = own;
      its = its;
    }

    pub carried_second : (result : Result ℕ NoMemory) (new : List (Cast D)) (x' y' : Cast D) → new ≡ slice_set (slice_set sites to y') from x' → CarriesLink result (links_of x) (links_of x') (links_of y) (links_of y')
        → y' ≡ record y { node = record y.node { links = y'.node.links } } → x' ≡ record x { node = record x.node { links = x'.node.links } } → IsOneCarried result from to sites new x x' y y'
    carried_second result new x' y' is carries own its = record {
      apart = apart;
      x_is = x_is;
      y_is = y_is;
      new_x = ap (λ (l : List (Cast D)). slice_get l from) is ∙ set_here (slice_set sites to y') from x' (let less = got_below sites from x x_is in let long = set_long sites to y' in omega arith);
      new_y = ap (λ (l : List (Cast D)). slice_get l to) is ∙ (set_there (slice_set sites to y') from to x' apart ∙ set_here sites to y' (got_below sites to y y_is));
      count = ap (λ (l : List (Cast D)). length l) is ∙ (set_long (slice_set sites to y') from x' ∙ set_long sites to y');
      rest = λ k not_from not_to. ap (λ (l : List (Cast D)). slice_get l k) is ∙ (set_there (slice_set sites to y') from k x' (λ e. not_from (sym e)) ∙ set_there sites to k y' (λ e. not_to (sym e)));
      carries = carries;
      own = own;
      its = its;
    }
