-- The links of all nodes, while some have begun and others have not.
use Rattle.std.proofs.Common.{◌≡◌, ◌∙◌, ◌+◌, ◌≤◌, ap, append_assoc, refl, subst, sym, ℕ, List, [], ◌∷◌, ◌++◌, length, map, get_or, arith}
use Rattle.std.proofs.lemmas.List.{append-nil, length-append, length-map, map-append}
use Rattle.std.proofs.lemmas.Option.{slice_get-map}
use Rattle.std.specs.Option.{option_map}
use Rattle.std.specs.List.{remove}
use Rattle.std.specs.Prelude.{Some, slice_get}
use Rattle.qs_book_script.specs.declared.script.FaultLine.{FaultLine}
use Rattle.qs_cell_peers.specs.Links.{LinksValue}
use Rattle.qs_world_rounds.specs.Rounds.{Cast}
use Rattle.qs_world_rounds.specs.Seats.{AreLinksOf}
use Rattle.qs_world_serial.specs.Behind.{AreAllLinks, all_links}
use Rattle.qs_world_sites.specs.Sites.{AreLinked, links_of}

-- ---- places of a list

pub got_behind : {A : Type 0} (xs ys : List A) (a : A) → slice_get (xs ++ a ∷ ys) (length xs) ≡ Some a
got_behind [] ys a = refl
got_behind (x ∷ xs) ys a = got_behind xs ys a

pub first_removed : {A : Type 0} (xs ys : List A) (a : A) → 1 ≤ length xs → a ≡ get_or xs 0 a → ys ≡ remove xs 0 → xs ≡ a ∷ ys
first_removed [] ys a some is rest = absurd (omega (arith, some))
first_removed (x ∷ xs) ys a some is rest = cc (is, rest)

pub none_long : {A : Type 0} (xs : List A) → length xs ≡ 0 → xs ≡ []
none_long [] none = refl
none_long (x ∷ xs) none = absurd (omega (arith, none))

-- ---- links

module _ {D : Type 0} (lines : List FaultLine) (size : ℕ) where
  -- a node that has not begun and one that has are one of the run each
  pub all_long : (sites : List (Cast D)) (others : List LinksValue) → AreAllLinks lines size (all_links sites others) → length sites + length others ≡ size
  all_long sites others all =
      let both : length (map links_of sites ++ others) ≡ length (map links_of sites) + length others = length-append (map links_of sites) others in
      let same : length (map links_of sites) ≡ length sites = length-map sites links_of in
      let count : length (map links_of sites ++ others) ≡ size = all.count in
      omega (arith, both, same, count)

  -- the next ones are those of the next node
  pub next_own : (sites : List (Cast D)) (others rest : List LinksValue) (own : LinksValue) → AreAllLinks lines size (all_links sites others) → others ≡ own ∷ rest
      → AreLinksOf size (record { 0 = length sites }) own
  next_own sites others rest own all is = all.own (length sites) own got
    where
      got : slice_get (map links_of sites ++ others) (length sites) ≡ Some own
      got =
          ap (λ (l : List LinksValue). slice_get (map links_of sites ++ l) (length sites)) is
          ∙ (ap (slice_get (map links_of sites ++ own ∷ rest)) (sym (length-map sites links_of)) ∙ got_behind (map links_of sites) rest own)

  -- it has begun
  pub all_joined : (sites joined : List (Cast D)) (site : Cast D) (others rest : List LinksValue) → AreAllLinks lines size (all_links sites others) → joined ≡ sites ++ site ∷ []
      → others ≡ links_of site ∷ rest → AreAllLinks lines size (all_links joined rest)
  all_joined sites joined site others rest all joins is = subst (AreAllLinks lines size) same all
    where
      same : all_links sites others ≡ all_links joined rest
      same =
          ap (λ (l : List LinksValue). map links_of sites ++ l) is
          ∙ (sym (append_assoc (map links_of sites) (links_of site ∷ []) rest)
          ∙ (ap (λ (l : List LinksValue). l ++ rest) (sym (map-append links_of sites (site ∷ [])))
          ∙ ap (λ (l : List (Cast D)). map links_of l ++ rest) (sym joins)))

  -- all have
  pub all_begun : (sites : List (Cast D)) (others : List LinksValue) → AreAllLinks lines size (all_links sites others) → others ≡ [] → AreAllLinks lines size (map links_of sites)
  all_begun sites others all is = subst (AreAllLinks lines size) (ap (λ (l : List LinksValue). map links_of sites ++ l) is ∙ append-nil (map links_of sites)) all

  pub got_links : (sites : List (Cast D)) (n : ℕ) (a : Cast D) → slice_get sites n ≡ Some a → slice_get (map links_of sites) n ≡ Some (links_of a)
  got_links sites n a here = slice_get-map links_of sites n ∙ ap (option_map links_of) here

  pub are_linked : (sites : List (Cast D)) → AreAllLinks lines size (map links_of sites) → AreLinked sites
  are_linked sites all = record {
    size = λ n a here. (all.own n (links_of a) (got_links sites n a here)).size_is ∙ (sym all.count ∙ length-map sites links_of);
    numbers = λ n a here. ap (λ k. k.0) (all.own n (links_of a) (got_links sites n a here)).me;
    lanes = λ n m a b here there apart. (all.links n m (links_of a) (links_of b) (got_links sites n a here) (got_links sites m b there) apart).lane;
  }
