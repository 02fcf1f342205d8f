-- The links over the ends of nodes, one node after the other, until all have theirs.
use Rattle.std.proofs.Common.{◌≡◌, ◌≢◌, ◌⊎◌, ◌∙◌, ◌<◌, ◌+◌, ap, subst, sym, inl, inr, ℕ, true, List, [], ◌∷◌, ◌++◌, length, arith}
use Rattle.std.proofs.lemmas.List.{length_push}
use Rattle.std.specs.Prelude.{Some, slice_get}
use Rattle.qs_base.specs.declared.identifiers.NodeNo.{NodeNo}
use Rattle.qs_book_script.specs.declared.script.FaultLine.{FaultLine}
use Rattle.qs_cell_peers.proofs.Places.{is_peer_from}
use Rattle.qs_cell_peers.specs.Links.{LinksValue, into_of, is_peer_of, out_of}
use Rattle.qs_cell_peers.specs.Peers.{is_peer, place}
use Rattle.qs_link.specs.Lane.{DrawValue}
use Rattle.qs_link.specs.Plan.{OutgoingValue}
use Rattle.qs_packet.specs.declared.packet.Packet.{Packet}
use Rattle.qs_world_rounds.specs.Seats.{AreLinksOf}
use Rattle.qs_world_sites.proofs.Joining.{which}
use Rattle.qs_world_sites.proofs.Staying.{Got, got_at, got_below}
use Rattle.qs_world_sites.specs.Linking.{AreJoined, AreLinksOver, IsLinksOver, IsWide}
use Rattle.qs_world_sites.specs.Seats.{IsNewLink, plan_between}
use Rattle.qs_world_sites.specs.declared.linking.Ends.{Ends}

one : {A : Type 0} {x y : A} → Some x ≡ Some y → x ≡ y
one is = cc is

-- ---- one node more

-- the links that are made over its ends
module _ (size n : ℕ) (me : NodeNo) (ends : Ends) (l : LinksValue) (wide : IsWide size ends) (me_is : me.0 ≡ n) (l_size : l.size ≡ length ends.out + 1) (l_me : l.me ≡ me) where
  as_peer : (m : ℕ) → is_peer size n m ≡ true → is_peer_of l m ≡ true
  as_peer m peer = ap (λ (k : ℕ). is_peer k l.me.0 m) (l_size ∙ wide.out) ∙ (ap (λ (k : ℕ). is_peer size k m) (ap (λ (k : NodeNo). k.0) l_me ∙ me_is) ∙ peer)

  pub is_over : ((m : ℕ) → is_peer_of l m ≡ true → slice_get ends.out (place me.0 m) ≡ Some (out_of l m)) → ((m : ℕ) → is_peer_of l m ≡ true → slice_get ends.into (place me.0 m) ≡ Some (into_of l m)) → IsLinksOver size n ends l
  is_over out into = record {
    own = record { size_is = l_size ∙ wide.out; me = l_me ∙ ap (λ (k : ℕ). record { 0 = k }) me_is };
    out = λ m peer. subst (λ (k : ℕ). slice_get ends.out (place k m) ≡ Some (out_of l m)) me_is (out m (as_peer m peer));
    into = λ m peer. subst (λ (k : ℕ). slice_get ends.into (place k m) ≡ Some (into_of l m)) me_is (into m (as_peer m peer));
  }

pub more_over : (size : ℕ) (all : List Ends) (links : List LinksValue) (ends : Ends) (l : LinksValue) → AreLinksOver size all links → IsLinksOver size (length all) ends l → AreLinksOver size (all ++ ends ∷ []) (links ++ l ∷ [])
more_over size all links ends l over here = record {
  count = length_push links l ∙ (ap (λ (k : ℕ). k + 1) over.count ∙ sym (length_push all ends));
  each = λ n x y first second. by n x y (which all ends n x first) (which links l n y second);
}
  where
    by : (n : ℕ) (x : Ends) (y : LinksValue) → ((n < length all) × (slice_get all n ≡ Some x)) ⊎ ((n ≡ length all) × (ends ≡ x)) → ((n < length links) × (slice_get links n ≡ Some y)) ⊎ ((n ≡ length links) × (l ≡ y)) → IsLinksOver size n x y
    by n x y (inl (less, first)) (inl (under, second)) = over.each n x y first second
    by n x y (inl (less, first)) (inr (at, second)) = let same = over.count in absurd (omega (arith, less, at))
    by n x y (inr (at, first)) (inl (under, second)) = let same = over.count in absurd (omega (arith, under, at))
    by n x y (inr (at, first)) (inr (also, second)) =
        subst (λ (k : ℕ). IsLinksOver size k x y) (sym at) (subst (λ (z : Ends). IsLinksOver size (length all) z y) first (subst (IsLinksOver size (length all) ends) second here))

-- ---- all of them

module _ (lines : List FaultLine) (size : ℕ) (all : List Ends) (links : List LinksValue) (joined : AreJoined lines all) (long : length all ≡ size) (over : AreLinksOver (length all) all links) where
  ends_at : (n : ℕ) (l : LinksValue) → slice_get links n ≡ Some l → Got all n
  ends_at n l got = got_at all n (let less = got_below links n l got in let same = over.count in omega arith)

  peer : (n m : ℕ) (a b : LinksValue) → slice_get links m ≡ Some b → n ≢ m → is_peer (length all) n m ≡ true
  peer n m a b second apart = is_peer_from (length all) n m (let less = got_below links m b second in let same = over.count in omega arith) (λ e. apart (sym e))

  pub own_links : (n : ℕ) (l : LinksValue) → slice_get links n ≡ Some l → AreLinksOf size (record { 0 = n }) l
  own_links n l got = let x = ends_at n l got in subst (λ (k : ℕ). AreLinksOf k (record { 0 = n }) l) long (over.each n x.item l x.is got).own

  pub new_between : (n m : ℕ) (a b : LinksValue) → slice_get links n ≡ Some a → slice_get links m ≡ Some b → n ≢ m → IsNewLink (plan_between n m lines) (out_of a m) (into_of b n)
  new_between n m a b first second apart =
      let x = ends_at n a first in
      let y = ends_at m b second in
      let made = joined.made n m x.item y.item x.is y.is apart in
      let from_is : made.from ≡ out_of a m = one (sym made.out_is ∙ (over.each n x.item a x.is first).out m (peer n m a b second apart)) in
      let to_is : made.to ≡ into_of b n = one (sym made.into_is ∙ (over.each m y.item b y.is second).into n (peer m n b a first (λ e. apart (sym e)))) in
      subst (λ (o : OutgoingValue). IsNewLink (plan_between n m lines) o (into_of b n)) from_is
      (subst (λ (i : DrawValue Packet). IsNewLink (plan_between n m lines) made.from i) to_is made.is_new)
