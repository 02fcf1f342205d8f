-- In an act the rings of the links are looked into, one link after the other.
use Rattle.std.proofs.Common.{◌≡◌, ◌≢◌, ◌∙◌, ◌+◌, ◌≤◌, ◌==◌, ap, arith, refl, subst, sym, ℕ, Bool, true, false, not, [], append-nil}
use Rattle.std.specs.Prelude.{nat_lt}
use Rattle.std.proofs.lemmas.Bool.Decides.{nat_tests}
use Rattle.qs_link.specs.Lane.{DrawValue, Drawn}
use Rattle.qs_link.specs.Plan.{OutgoingValue, PutNone}
use Rattle.qs_packet.specs.declared.packet.Packet.{Packet}
use Rattle.rtrb.specs.Ring.{SameConsumer, SameProducer, known_free, known_items}
use Rattle.qs_cell_peers.specs.Links.{AreEmptied, IsSameNode, LinksValue, Pulls, Pushes, SameInto, SameOut, StayLinked, into_of, is_peer_of, out_of}
use Rattle.qs_cell_peers.specs.Peers.{is_peer}
use Rattle.qs_cell_peers.specs.Pulling.{IsEmptiedFrom, PullsFrom, PushesTo}
use Rattle.qs_cell_peers.proofs.Places.{peer_is}
use Rattle.qs_cell_peers.proofs.Putting.{put_none}

pub drawn_none : (d : DrawValue Packet) → Drawn [] d d
drawn_none d = record { on = []; inbox = append-nil d.inbox; received = sym (append-nil _); ring = ((refl, refl, refl, refl), refl) }

same_node : (links : LinksValue) → IsSameNode links links
same_node links = record { size = refl; me = refl }

same_then : (a b c : LinksValue) → IsSameNode a b → IsSameNode b c → IsSameNode a c
same_then a b c first second = record { size = second.size ∙ first.size; me = second.me ∙ first.me }

peer_then : (old new : LinksValue) (m : ℕ) → IsSameNode old new → is_peer_of old m ≡ true → is_peer_of new m ≡ true
peer_then old new m same peer = ap (λ k. is_peer k new.me.0 m) same.size ∙ (ap (λ n. is_peer old.size n.0 m) same.me ∙ peer)

-- ---- those of the nodes below a number

-- the rings of the links from these were looked into; all else is as it was
pub record PulledBelow (k : ℕ) (old new : LinksValue) : Type 0 where
  pub same : IsSameNode old new
  pub out : SameOut (λ m. true) old new
  pub into : (m : ℕ) → is_peer_of old m ≡ true → Drawn [] (into_of old m) (into_of new m)
  pub rest : SameInto (λ m. not (nat_lt m k)) old new
  pub emptied : (m : ℕ) → is_peer_of old m ≡ true → nat_lt m k ≡ true → known_items (into_of new m).ring ≡ []

pub pulled_none : (links : LinksValue) → PulledBelow 0 links links
pulled_none links = record {
  same = same_node links;
  out = λ m peer all. refl;
  into = λ m peer. drawn_none (into_of links m);
  rest = λ m peer all. refl;
  emptied = λ m peer low. absurd (let no : nat_lt m 0 ≡ true = low in grind (arith, nat_tests, no));
}

is_it : (m k : ℕ) → (m == k) ≡ true → m ≡ k
is_it m k is = grind (arith, nat_tests, is)

not_it : (m k : ℕ) → (m == k) ≡ false → not (m == k) ≡ true
not_it m k is = ap (λ (b : Bool). not b) is

not_below : (k : ℕ) → not (nat_lt k k) ≡ true
not_below k = grind (arith, nat_tests)

below_one : (m k : ℕ) → nat_lt m (k + 1) ≡ true → (m == k) ≡ false → nat_lt m k ≡ true
below_one m k low apart = grind (arith, nat_tests, low, apart)

rest_one : (m k : ℕ) → not (nat_lt m (k + 1)) ≡ true → (not (nat_lt m k) ≡ true) × ((m == k) ≡ false)
rest_one m k high = (grind (arith, nat_tests, high), grind (arith, nat_tests, high))

module _ (k : ℕ) (old mid new : LinksValue) (before : PulledBelow k old mid) (one : PullsFrom k mid new) where
  at : (m : ℕ) → is_peer_of old m ≡ true → is_peer_of mid m ≡ true
  at m peer = peer_then old mid m before.same peer

  -- what stood there
  mid_is : is_peer_of old k ≡ true → into_of mid k ≡ into_of old k
  mid_is peer = before.rest k peer (not_below k)

  pulled_more : PullsFrom k mid new → SameOut (λ m. true) old new
  pulled_more it = λ m peer all. it.out m (at m peer) refl ∙ before.out m peer refl

  into_more : (m : ℕ) → is_peer_of old m ≡ true → Drawn [] (into_of old m) (into_of new m)
  into_more m peer = by (m == k) refl
    where
      by : (b : Bool) → (m == k) ≡ b → Drawn [] (into_of old m) (into_of new m)
      by true is =
          let same = is_it m k is in
          subst (λ (j : ℕ). Drawn [] (into_of old j) (into_of new j)) (sym same)
          (let peer_k : is_peer_of old k ≡ true = subst (λ (j : ℕ). is_peer_of old j ≡ true) same peer in
          subst (λ (d : DrawValue Packet). Drawn [] d (into_of new k)) (mid_is peer_k) (one.into (at k peer_k)))
      by false is = subst (λ (d : DrawValue Packet). Drawn [] (into_of old m) d) (sym (one.others m (at m peer) (not_it m k is))) (before.into m peer)

  rest_more : SameInto (λ m. not (nat_lt m (k + 1))) old new
  rest_more m peer high = let it = rest_one m k high in one.others m (at m peer) (not_it m k it.1) ∙ before.rest m peer it.0

  emptied_more : IsEmptiedFrom k new → (m : ℕ) → is_peer_of old m ≡ true → nat_lt m (k + 1) ≡ true → known_items (into_of new m).ring ≡ []
  emptied_more here m peer low = by (m == k) refl
    where
      by : (b : Bool) → (m == k) ≡ b → known_items (into_of new m).ring ≡ []
      by true is =
          let same = is_it m k is in
          subst (λ (j : ℕ). known_items (into_of new j).ring ≡ []) (sym same) (here (peer_then mid new k one.same (at k (subst (λ (j : ℕ). is_peer_of old j ≡ true) same peer))))
      by false is = ap (λ (d : DrawValue Packet). known_items d.ring) (one.others m (at m peer) (not_it m k is)) ∙ before.emptied m peer (below_one m k low is)

  pub pulls_more : IsEmptiedFrom k new → PulledBelow (k + 1) old new
  pulls_more here = record { same = same_then old mid new before.same one.same; out = pulled_more one; into = into_more; rest = rest_more; emptied = emptied_more here }

  -- memory was refused at that one
  pub pulls_up_to : Pulls old new
  pulls_up_to = record { same = same_then old mid new before.same one.same; out = pulled_more one; into = into_more }

pub pulls_all : (k : ℕ) (old new : LinksValue) → PulledBelow k old new → Pulls old new
pulls_all k old new it = record { same = it.same; out = it.out; into = it.into }

pub emptied_all : (k : ℕ) (old new : LinksValue) → old.size ≤ k → PulledBelow k old new → AreEmptied new
emptied_all k old new most it m peer =
    let peer_old = peer_then new old m (record { size = sym it.same.size; me = sym it.same.me }) peer in
    it.emptied m peer_old (let low = (peer_is old.size old.me.0 m peer_old).0 in grind (arith, nat_tests, low, most))

-- ---- and pushed into

pub record PushedBelow (k : ℕ) (old new : LinksValue) : Type 0 where
  pub same : IsSameNode old new
  pub into : SameInto (λ m. true) old new
  pub out : (m : ℕ) → is_peer_of old m ≡ true → PutNone (out_of old m) (out_of new m)
  pub rest : SameOut (λ m. not (nat_lt m k)) old new
  pub full : (m : ℕ) → is_peer_of old m ≡ true → nat_lt m k ≡ true → (out_of new m).feed.outbox ≢ [] → known_free (out_of new m).feed.ring ≡ 0

pub pushed_none : (links : LinksValue) → PushedBelow 0 links links
pushed_none links = record {
  same = same_node links;
  into = λ m peer all. refl;
  out = λ m peer. put_none (out_of links m);
  rest = λ m peer all. refl;
  full = λ m peer low. absurd (let no : nat_lt m 0 ≡ true = low in grind (arith, nat_tests, no));
}

pub pushes_more : (k : ℕ) (old mid new : LinksValue) → PushedBelow k old mid → PushesTo k mid new → PushedBelow (k + 1) old new
pushes_more k old mid new before one = record { same = same_then old mid new before.same one.same; into = λ m peer all. one.into m (at m peer) refl ∙ before.into m peer refl; out = out_more; rest = rest_out; full = full_more }
  where
    at : (m : ℕ) → is_peer_of old m ≡ true → is_peer_of mid m ≡ true
    at m peer = peer_then old mid m before.same peer

    out_more : (m : ℕ) → is_peer_of old m ≡ true → PutNone (out_of old m) (out_of new m)
    out_more m peer = by (m == k) refl
      where
        by : (b : Bool) → (m == k) ≡ b → PutNone (out_of old m) (out_of new m)
        by true is =
            let same = is_it m k is in
            subst (λ (j : ℕ). PutNone (out_of old j) (out_of new j)) (sym same)
            (let peer_k : is_peer_of old k ≡ true = subst (λ (j : ℕ). is_peer_of old j ≡ true) same peer in
            subst (λ (o : OutgoingValue). PutNone o (out_of new k)) (before.rest k peer_k (not_below k)) (one.out (at k peer_k)))
        by false is = subst (λ (o : OutgoingValue). PutNone (out_of old m) o) (sym (one.others m (at m peer) (not_it m k is))) (before.out m peer)

    rest_out : SameOut (λ m. not (nat_lt m (k + 1))) old new
    rest_out m peer high = let it = rest_one m k high in one.others m (at m peer) (not_it m k it.1) ∙ before.rest m peer it.0

    full_more : (m : ℕ) → is_peer_of old m ≡ true → nat_lt m (k + 1) ≡ true → (out_of new m).feed.outbox ≢ [] → known_free (out_of new m).feed.ring ≡ 0
    full_more m peer low = by (m == k) refl
      where
        by : (b : Bool) → (m == k) ≡ b → (out_of new m).feed.outbox ≢ [] → known_free (out_of new m).feed.ring ≡ 0
        by true is =
            let same = is_it m k is in
            subst (λ (j : ℕ). (out_of new j).feed.outbox ≢ [] → known_free (out_of new j).feed.ring ≡ 0) (sym same) (one.full (at k (subst (λ (j : ℕ). is_peer_of old j ≡ true) same peer)))
        by false is = subst (λ (o : OutgoingValue). o.feed.outbox ≢ [] → known_free o.feed.ring ≡ 0) (sym (one.others m (at m peer) (not_it m k is))) (before.full m peer (below_one m k low is))

pub pushes_all : (k : ℕ) (old new : LinksValue) → old.size ≤ k → PushedBelow k old new → Pushes old new
pushes_all k old new most it = record {
  same = it.same;
  out = it.out;
  full = λ m peer. it.full m peer (let low = (peer_is old.size old.me.0 m peer).0 in grind (arith, nat_tests, low, most));
  into = it.into;
}

-- ---- the ends stay of their rings

same_out : (old new : OutgoingValue) → new ≡ old → SameProducer old.feed.ring new.feed.ring
same_out old new is = subst (λ (o : OutgoingValue). SameProducer old.feed.ring o.feed.ring) (sym is) ((refl, refl, refl, refl), refl)

same_into : (old new : DrawValue Packet) → new ≡ old → SameConsumer old.ring new.ring
same_into old new is = subst (λ (d : DrawValue Packet). SameConsumer old.ring d.ring) (sym is) ((refl, refl, refl, refl), refl)

pub pulled_linked : (old new : LinksValue) → Pulls old new → StayLinked old new
pulled_linked old new pulls = record {
  same = pulls.same;
  out = λ m peer. same_out (out_of old m) (out_of new m) (pulls.out m peer refl);
  into = λ m peer. (pulls.into m peer).ring;
}

pub pushed_linked : (old new : LinksValue) → Pushes old new → StayLinked old new
pushed_linked old new pushes = record {
  same = pushes.same;
  out = λ m peer. (pushes.out m peer).out.ring;
  into = λ m peer. same_into (into_of old m) (into_of new m) (pushes.into m peer refl);
}
