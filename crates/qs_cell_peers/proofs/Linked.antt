-- Each end of a node's links stays of the ring that it is of, whatever is put and taken.
use Rattle.std.proofs.Common.{◌≡◌, ◌∙◌, ap, subst, sym, refl, ℕ, Bool, true, false, List, [], ◌∷◌, arith}
use Rattle.std.specs.Prelude.{◌==◌, not, Result, Ok, Err, OnErr, OnOk}
use Rattle.std.proofs.lemmas.Bool.Decides.{nat_tests}
use Rattle.qs_base.specs.declared.memory.NoMemory.{NoMemory}
use Rattle.qs_link.specs.Plan.{OutgoingValue}
use Rattle.qs_link.specs.Planned.{PutAll}
use Rattle.qs_packet.specs.declared.packet.Packet.{Packet}
use Rattle.rtrb.specs.Ring.{SameConsumer, SameProducer}
use Rattle.qs_cell_peers.specs.Links.{HasPut, HasPutSome, IsSameNode, LinksValue, SameInto, SameOut, StayLinked, into_of, is_peer_of, out_of}
use Rattle.qs_cell_peers.specs.Peers.{is_peer}

same_out : (old new : OutgoingValue) → new ≡ old → SameProducer old.feed.ring new.feed.ring
same_out old new is = subst (λ (o : OutgoingValue). SameProducer old.feed.ring o.feed.ring) (sym is) ((refl, refl, refl, refl), refl)

same_into : (old new : LinksValue) (m : ℕ) → (into_of new m).ring ≡ (into_of old m).ring → SameConsumer (into_of old m).ring (into_of new m).ring
same_into old new m is = subst (λ r. SameConsumer (into_of old m).ring r) (sym is) ((refl, refl, refl, refl), refl)

pub linked_none : (links : LinksValue) → StayLinked links links
linked_none links = record {
  same = record { size = refl; me = refl };
  out = λ m peer. ((refl, refl, refl, refl), refl);
  into = λ m peer. ((refl, refl, refl, refl), refl);
}

pub linked_as : (old new : LinksValue) → new ≡ old → StayLinked old new
linked_as old new is = subst (StayLinked old) (sym is) (linked_none old)

peer_on : (old new : LinksValue) (m : ℕ) → IsSameNode old new → is_peer_of old m ≡ true → is_peer_of new m ≡ true
peer_on old new m same peer = ap (λ k. is_peer k new.me.0 m) same.size ∙ (ap (λ n. is_peer old.size n.0 m) same.me ∙ peer)

pub linked_on : (a b c : LinksValue) → StayLinked a b → StayLinked b c → StayLinked a c
linked_on a b c first second = record {
  same = record { size = second.same.size ∙ first.same.size; me = second.same.me ∙ first.same.me };
  out = λ m peer. grind (arith, first.out m peer, second.out m (peer_on a b m first.same peer));
  into = λ m peer. grind (arith, first.into m peer, second.into m (peer_on a b m first.same peer));
}

-- ---- packets are put

put_ring : (packets : List Packet) (old new : OutgoingValue) → PutAll packets old new → SameProducer old.feed.ring new.feed.ring
put_ring [] old new none = none.out.ring
put_ring (packet ∷ packets) old new then = grind (arith, then.none.out.ring, then.one.out.ring, put_ring packets then.after new then.others)

pub put_linked : (packets : List Packet) (old new : LinksValue) → HasPut packets old new → StayLinked old new
put_linked packets old new put = record {
  same = put.same;
  out = λ m peer. put_ring _ (out_of old m) (out_of new m) (put.put m peer);
  into = λ m peer. same_into old new m (ap (λ d. d.ring) (put.into m peer refl));
}

-- all of them, or as many as memory was had for
pub put_linked_by : {T : Type 0} (result : Result T NoMemory) (packets : List Packet) (old new : LinksValue) → OnOk result (HasPut packets old new) → OnErr result (HasPutSome packets old new) → StayLinked old new
put_linked_by (Ok t) packets old new put some = put_linked packets old new put
put_linked_by (Err e) packets old new put some = put_linked some.front old new some.put

-- ---- a packet is taken

pub taken_linked : (m : ℕ) (old new : LinksValue) → IsSameNode old new → SameOut (λ k. true) old new → SameInto (λ k. not (k == m)) old new → (into_of new m).ring ≡ (into_of old m).ring → StayLinked old new
taken_linked m old new same out others ring = record {
  same = same;
  out = λ k peer. same_out (out_of old k) (out_of new k) (out k peer refl);
  into = λ k peer. by k peer (k == m) refl;
}
  where
    number : (x y : ℕ) → (x == y) ≡ true → x ≡ y
    number x y equal = grind (arith, nat_tests, equal)

    by : (k : ℕ) → is_peer_of old k ≡ true → (b : Bool) → (k == m) ≡ b → SameConsumer (into_of old k).ring (into_of new k).ring
    by k peer true is = same_into old new k (subst (λ (j : ℕ). (into_of new j).ring ≡ (into_of old j).ring) (sym (number k m is)) ring)
    by k peer false is = same_into old new k (ap (λ d. d.ring) (others k peer (ap (λ (b : Bool). not b) is)))
