-- Packets are put to the links of a node, one after the other.
use Rattle.std.proofs.Common.{◌≡◌, ℕ, zero, suc, ◌+◌, ◌<◌, ◌==◌, Bool, true, false, List, [], ◌∷◌, ◌++◌, refl, sym, ap, subst, ◌∙◌, append_assoc, append-nil, arith, drop, get_or, length, set, take}
use Rattle.std.specs.List.{filter, flat_map}
use Rattle.std.proofs.lemmas.Bool.{eqb-false, eqb-true}
use Rattle.std.proofs.lemmas.List.{get_or_read, length-set, take-append-drop, take_more}
use Rattle.std.proofs.lemmas.List.Concat.{flat_map-append}
use Rattle.std.proofs.lemmas.List.Elements.{filter-append}
use Rattle.qs_base.specs.declared.identifiers.NodeNo.{NodeNo}
use Rattle.qs_link.specs.Lane.{DrawValue, FeedValue, Fed}
use Rattle.qs_link.specs.Plan.{OutgoingValue, PutNone, PutOne}
use Rattle.qs_link.specs.Planned.{PutAll}
use Rattle.qs_link.proofs.Feeding.{fed_trans}
use Rattle.qs_node_step.specs.declared.trace.Step.{Step}
use Rattle.qs_packet.specs.declared.packet.Packet.{Packet}
use Rattle.qs_cell_peers.specs.Links.{HasPut, HasPutSome, LinksValue, is_peer_of, out_of, puts_of}
use Rattle.qs_cell_peers.specs.NoEnds.{no_out}
use Rattle.qs_cell_peers.specs.Peers.{is_peer, is_to, place}
use Rattle.qs_cell_peers.proofs.Places.{elsewhere, peer_is, place_below, there}

-- ---- one link

none_fed : (f : FeedValue Packet) → Fed [] f f
none_fed f = record { on = []; outbox = append-nil f.outbox; sent = sym (append-nil _); ring = ((refl, refl, refl, refl), refl) }

pub put_none : (o : OutgoingValue) → PutNone o o
put_none o = record { out = none_fed o.feed; held = refl; count = refl; plan = refl }

pub none_then : (o p q : OutgoingValue) → PutNone o p → PutNone p q → PutNone o q
none_then o p q a b = record { out = fed_trans [] [] o.feed p.feed q.feed a.out b.out; held = b.held ∙ a.held; count = b.count ∙ a.count; plan = b.plan ∙ a.plan }

none_first : (ys : List Packet) (o p q : OutgoingValue) → PutNone o p → PutAll ys p q → PutAll ys o q
none_first [] o p q a b = none_then o p q a b
none_first (y ∷ ys) o p q a b = record { pushed = b.pushed; after = b.after; none = none_then o p b.pushed a b.none; one = b.one; others = b.others }

pub all_more : (xs ys : List Packet) (o p q : OutgoingValue) → PutAll xs o p → PutAll ys p q → PutAll (xs ++ ys) o q
all_more [] ys o p q a b = none_first ys o p q a b
all_more (x ∷ xs) ys o p q a b = record { pushed = a.pushed; after = a.after; none = a.none; one = a.one; others = all_more xs ys a.after p q a.others b }

-- ---- all links of the node

abbrev pub links : NodeNo → List OutgoingValue → List (DrawValue Packet) → LinksValue
links n out into = record { size = length out + 1; me = n; out = out; into = into }

-- a packet is put to the link of its node
pub put_there : (n : NodeNo) (out : List OutgoingValue) (into : List (DrawValue Packet)) (packet : Packet) (at : ℕ) (old x : OutgoingValue) → n.0 < length out + 1
    → is_peer (length out + 1) n.0 packet.to.0 ≡ true → at ≡ place n.0 packet.to.0 → old ≡ get_or out at old → PutOne packet old x → HasPut (packet ∷ []) (links n out into) (links n (set out at x) into)
put_there n out into packet at old x lt peer at_is old_is one = subst (λ (i : ℕ). HasPut (packet ∷ []) (links n out into) (links n (set out i x) into)) (sym at_is) (record {
  same = record { size = ap (λ (k : ℕ). k + 1) (length-set out (place n.0 packet.to.0) x); me = refl };
  put = λ m peer_m. by m peer_m (packet.to.0 == m) refl;
  into = λ m peer_m all. refl;
})
  where
    new : LinksValue
    new = links n (set out (place n.0 packet.to.0) x) into

    here : old ≡ out_of (links n out into) packet.to.0
    here = get_or_read out (place n.0 packet.to.0) old (place_below (length out) n.0 packet.to.0 lt peer) (subst (λ (i : ℕ). old ≡ get_or out i old) at_is old_is) no_out

    by : (m : ℕ) → is_peer (length out + 1) n.0 m ≡ true → (b : Bool) → (packet.to.0 == m) ≡ b → PutAll (filter (is_to m) (packet ∷ [])) (out_of (links n out into) m) (out_of (links n (set out (place n.0 packet.to.0) x) into) m)
    by m peer_m true is = rw is (subst (λ (k : ℕ). PutAll (packet ∷ []) (out_of (links n out into) k) (out_of (links n (set out (place n.0 packet.to.0) x) into) k)) (eqb-true packet.to.0 m is)
        (subst (λ (o : OutgoingValue). PutAll (packet ∷ []) o (out_of (links n (set out (place n.0 packet.to.0) x) into) packet.to.0)) here
        (subst (λ (o : OutgoingValue). PutAll (packet ∷ []) old o) (sym (there out n.0 packet.to.0 x no_out lt peer)) (record { pushed = old; after = x; none = put_none old; one = one; others = put_none x }))))
    by m peer_m false is = rw is (subst (λ (o : OutgoingValue). PutNone (out_of (links n out into) m) o)
        (sym (elsewhere out n.0 packet.to.0 x no_out m (peer_is (length out + 1) n.0 packet.to.0 peer).1 (peer_is (length out + 1) n.0 m peer_m).1 (λ e. eqb-false packet.to.0 m is (sym e)))) (put_none (out_of (links n out into) m)))

pub put_more : (xs ys : List Packet) (old mid new : LinksValue) → HasPut xs old mid → HasPut ys mid new → HasPut (xs ++ ys) old new
put_more xs ys old mid new a b = record {
  same = record { size = b.same.size ∙ a.same.size; me = b.same.me ∙ a.same.me };
  put = λ m peer. subst (λ (l : List Packet). PutAll l (out_of old m) (out_of new m)) (sym (filter-append (is_to m) xs ys))
      (all_more (filter (is_to m) xs) (filter (is_to m) ys) (out_of old m) (out_of mid m) (out_of new m) (a.put m peer) (b.put m (still m peer)));
  into = λ m peer all. b.into m (still m peer) all ∙ a.into m peer all;
}
  where
    still : (m : ℕ) → is_peer_of old m ≡ true → is_peer_of mid m ≡ true
    still m peer = ap (λ (k : ℕ). is_peer k mid.me.0 m) a.same.size ∙ (ap (λ (n : NodeNo). is_peer old.size n.0 m) a.same.me ∙ peer)

-- what was put of a list before memory was refused
pub put_some : (packets : List Packet) (i : ℕ) (old mid new : LinksValue) → HasPut (take i packets) old mid → new ≡ mid → HasPutSome packets old new
put_some packets i old mid new put same = record { front = take i packets; rest = drop i packets; is = sym (take-append-drop i packets); put = subst (λ (v : LinksValue). HasPut (take i packets) old v) (sym same) put }

-- ---- what steps put, step by step

pub more_puts : (steps : List Step) (i : ℕ) (d : Step) → i < length steps → d ≡ get_or steps i d → flat_map puts_of (take (i + 1) steps) ≡ flat_map puts_of (take i steps) ++ d.put
more_puts steps i d lt is = ap (flat_map puts_of) (take_more steps i d lt ∙ ap (λ (s : Step). take i steps ++ s ∷ []) (sym is))
    ∙ (flat_map-append puts_of (take i steps) (d ∷ []) ∙ ap (λ (l : List Packet). flat_map puts_of (take i steps) ++ l) (append-nil d.put))

split_at : (steps : List Step) (i : ℕ) (d : Step) → i < length steps → take i steps ++ get_or steps i d ∷ drop (suc i) steps ≡ steps
split_at [] i d lt = absurd (omega (arith, lt))
split_at (step ∷ steps) zero d lt = refl
split_at (step ∷ steps) (suc i) d lt = ap (λ (l : List Step). step ∷ l) (split_at steps i d (omega (arith, lt)))

pub some_puts : (steps : List Step) (i : ℕ) (d : Step) (old mid new : LinksValue) → i < length steps → d ≡ get_or steps i d → HasPut (flat_map puts_of (take i steps)) old mid
    → HasPutSome d.put mid new → HasPutSome (flat_map puts_of steps) old new
some_puts steps i d old mid new lt is put some = record {
  front = before ++ some.front;
  rest = some.rest ++ behind;
  is = ap (flat_map puts_of) (sym (ap (λ (s : Step). take i steps ++ s ∷ drop (suc i) steps) is ∙ split_at steps i d lt))
      ∙ (flat_map-append puts_of (take i steps) (d ∷ drop (suc i) steps)
      ∙ (ap (λ (l : List Packet). before ++ (l ++ behind)) some.is
      ∙ (ap (λ (l : List Packet). before ++ l) (append_assoc some.front some.rest behind) ∙ sym (append_assoc before some.front (some.rest ++ behind)))));
  put = put_more before some.front old mid new put some.put;
}
  where
    before : List Packet
    before = flat_map puts_of (take i steps)

    behind : List Packet
    behind = flat_map puts_of (drop (suc i) steps)
