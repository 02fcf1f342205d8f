-- Packets carry only what the session keeps, so they have a spelling where all of that has.
use Rattle.std.proofs.Common.{◌≡◌, ◌≢◌, ◌⊎◌, Bool, ℕ, ◌+◌, ◌-◌, ◌==◌, ◌<◌, ◌^◌, true, false, refl, sym, subst, ap, ◌∙◌, arith, List, [], ◌∷◌, ◌++◌, length, take, drop, map, Some, inl, inr, if◌then◌else◌}
use Rattle.std.specs.List.{All}
use Rattle.std.proofs.lemmas.Bool.{cases_eq}
use Rattle.std.proofs.lemmas.Bool.Decides.{nat_tests}
use Rattle.std.proofs.lemmas.List.{length-append, length-drop, length-take}
use Rattle.std.proofs.lemmas.List.Elements.{All-nil, All-cons, All-head, All-tail, All-push, All-drop}
use Rattle.qs_base.specs.declared.identifiers.NodeNo.{NodeNo}
use Rattle.qs_session_channels.specs.End
use Rattle.qs_session_channels.specs.End.{End, Answer, OldPeer, NewPeer, OldSelf, Repeat, Early, fresh, sent, sent_packet, answer, left, received, tick_packets, ticked, idle_packets, packet, again}
use Rattle.qs_packet.specs.Grammar.{IsMessage, is_hello, IsPacket}
use Rattle.qs_packet.specs.declared.message.Message.{Message}
use Rattle.qs_packet.specs.declared.message.Message.TheVariants as messages
use Rattle.qs_packet.specs.declared.packet.Packet.{Packet}
use Rattle.qs_node_spelled.specs.Spelled.{IsSendable}
use Rattle.qs_record.specs.Grammar.{is_node}
use Rattle.qs_session.specs.Seen.{SessionValue, seen, IsFrom}
use Rattle.qs_session.specs.Spelled.{IsSpelled}

pub spelled_new : (me peer : NodeNo) (mine : ℕ) → is_node me.0 ≡ true → is_node peer.0 ≡ true → mine < 2 ^ 62 → IsSpelled (record { me = me; peer = peer; end = fresh mine })
spelled_new me peer mine a b below = record { me = a; peer = b; mine = below; known = omega arith; taken = omega arith; numbers = omega arith; kept = All-nil IsSendable }

one : (s : SessionValue) (to_inc number stamp : ℕ) (message : Message) (p : Packet) → IsSpelled s → to_inc < 2 ^ 62 → number < 2 ^ 62 → stamp < 2 ^ 62 → IsMessage message → is_hello message ≡ (number == 0)
    → seen p ≡ packet s.end to_inc number stamp message → IsFrom s p → IsPacket p
one s to_inc number stamp message p o below_to below_number below_stamp spelled numbered is from = record {
  from = subst (λ (n : NodeNo). is_node n.0 ≡ true) (sym from.0) o.me;
  inc = subst (λ (n : ℕ). n < 2 ^ 62) (sym (ap (λ (q : End.Packet Message). q.inc) is)) o.mine;
  to = subst (λ (n : NodeNo). is_node n.0 ≡ true) (sym from.1) o.peer;
  to_inc = subst (λ (n : ℕ). n < 2 ^ 62) (sym (ap (λ (q : End.Packet Message). q.to_inc) is)) below_to;
  number = subst (λ (n : ℕ). n < 2 ^ 62) (sym (ap (λ (q : End.Packet Message). q.number) is)) below_number;
  ack = subst (λ (n : ℕ). n < 2 ^ 62) (sym (ap (λ (q : End.Packet Message). q.ack) is)) o.taken;
  stamp = subst (λ (n : ℕ). n < 2 ^ 62) (sym (ap (λ (q : End.Packet Message). q.stamp) is)) below_stamp;
  message = subst IsMessage (sym (ap (λ (q : End.Packet Message). q.message) is)) spelled;
  numbered = ap (λ (q : End.Packet Message). is_hello q.message) is ∙ numbered ∙ ap (λ (n : ℕ). n == 0) (sym (ap (λ (q : End.Packet Message). q.number) is));
}

pub spelled_send : (s : SessionValue) (message : Message) → IsSpelled s → IsSendable message → s.end.acked + length s.end.kept + 1 < 2 ^ 62 → IsSpelled (record s { end = sent s.end message })
spelled_send s message o sendable room = way (cases_eq s.end.known 0)
  where
    more : s.end.acked + length (s.end.kept ++ message ∷ []) < 2 ^ 62
    more = grind (arith, room, length-append {A = Message} s.end.kept (message ∷ []))

    all : All IsSendable (s.end.kept ++ message ∷ [])
    all = All-push IsSendable s.end.kept message o.kept sendable

    way : (s.end.known ≡ 0) ⊎ (s.end.known ≢ 0) → IsSpelled (record s { end = sent s.end message })
    way (inl unmet) = let e : (s.end.known == 0) ≡ true = grind (arith, nat_tests, unmet) in rw e (record { me = o.me; peer = o.peer; mine = o.mine; known = o.known; taken = o.taken; numbers = more; kept = all })
    way (inr met) = let e : (s.end.known == 0) ≡ false = grind (arith, nat_tests, met) in rw e (record { me = o.me; peer = o.peer; mine = o.mine; known = o.known; taken = o.taken; numbers = more; kept = all })

pub spelled_packet : (s : SessionValue) (message : Message) (stamp : ℕ) (p : Packet) → IsSpelled s → IsSendable message → stamp < 2 ^ 62 → s.end.acked + length s.end.kept + 1 < 2 ^ 62
    → Some (seen p) ≡ sent_packet s.end message stamp → IsFrom s p → IsPacket p
spelled_packet s message stamp p o sendable below room is from =
    one s s.end.known (s.end.acked + length s.end.kept + 1) stamp message p o o.known room below sendable.0 (grind (arith, nat_tests, sendable.1)) (grind (arith, nat_tests, is)) from

-- a later incarnation, and an acknowledgement, leave only some of what was kept
acked_below : (acked ack : ℕ) (kept : List Message) → acked + length kept < 2 ^ 62 → acked + length (take (ack - acked) kept) + length (drop (ack - acked) kept) < 2 ^ 62
acked_below acked ack kept below = grind (arith, below, split (ack - acked) kept)
  where
    split : (n : ℕ) (xs : List Message) → length (take n xs) + length (drop n xs) ≡ length xs
    split n xs = grind (arith, length-drop {A = Message} n xs, length-take n xs)

heard : (s : SessionValue) (ack taken : ℕ) (owed : Bool) → IsSpelled s → taken < 2 ^ 62 → IsSpelled (record s { end = End.acknowledged s.end ack owed taken })
heard s ack taken owed o below = record {
  me = o.me;
  peer = o.peer;
  mine = o.mine;
  known = o.known;
  taken = below;
  numbers = acked_below s.end.acked ack s.end.kept o.numbers;
  kept = All-drop IsSendable (ack - s.end.acked) s.end.kept o.kept;
}

kept_some : (b : Bool) (kept : List Message) → All IsSendable kept → All IsSendable (if b then kept else [])
kept_some true kept all = all
kept_some false kept all = All-nil IsSendable

fewer : (b : Bool) (kept : List Message) (n : ℕ) → length kept < n → 0 + length (if b then kept else []) < n
fewer true kept n below = omega (arith, below)
fewer false kept n below = omega (arith, below)

answered : (s : SessionValue) (p : Packet) (x : Answer Message) → IsSpelled s → IsPacket p → answer s.end (seen p) ≡ x → IsSpelled (record s { end = left x s.end (seen p) })
answered s p (OldPeer known got) o q is = record { me = o.me; peer = o.peer; mine = o.mine; known = o.known; taken = o.taken; numbers = o.numbers; kept = o.kept }
answered s p (NewPeer old new) o q is = record {
  me = o.me;
  peer = o.peer;
  mine = o.mine;
  known = grind (arith, nat_tests, is, q.inc);
  taken = omega arith;
  numbers = fewer (old == 0) s.end.kept (2 ^ 62) (omega (arith, o.numbers));
  kept = kept_some (old == 0) s.end.kept o.kept;
}
answered s p (OldSelf mine got) o q is = record { me = o.me; peer = o.peer; mine = o.mine; known = o.known; taken = o.taken; numbers = o.numbers; kept = o.kept }
answered s p End.Hello o q is = heard s p.ack s.end.taken s.end.owed o o.taken
answered s p (Repeat number) o q is = heard s p.ack s.end.taken true o o.taken
answered s p (Early number expected) o q is = heard s p.ack s.end.taken true o o.taken
answered s p (End.Message x) o q is = heard s p.ack (s.end.taken + 1) true o (grind (arith, nat_tests, is, q.number))

pub spelled_receive : (s : SessionValue) (p : Packet) → IsSpelled s → IsPacket p → IsSpelled (record s { end = received s.end (seen p) })
spelled_receive s p o q = answered s p (answer s.end (seen p)) o q refl

head_is : {A : Type 0} → (x y : A) (xs ys : List A) → x ∷ xs ≡ y ∷ ys → (x ≡ y) × (xs ≡ ys)
head_is x y xs ys is = grind (arith, is)

again_spelled : (s : SessionValue) (stamp k : ℕ) (xs : List Message) (ps : List Packet) → IsSpelled s → stamp < 2 ^ 62 → k + length xs < 2 ^ 62 → All IsSendable xs → map seen ps ≡ again s.end stamp k xs → All (IsFrom s) ps → All IsPacket ps
again_spelled s stamp k xs [] o below room all is from = All-nil IsPacket
again_spelled s stamp k [] (p ∷ ps) o below room all is from = absurd (grind (arith, is))
again_spelled s stamp k (x ∷ xs) (p ∷ ps) o below room all is from =
    let e = head_is _ _ _ _ is in
    let x_is = All-head IsSendable x xs all in
    All-cons IsPacket p ps
    (one s s.end.known (k + 1) stamp x p o o.known (grind (arith, room)) below x_is.0 (grind (arith, nat_tests, x_is.1)) e.0 (All-head (IsFrom s) p ps from))
    (again_spelled s stamp (k + 1) xs ps o below (grind (arith, room)) (All-tail IsSendable x xs all) e.1 (All-tail (IsFrom s) p ps from))

hello_spelled : (s : SessionValue) (to_inc stamp : ℕ) (ps : List Packet) → IsSpelled s → stamp < 2 ^ 62 → to_inc < 2 ^ 62 → map seen ps ≡ packet s.end to_inc 0 stamp messages.Hello ∷ [] → All (IsFrom s) ps → All IsPacket ps
hello_spelled s to_inc stamp [] o below below_to is from = All-nil IsPacket
hello_spelled s to_inc stamp (p ∷ []) o below below_to is from =
    All-cons IsPacket p [] (one s to_inc 0 stamp messages.Hello p o below_to (omega arith) below (tt, tt) refl (head_is _ _ _ _ is).0 (All-head (IsFrom s) p [] from)) (All-nil IsPacket)
hello_spelled s to_inc stamp (p ∷ q ∷ ps) o below below_to is from = absurd (grind (arith, is))

none_spelled : (s : SessionValue) (ps : List Packet) → map seen ps ≡ [] → All IsPacket ps
none_spelled s [] is = All-nil IsPacket
none_spelled s (p ∷ ps) is = absurd (grind (arith, is))

pub spelled_tick : (s : SessionValue) (stamp : ℕ) (ps : List Packet) → IsSpelled s → stamp < 2 ^ 62 → map seen ps ≡ tick_packets messages.Hello s.end stamp → All (IsFrom s) ps → All IsPacket ps
spelled_tick s stamp ps o below is from = unmet (cases_eq s.end.known 0)
  where
    idle : (owed met : Bool) → map seen ps ≡ (if owed then packet s.end s.end.known 0 stamp messages.Hello ∷ [] else if met then [] else packet s.end 0 0 stamp messages.Hello ∷ []) → All IsPacket ps
    idle true met all = hello_spelled s s.end.known stamp ps o below o.known all from
    idle false true all = none_spelled s ps all
    idle false false all = hello_spelled s 0 stamp ps o below (omega arith) all from

    kept : s.end.known ≢ 0 → (length s.end.kept ≡ 0) ⊎ (length s.end.kept ≢ 0) → All IsPacket ps
    kept met (inl none) = idle s.end.owed s.end.met (is ∙ grind (arith, nat_tests, met, none))
    kept met (inr some) = again_spelled s stamp s.end.acked s.end.kept ps o below o.numbers o.kept (is ∙ grind (arith, nat_tests, met, some)) from

    unmet : (s.end.known ≡ 0) ⊎ (s.end.known ≢ 0) → All IsPacket ps
    unmet (inl zero) = hello_spelled s 0 stamp ps o below (omega arith) (is ∙ grind (arith, nat_tests, zero)) from
    unmet (inr met) = kept met (cases_eq (length s.end.kept) 0)

pub spelled_ticked : (s : SessionValue) → IsSpelled s → IsSpelled (record s { end = ticked s.end })
spelled_ticked s o = record { me = o.me; peer = o.peer; mine = o.mine; known = o.known; taken = o.taken; numbers = o.numbers; kept = o.kept }
