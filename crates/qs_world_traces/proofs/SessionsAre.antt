-- The sessions of a cell are its node's ends.
use Rattle.std.proofs.Common.{◌≡◌, ℕ, ◌==◌, Bool, true, false, List, [], ◌∷◌, ◌++◌, Option, Some, None, refl, sym, ap, subst, ◌∙◌, append_assoc, if◌then◌else◌}
use Rattle.std.specs.Prelude.{map, option_map, option_to_list, reverse}
use Rattle.std.proofs.lemmas.Bool.{eqb-true}
use Rattle.std.proofs.lemmas.List.{map-append}
use Rattle.qs_session_channels.specs.End.{End, Packet, answer, left, received, sent, sent_packet, tick_packets, ticked}
use Rattle.qs_session_channels.specs.Network.{Network, with_at, with_at2}
use Rattle.qs_base_lemmas.proofs.Tests.{eqb-self}
use Rattle.qs_packet.specs.declared.message.Message.{Message}
use Rattle.qs_packet.specs.declared.message.Message.TheVariants as messages
use Rattle.qs_world_packets.specs.PacketMoves.{send_all, send_next}
use Rattle.qs_world_packets.specs.PacketSessions.{plain_end, plain_packet}
use Rattle.qs_world_packets.specs.PacketWorld.{hello}
use Rattle.qs_node_step.specs.declared.event.Sending.{Sending}
use Rattle.qs_world.specs.World.{Parcel}
use Rattle.qs_cell_peers.specs.Sessions.{Ends, all_sent, one_sent, sent_to}
use Rattle.qs_world_traces.specs.Sessions.{AreEnds, EachReceives, EachSends, EachTicks}
use Rattle.qs_world_packets.proofs.SessionsPlain.{is_plain}
use mathlib.Core.List.{reverse_aux}

-- ---- lists

turned : {A : Type 0} (xs ys : List A) → reverse_aux xs ys ≡ reverse xs ++ ys
turned [] ys = refl
turned {A} (x ∷ xs) ys = turned xs (x ∷ ys) ∙ (sym (append_assoc (reverse xs) (x ∷ []) ys) ∙ ap (λ (l : List A). l ++ ys) (sym (turned xs (x ∷ []))))

turned_append : {A : Type 0} (xs ys zs : List A) → reverse_aux (xs ++ ys) zs ≡ reverse_aux ys (reverse_aux xs zs)
turned_append [] ys zs = refl
turned_append (x ∷ xs) ys zs = turned_append xs ys (x ∷ zs)

-- ---- one place

-- the ends after one of them changed
at_one : (peers : ℕ → Bool) (n to : ℕ) (net : Network Parcel) (ends : Ends) (e : End Message) (d : End Parcel) → AreEnds peers n net ends → e ≡ plain_end d → (m : ℕ) → peers m ≡ true → with_at ends to e m ≡ plain_end (with_at2 net.end n to d n m)
at_one peers n to net ends e d are is m peer = rw (eqb-self n) (by (m == to))
  where
    by : (b : Bool) → (if b then e else ends m) ≡ plain_end (if b then d else net.end n m)
    by true = is
    by false = are m peer

-- one that is no peer's changed
at_none : (peers : ℕ → Bool) (n to : ℕ) (net : Network Parcel) (ends : Ends) (d : End Parcel) → AreEnds peers n net ends → peers to ≡ false → (m : ℕ) → peers m ≡ true → ends m ≡ plain_end (with_at2 net.end n to d n m)
at_none peers n to net ends d are none m peer = rw (eqb-self n) (by (m == to) (apart m to peer none))
  where
    apart : (m to : ℕ) → peers m ≡ true → peers to ≡ false → (m == to) ≡ false
    apart m to peer none = off (m == to) (λ is. cc (peer, none, ap peers (eqb-true m to is)))
      where
        off : (b : Bool) → (b ≡ true → true ≡ false) → b ≡ false
        off true h = absurd (cc (h refl))
        off false h = refl

    by : (b : Bool) → b ≡ false → ends m ≡ plain_end (if b then d else net.end n m)
    by true is = absurd (cc is)
    by false is = are m peer

-- ---- a step sends

one_out : (o : Option (Packet Parcel)) → ◌≡◌ {A = List (Packet Message)} (map plain_packet (option_to_list o)) (option_to_list (option_map plain_packet o))
one_out None = refl
one_out (Some p) = refl

one_turned : (o : Option (Packet Message)) (zs : List (Packet Message)) → reverse_aux (option_to_list o) zs ≡ option_to_list o ++ zs
one_turned None zs = refl
one_turned (Some p) zs = refl

module _ (peers : ℕ → Bool) (n stamp : ℕ) where
  one_are : (net : Network Parcel) (ends : Ends) (s : Sending) → AreEnds peers n net ends → AreEnds peers n (send_next n stamp net s) (one_sent peers ends s)
  one_are net ends s are m peer = by (peers s.to.0) refl
    where
      by : (b : Bool) → peers s.to.0 ≡ b → (if b then with_at ends s.to.0 (sent (ends s.to.0) s.message) else ends) m ≡ plain_end ((send_next n stamp net s).end n m)
      by true is = at_one peers n s.to.0 net ends (sent (ends s.to.0) s.message) (sent (net.end n s.to.0) (record { stamp = stamp; message = s.message })) are
          (ap (λ (e : End Message). sent e s.message) (are s.to.0 is) ∙ is_plain.sends (net.end n s.to.0) (record { stamp = stamp; message = s.message })) m peer
      by false is = at_none peers n s.to.0 net ends (sent (net.end n s.to.0) (record { stamp = stamp; message = s.message })) are is m peer

  -- the packet of one message
  one_packet : (net : Network Parcel) (ends : Ends) (s : Sending) → AreEnds peers n net ends → peers s.to.0 ≡ true
      → ◌≡◌ {A = List (Packet Message)} (map plain_packet (option_to_list (sent_packet (net.end n s.to.0) (record { stamp = stamp; message = s.message }) stamp))) (option_to_list (sent_packet (ends s.to.0) s.message stamp))
  one_packet net ends s are peer = one_out (sent_packet (net.end n s.to.0) (record { stamp = stamp; message = s.message }) stamp)
      ∙ ap (λ (o : Option (Packet Message)). option_to_list o) (sym (is_plain.packets (net.end n s.to.0) (record { stamp = stamp; message = s.message }) stamp) ∙ ap (λ (e : End Message). sent_packet e s.message stamp) (sym (are s.to.0 peer)))

  one_there : (net : Network Parcel) (ends : Ends) (s : Sending) (m : ℕ) → AreEnds peers n net ends → peers m ≡ true
      → map plain_packet ((send_next n stamp net s).packets n m) ≡ (if m == s.to.0 then option_to_list (sent_packet (ends s.to.0) s.message stamp) else []) ++ map plain_packet (net.packets n m)
  one_there net ends s m are peer = rw (eqb-self n) (by (m == s.to.0) (eqb-true m s.to.0))
    where
      by : (b : Bool) → (b ≡ true → m ≡ s.to.0)
          → map plain_packet (if b then option_to_list (sent_packet (net.end n s.to.0) (record { stamp = stamp; message = s.message }) stamp) ++ net.packets n s.to.0 else net.packets n m)
          ≡ (if b then option_to_list (sent_packet (ends s.to.0) s.message stamp) else []) ++ map plain_packet (net.packets n m)
      by true is = map-append plain_packet (option_to_list (sent_packet (net.end n s.to.0) (record { stamp = stamp; message = s.message }) stamp)) (net.packets n s.to.0)
          ∙ (ap (λ (l : List (Packet Message)). l ++ map plain_packet (net.packets n s.to.0)) (one_packet net ends s are (subst (λ (k : ℕ). peers k ≡ true) (is refl) peer))
          ∙ ap (λ (k : ℕ). option_to_list (sent_packet (ends s.to.0) s.message stamp) ++ map plain_packet (net.packets n k)) (sym (is refl)))
      by false is = refl

  each_one : (b : Bool) (o : Option (Packet Message)) (zs : List (Packet Message)) → reverse_aux (if b then option_to_list o else []) zs ≡ (if b then option_to_list o else []) ++ zs
  each_one true o zs = one_turned o zs
  each_one false o zs = refl

  all_are : (sendings : List Sending) (net : Network Parcel) (ends : Ends) → AreEnds peers n net ends → AreEnds peers n (send_all n stamp sendings net) (all_sent peers ends sendings)
  all_are [] net ends are = are
  all_are (s ∷ sendings) net ends are = all_are sendings (send_next n stamp net s) (one_sent peers ends s) (one_are net ends s are)

  all_there : (sendings : List Sending) (net : Network Parcel) (ends : Ends) (m : ℕ) → AreEnds peers n net ends → peers m ≡ true
      → map plain_packet ((send_all n stamp sendings net).packets n m) ≡ reverse_aux (sent_to peers stamp m ends sendings) (map plain_packet (net.packets n m))
  all_there [] net ends m are peer = refl
  all_there (s ∷ sendings) net ends m are peer =
      let now = if m == s.to.0 then option_to_list (sent_packet (ends s.to.0) s.message stamp) else [] in
      all_there sendings (send_next n stamp net s) (one_sent peers ends s) m (one_are net ends s are) peer
      ∙ (ap (λ (l : List (Packet Message)). reverse_aux (sent_to peers stamp m (one_sent peers ends s) sendings) l) (one_there net ends s m are peer ∙ sym (each_one (m == s.to.0) (sent_packet (ends s.to.0) s.message stamp) (map plain_packet (net.packets n m))))
      ∙ sym (turned_append now (sent_to peers stamp m (one_sent peers ends s) sendings) (map plain_packet (net.packets n m))))

pub each_sends : EachSends
each_sends peers n stamp net ends sendings are = record {
  ends_are = all_are peers n stamp sendings net ends are;
  packets = λ m peer. all_there peers n stamp sendings net ends m are peer ∙ turned (sent_to peers stamp m ends sendings) (map plain_packet (net.packets n m));
}

-- ---- a packet comes, and a session ticks

pub each_receives : EachReceives
each_receives peers n m world ends p peer are = at_one peers n m world.network ends (received (ends m) (plain_packet p)) (left (answer (world.network.end n m) p) (world.network.end n m) p) are
    (ap (λ (e : End Message). received e (plain_packet p)) (are m peer) ∙ is_plain.receives (world.network.end n m) p)

pub each_ticks : EachTicks
each_ticks peers n m stamp net ends peer are = record {
  ends_are = at_one peers n m net ends (ticked (ends m)) (ticked (net.end n m)) are (ap (λ (e : End Message). ticked e) (are m peer) ∙ is_plain.rests (net.end n m));
  packets = rw (eqb-self n, eqb-self m) (map-append plain_packet (tick_packets hello (net.end n m) stamp) (net.packets n m)
      ∙ ap (λ (l : List (Packet Message)). l ++ map plain_packet (net.packets n m)) (sym (is_plain.ticks (net.end n m) stamp) ∙ ap (λ (e : End Message). tick_packets messages.Hello e stamp) (sym (are m peer))));
}
