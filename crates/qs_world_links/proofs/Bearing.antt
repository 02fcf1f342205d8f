-- What a step sends over the sessions of its node bears its stamp.
use Rattle.std.proofs.Common.{◌≡◌, refl, ℕ, ◌+◌, ◌==◌, Bool, true, false, List, [], ◌∷◌, arith, length, map, suc, zero, if◌then◌else◌}
use Rattle.std.specs.Prelude.{All, None, Some, option_to_list}
use Rattle.std.specs.List.{filter}
use Rattle.std.proofs.lemmas.Bool.Decides.{nat_tests}
use Rattle.std.proofs.lemmas.List.Elements.{All-append, All-cons, All-head, All-nil, All-same, All-tail}
use Rattle.qs_cell_peers.specs.Peers.{goes_from, is_peer, is_to}
use Rattle.qs_cell_peers.specs.Sessions.{Ends, SessionsValue, all_sent, ends_of, is_peer_of, one_sent, sent_to}
use Rattle.qs_cell_peers.specs.Steps.{Sends, packets_to}
use Rattle.qs_cell_peers.specs.Ticks.{all_ticked, tick_to}
use Rattle.qs_node_step.specs.declared.event.Sending.{Sending}
use Rattle.qs_packet.specs.declared.message.Message.{Message}
use Rattle.qs_packet.specs.declared.message.Message.TheVariants as messages
use Rattle.qs_packet.specs.declared.packet.Packet.{Packet}
use Rattle.qs_session.specs.Seen.{seen}
use Rattle.qs_session_channels.specs.End as end
use Rattle.qs_session_channels.specs.End.{End, again, idle_packets, packet, sent_packet, tick_packets}

module _ (stamp : ℕ) where
  abbrev Bears : end.Packet Message → Type 0
  Bears p = p.stamp ≡ stamp

  one : (p : end.Packet Message) → Bears p → All Bears (p ∷ [])
  one p is = All-cons Bears p [] is (All-nil Bears)

  -- ---- messages

  sent_one : (e : End Message) (x : Message) → All Bears (option_to_list (sent_packet e x stamp))
  sent_one e x = by (e.known == 0)
    where
      by : (b : Bool) → All Bears (option_to_list (if b then None else Some (packet e e.known (e.acked + length e.kept + 1) stamp x)))
      by true = All-nil Bears
      by false = one (packet e e.known (e.acked + length e.kept + 1) stamp x) refl

  only_if : (b : Bool) (xs : List (end.Packet Message)) → All Bears xs → All Bears (if b then xs else [])
  only_if true xs all = all
  only_if false xs all = All-nil Bears

  sent_bear : (peers : ℕ → Bool) (m : ℕ) (ends : Ends) (sendings : List Sending) → All Bears (sent_to peers stamp m ends sendings)
  sent_bear peers m ends [] = All-nil Bears
  sent_bear peers m ends (s ∷ sendings) = All-append Bears _ _
      (only_if (m == s.to.0) (option_to_list (sent_packet (ends s.to.0) s.message stamp)) (sent_one (ends s.to.0) s.message)) (sent_bear peers m (one_sent peers ends s) sendings)

  -- ---- and what time makes

  again_bear : (e : End Message) (k : ℕ) (xs : List Message) → All Bears (again e stamp k xs)
  again_bear e k [] = All-nil Bears
  again_bear e k (x ∷ xs) = All-cons Bears (packet e e.known (k + 1) stamp x) (again e stamp (k + 1) xs) refl (again_bear e (k + 1) xs)

  idle_bear : (e : End Message) → All Bears (idle_packets messages.Hello e stamp)
  idle_bear e = by e.owed e.met
    where
      by : (b c : Bool) → All Bears (if b then packet e e.known 0 stamp messages.Hello ∷ [] else if c then [] else packet e 0 0 stamp messages.Hello ∷ [])
      by true c = one (packet e e.known 0 stamp messages.Hello) refl
      by false true = All-nil Bears
      by false false = one (packet e 0 0 stamp messages.Hello) refl

  tick_bear : (e : End Message) → All Bears (tick_packets messages.Hello e stamp)
  tick_bear e = by (e.known == 0) (length e.kept == 0)
    where
      by : (b c : Bool) → All Bears (if b then packet e 0 0 stamp messages.Hello ∷ [] else if c then idle_packets messages.Hello e stamp else again e stamp e.acked e.kept)
      by true c = one (packet e 0 0 stamp messages.Hello) refl
      by false true = idle_bear e
      by false false = again_bear e e.acked e.kept

  ticks_bear : (size n j : ℕ) (ends : Ends) → All Bears (tick_to size n stamp j ends)
  ticks_bear zero n j ends = All-nil Bears
  ticks_bear (suc m) n j ends = All-append Bears _ _ (ticks_bear m n j ends) (by (m == n) (j == m))
    where
      by : (b c : Bool) → All Bears (if b then [] else if c then tick_packets messages.Hello (all_ticked m n ends m) stamp else [])
      by true c = All-nil Bears
      by false c = only_if c (tick_packets messages.Hello (all_ticked m n ends m) stamp) (tick_bear (all_ticked m n ends m))

  all_bear : (ticks : Bool) (old : SessionsValue) (m : ℕ) (sendings : List Sending) → All Bears (packets_to ticks old stamp m sendings)
  all_bear ticks old m sendings = All-append Bears _ _ (sent_bear (is_peer_of old) m (ends_of old) sendings)
      (only_if ticks (tick_to old.size old.me.0 stamp m (all_sent (is_peer_of old) (ends_of old) sendings)) (ticks_bear old.size old.me.0 m (all_sent (is_peer_of old) (ends_of old) sendings)))

  -- ---- by the nodes that they go to

  abbrev HasStamp : Packet → Type 0
  HasStamp p = p.stamp ≡ stamp

  to_peer : (size n : ℕ) (p : Packet) → goes_from size n p ≡ true → is_peer size n p.to.0 ≡ true
  to_peer size n p goes = grind (arith, nat_tests, goes)

  tail_bear : (m : ℕ) (p : Packet) (ps : List Packet) → All Bears (map seen (filter (is_to m) (p ∷ ps))) → All Bears (map seen (filter (is_to m) ps))
  tail_bear m p ps = by (is_to m p)
    where
      by : (b : Bool) → All Bears (map seen (if b then p ∷ filter (is_to m) ps else filter (is_to m) ps)) → All Bears (map seen (filter (is_to m) ps))
      by true all = All-tail Bears (seen p) (map seen (filter (is_to m) ps)) all
      by false all = all

  same : (k : ℕ) → (k == k) ≡ true
  same k = grind (arith, nat_tests)

  head_bears : (p : Packet) (ps : List Packet) → All Bears (map seen (filter (is_to p.to.0) (p ∷ ps))) → HasStamp p
  head_bears p ps all = All-head Bears (seen p) (map seen (filter (is_to p.to.0) ps)) (by (is_to p.to.0 p) (same p.to.0) all)
    where
      by : (b : Bool) → b ≡ true → All Bears (map seen (if b then p ∷ filter (is_to p.to.0) ps else filter (is_to p.to.0) ps)) → All Bears (seen p ∷ map seen (filter (is_to p.to.0) ps))
      by true is all = all
      by false is all = absurd (cc is)

  each_bears : (size n : ℕ) (put : List Packet) → All (λ p. goes_from size n p ≡ true) put → ((m : ℕ) → is_peer size n m ≡ true → All Bears (map seen (filter (is_to m) put))) → All HasStamp put
  each_bears size n [] goes all = All-nil HasStamp
  each_bears size n (p ∷ ps) goes all = All-cons HasStamp p ps
      (head_bears p ps (all p.to.0 (to_peer size n p (All-head (λ q. goes_from size n q ≡ true) p ps goes))))
      (each_bears size n ps (All-tail (λ q. goes_from size n q ≡ true) p ps goes) (λ m peer. tail_bear m p ps (all m peer)))

  pub sends_bear : (ticks : Bool) (sendings : List Sending) (old : SessionsValue) (put : List Packet) (new : SessionsValue) → Sends ticks stamp sendings old put new → All HasStamp put
  sends_bear ticks sendings old put new sends = each_bears old.size old.me.0 put sends.from
      (λ m peer. All-same Bears (map seen (filter (is_to m) put)) (packets_to ticks old stamp m sendings) (sends.packets m peer) (all_bear ticks old m sendings))
