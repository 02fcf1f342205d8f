-- Messages are sent one after the other; only the ends at peers count.
use Rattle.std.proofs.Common.{◌≡◌, ◌≢◌, ℕ, ◌==◌, ◌-◌, ◌^◌, Bool, true, false, List, [], ◌∷◌, ◌++◌, refl, sym, ap, subst, ◌∙◌, append_assoc, if◌then◌else◌}
use Rattle.std.specs.Prelude.{map, option_to_list}
use Rattle.std.specs.List.{All, filter}
use Rattle.std.proofs.lemmas.Bool.{eqb-true}
use Rattle.qs_base.specs.declared.identifiers.NodeNo.{NodeNo}
use Rattle.qs_session_channels.specs.End as end
use Rattle.qs_session_channels.specs.End.{End, sent, sent_packet}
use Rattle.qs_session_channels.specs.Network.{with_at}
use Rattle.qs_packet.specs.Grammar.{IsPacket}
use Rattle.qs_packet.specs.declared.message.Message.{Message}
use Rattle.qs_packet.specs.declared.packet.Packet.{Packet}
use Rattle.qs_node_step.specs.declared.event.Sending.{Sending}
use Rattle.qs_session.specs.Seen.{seen}
use Rattle.qs_cell_peers.specs.Peers.{goes_from, is_peer, is_to}
use Rattle.qs_cell_peers.specs.Sessions.{EndAs, Ends, LacksNumber, SessionsValue, all_sent, ends_of, is_peer_of, numbers_given, one_sent, sent_to}

module _ (peers : ℕ → Bool) where
  abbrev pub SameEnds : Ends → Ends → Type 0
  SameEnds a b = (m : ℕ) → peers m ≡ true → a m ≡ b m

  one_same : (a b : Ends) (s : Sending) → SameEnds a b → SameEnds (one_sent peers a s) (one_sent peers b s)
  one_same a b s same m peer = by (peers s.to.0) refl
    where
      at : (q : Bool) → a s.to.0 ≡ b s.to.0 → (if q then sent (a s.to.0) s.message else a m) ≡ (if q then sent (b s.to.0) s.message else b m)
      at true e = ap (λ (x : End Message). sent x s.message) e
      at false e = same m peer

      by : (p : Bool) → peers s.to.0 ≡ p → (if p then with_at a s.to.0 (sent (a s.to.0) s.message) else a) m ≡ (if p then with_at b s.to.0 (sent (b s.to.0) s.message) else b) m
      by true is = at (m == s.to.0) (same s.to.0 is)
      by false is = same m peer

  all_more : (ends : Ends) (ys : List Sending) (s : Sending) → all_sent peers ends (ys ++ s ∷ []) ≡ one_sent peers (all_sent peers ends ys) s
  all_more ends [] s = refl
  all_more ends (y ∷ ys) s = all_more (one_sent peers ends y) ys s

  to_more : (stamp m : ℕ) (ends : Ends) (ys : List Sending) (s : Sending) → sent_to peers stamp m ends (ys ++ s ∷ []) ≡ sent_to peers stamp m ends ys ++ sent_to peers stamp m (all_sent peers ends ys) (s ∷ [])
  to_more stamp m ends [] s = refl
  to_more stamp m ends (y ∷ ys) s =
      ap (λ (l : List (end.Packet Message)). (if m == y.to.0 then option_to_list (sent_packet (ends y.to.0) y.message stamp) else []) ++ l) (to_more stamp m (one_sent peers ends y) ys s)
      ∙ sym (append_assoc (if m == y.to.0 then option_to_list (sent_packet (ends y.to.0) y.message stamp) else []) (sent_to peers stamp m (one_sent peers ends y) ys) (sent_to peers stamp m (all_sent peers (one_sent peers ends y) ys) (s ∷ [])))

  to_same : (stamp m : ℕ) (a b : Ends) (s : Sending) → SameEnds a b → peers m ≡ true → sent_to peers stamp m a (s ∷ []) ≡ sent_to peers stamp m b (s ∷ [])
  to_same stamp m a b s same peer = by (m == s.to.0) (eqb-true m s.to.0)
    where
      by : (q : Bool) → (q ≡ true → m ≡ s.to.0) → (if q then option_to_list (sent_packet (a s.to.0) s.message stamp) else []) ++ [] ≡ (if q then option_to_list (sent_packet (b s.to.0) s.message stamp) else []) ++ []
      by true is = ap (λ (x : End Message). option_to_list (sent_packet x s.message stamp) ++ []) (same s.to.0 (subst (λ (k : ℕ). peers k ≡ true) (is refl) peer))
      by false is = refl

  -- each message to a peer got a number
  abbrev pub AllGiven : Ends → List Sending → Type 0
  AllGiven ends [] = Unit {0}
  AllGiven ends (s ∷ sendings) = (peers s.to.0 ≡ true → numbers_given (ends s.to.0) ≢ 2 ^ 62 - 1) × AllGiven (one_sent peers ends s) sendings

  given_more : (ends : Ends) (ys : List Sending) (s : Sending) → AllGiven ends ys → (peers s.to.0 ≡ true → numbers_given (all_sent peers ends ys s.to.0) ≢ 2 ^ 62 - 1) → AllGiven ends (ys ++ s ∷ [])
  given_more ends [] s given one = (one, tt)
  given_more ends (y ∷ ys) s given one = (given.0, given_more (one_sent peers ends y) ys s given.1 one)

  given_each : (ends : Ends) (before : List Sending) (here : Sending) (behind : List Sending) → AllGiven ends (before ++ here ∷ behind) → peers here.to.0 ≡ true → numbers_given (all_sent peers ends before here.to.0) ≢ 2 ^ 62 - 1
  given_each ends [] here behind given peer = given.0 peer
  given_each ends (y ∷ ys) here behind given peer = given_each (one_sent peers ends y) ys here behind given.1 peer

-- ---- sessions

pub same_peers : (old mid : SessionsValue) → mid.size ≡ old.size → mid.me ≡ old.me → is_peer_of mid ≡ is_peer_of old
same_peers old mid size me = ap (λ (k : ℕ). is_peer k mid.me.0) size ∙ ap (λ (n : NodeNo). is_peer old.size n.0) me

module _ (old mid : SessionsValue) (ys : List Sending) (s : Sending) (was : EndAs old (all_sent (is_peer_of old) (ends_of old) ys) mid) where
  same : is_peer_of mid ≡ is_peer_of old
  same = same_peers old mid was.size was.me

  pub more_sent : (new : SessionsValue) → EndAs mid (one_sent (is_peer_of mid) (ends_of mid) s) new → EndAs old (all_sent (is_peer_of old) (ends_of old) (ys ++ s ∷ [])) new
  more_sent new one = record {
    size = one.size ∙ was.size;
    me = one.me ∙ was.me;
    ends_are = λ m peer. one.ends_are m (ap (λ (f : ℕ → Bool). f m) same ∙ peer)
        ∙ (ap (λ (f : ℕ → Bool). one_sent f (ends_of mid) s m) same
        ∙ (one_same (is_peer_of old) (ends_of mid) (all_sent (is_peer_of old) (ends_of old) ys) s was.ends_are m peer ∙ sym (ap (λ (f : Ends). f m) (all_more (is_peer_of old) (ends_of old) ys s))));
  }

  pub more_go : (stamp m : ℕ) (before after : List (end.Packet Message)) → is_peer_of old m ≡ true → before ≡ sent_to (is_peer_of old) stamp m (ends_of old) ys → after ≡ before ++ sent_to (is_peer_of mid) stamp m (ends_of mid) (s ∷ [])
      → after ≡ sent_to (is_peer_of old) stamp m (ends_of old) (ys ++ s ∷ [])
  more_go stamp m before after peer so_far more = more
      ∙ (ap (λ (l : List (end.Packet Message)). l ++ sent_to (is_peer_of mid) stamp m (ends_of mid) (s ∷ [])) so_far
      ∙ (ap (λ (l : List (end.Packet Message)). sent_to (is_peer_of old) stamp m (ends_of old) ys ++ l) (to_same (is_peer_of old) stamp m (ends_of mid) (all_sent (is_peer_of old) (ends_of old) ys) s was.ends_are peer)
      ∙ sym (to_more (is_peer_of old) stamp m (ends_of old) ys s)))

  given_now : is_peer_of old s.to.0 ≡ true → numbers_given (ends_of mid s.to.0) ≡ numbers_given (all_sent (is_peer_of old) (ends_of old) ys s.to.0)
  given_now peer = ap numbers_given (was.ends_are s.to.0 peer)

  pub more_given : AllGiven (is_peer_of old) (ends_of old) ys → (is_peer_of mid s.to.0 ≡ true → numbers_given (ends_of mid s.to.0) ≢ 2 ^ 62 - 1) → AllGiven (is_peer_of old) (ends_of old) (ys ++ s ∷ [])
  more_given given one = given_more (is_peer_of old) (ends_of old) ys s given (λ peer last. one (ap (λ (f : ℕ → Bool). f s.to.0) same ∙ peer) (given_now peer ∙ last))

pub lacks_none : (old : SessionsValue) (sendings : List Sending) → AllGiven (is_peer_of old) (ends_of old) sendings → LacksNumber old sendings → ⊥
lacks_none old sendings given l = given_each (is_peer_of old) (ends_of old) l.before l.here l.behind (subst (λ (ss : List Sending). AllGiven (is_peer_of old) (ends_of old) ss) l.is given) l.peer l.last

-- where the end of the next message has given the last number, they lack one
pub lacks_here : (old mid : SessionsValue) (before behind sendings : List Sending) (s : Sending) → EndAs old (all_sent (is_peer_of old) (ends_of old) before) mid → sendings ≡ before ++ s ∷ behind
    → is_peer_of mid s.to.0 ≡ true → numbers_given (ends_of mid s.to.0) ≡ 2 ^ 62 - 1 → LacksNumber old sendings
lacks_here old mid before behind sendings s was is peer last = record {
  before = before;
  here = s;
  behind = behind;
  is = is;
  peer = there;
  last = sym (ap numbers_given (was.ends_are s.to.0 there)) ∙ last;
}
  where
    there : is_peer_of old s.to.0 ≡ true
    there = sym (ap (λ (f : ℕ → Bool). f s.to.0) (same_peers old mid was.size was.me)) ∙ peer

-- the packets go from the same node still
pub still_go : (old mid : SessionsValue) (ps qs : List Packet) → mid.size ≡ old.size → mid.me ≡ old.me
    → (All (λ p. goes_from mid.size mid.me.0 p ≡ true) ps → All (λ p. goes_from mid.size mid.me.0 p ≡ true) qs) → All (λ p. goes_from old.size old.me.0 p ≡ true) ps → All (λ p. goes_from old.size old.me.0 p ≡ true) qs
still_go old mid ps qs size me more before = over qs (more (back ps before))
  where
    is : goes_from mid.size mid.me.0 ≡ goes_from old.size old.me.0
    is = ap (λ (k : ℕ). goes_from k mid.me.0) size ∙ ap (λ (n : NodeNo). goes_from old.size n.0) me

    over : (l : List Packet) → All (λ p. goes_from mid.size mid.me.0 p ≡ true) l → All (λ p. goes_from old.size old.me.0 p ≡ true) l
    over l all = subst (λ (f : Packet → Bool). All (λ p. f p ≡ true) l) is all

    back : (l : List Packet) → All (λ p. goes_from old.size old.me.0 p ≡ true) l → All (λ p. goes_from mid.size mid.me.0 p ≡ true) l
    back l all = subst (λ (f : Packet → Bool). All (λ p. f p ≡ true) l) (sym is) all

-- ---- what was sent so far

pub record HasSent (stamp : ℕ) (sendings : List Sending) (old : SessionsValue) (put : List Packet) (new : SessionsValue) : Type 0 where
  pub ends : EndAs old (all_sent (is_peer_of old) (ends_of old) sendings) new
  pub packets : (m : ℕ) → is_peer_of old m ≡ true → map seen (filter (is_to m) put) ≡ sent_to (is_peer_of old) stamp m (ends_of old) sendings
  pub from : All (λ p. goes_from old.size old.me.0 p ≡ true) put
  pub spelled : All IsPacket put
  pub given : AllGiven (is_peer_of old) (ends_of old) sendings
