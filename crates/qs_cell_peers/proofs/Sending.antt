-- Packets of one session go behind those that went before.
use Rattle.std.proofs.Common.{◌≡◌, ◌≢◌, ℕ, ◌==◌, Bool, true, false, List, [], ◌∷◌, ◌++◌, Option, Some, None, refl, sym, ap, subst, ◌∙◌, append-nil, arith, length, set, ◌+◌, if◌then◌else◌}
use Rattle.std.specs.Prelude.{IfSome, map, option_map, option_to_list}
use Rattle.std.specs.List.{All, filter}
use Rattle.std.proofs.lemmas.Bool.{and_from, eq-eqb, eqb-false, eqb-true}
use Rattle.std.proofs.lemmas.Bool.Decides.{nat_tests}
use Rattle.std.proofs.lemmas.List.{map-append}
use Rattle.std.proofs.lemmas.List.Elements.{All-append, All-cons, All-head, All-nil, All-tail, All-weaker, filter-append}
use Rattle.qs_base.specs.declared.identifiers.NodeNo.{NodeNo}
use Rattle.qs_session_channels.specs.End as end
use Rattle.qs_session_channels.specs.End.{End, sent, sent_packet}
use Rattle.qs_session_channels.specs.Network.{with_at}
use Rattle.qs_packet.specs.declared.message.Message.{Message}
use Rattle.qs_packet.specs.declared.packet.Packet.{Packet}
use Rattle.qs_node_step.specs.declared.event.Sending.{Sending}
use Rattle.qs_session.specs.Seen.{IsFrom, SessionValue, seen}
use Rattle.qs_cell_peers.specs.Peers.{goes_from, is_peer, is_to}
use Rattle.qs_cell_peers.specs.Sessions.{EndAs, SessionsValue, ends_of, is_peer_of, one_sent}
use Rattle.qs_cell_peers.proofs.Changing.{IsRead, end_is, ends_there, is_with, peer_in, sessions}

-- ---- lists

all_of : {A : Type 0} (P : A → Type 0) (o : Option A) → IfSome o P → All P (option_to_list o)
all_of P None h = All-nil P
all_of P (Some x) h = All-cons P x [] h (All-nil P)

seen_of : (o : Option Packet) → ◌≡◌ {A = List (end.Packet Message)} (map seen (option_to_list o)) (option_to_list (option_map seen o))
seen_of None = refl
seen_of (Some p) = refl

-- of packets to one node all are to it, and none to another
kept_all : (to : ℕ) (qs : List Packet) → All (λ q. q.to.0 ≡ to) qs → filter (is_to to) qs ≡ qs
kept_all to [] all = refl
kept_all to (q ∷ qs) all =
    let e : (q.to.0 == to) ≡ true = grind (arith, nat_tests, All-head (λ (p : Packet). p.to.0 ≡ to) q qs all) in
    rw e (ap (λ (l : List Packet). q ∷ l) (kept_all to qs (All-tail (λ (p : Packet). p.to.0 ≡ to) q qs all)))

kept_none : (to m : ℕ) (qs : List Packet) → m ≢ to → All (λ q. q.to.0 ≡ to) qs → filter (is_to m) qs ≡ []
kept_none to m [] apart all = refl
kept_none to m (q ∷ qs) apart all =
    let e : (q.to.0 == m) ≡ false = grind (arith, nat_tests, apart, All-head (λ (p : Packet). p.to.0 ≡ to) q qs all) in
    rw e (kept_none to m qs apart (All-tail (λ (p : Packet). p.to.0 ≡ to) q qs all))

-- packets to one node stand behind what went to it, and nowhere else
behind : (to m : ℕ) (ps qs : List Packet) → All (λ q. q.to.0 ≡ to) qs → map seen (filter (is_to m) (ps ++ qs)) ≡ map seen (filter (is_to m) ps) ++ (if m == to then map seen qs else [])
behind to m ps qs all = ap (map seen) (filter-append (is_to m) ps qs) ∙ (map-append seen (filter (is_to m) ps) (filter (is_to m) qs) ∙ ap (λ (l : List (end.Packet Message)). map seen (filter (is_to m) ps) ++ l) (by (m == to) refl))
  where
    by : (b : Bool) → (m == to) ≡ b → map seen (filter (is_to m) qs) ≡ (if b then map seen qs else [])
    by true is = ap (map seen) (ap (λ (k : ℕ). filter (is_to k) qs) (eqb-true m to is) ∙ kept_all to qs all)
    by false is = ap (map seen) (kept_none to m qs (eqb-false m to is) all)

-- ---- those of one session

module _ (v : SessionsValue) (n : NodeNo) (xs : List SessionValue) (to at : ℕ) (old : SessionValue) (r : IsRead v n xs to at old) where
  to_it : (q : Packet) → IsFrom old q → q.to.0 ≡ to
  to_it q from = ap (λ (k : NodeNo). k.0) from.1 ∙ (is_with v n xs to at old r).peer

  goes : (q : Packet) → IsFrom old q → goes_from v.size v.me.0 q ≡ true
  goes q from = subst (λ (w : SessionsValue). goes_from w.size w.me.0 q ≡ true) r.is (and_from (q.from.0 == n.0) (is_peer (length xs + 1) n.0 q.to.0)
      (eq-eqb q.from.0 n.0 (ap (λ (k : NodeNo). k.0) (from.0 ∙ (is_with v n xs to at old r).me))) (subst (λ (k : ℕ). is_peer (length xs + 1) n.0 k ≡ true) (sym (to_it q from)) r.peer))

  -- they stand behind those that went to the node before
  pub behind_it : (qs : List Packet) (sent : List (end.Packet Message)) → All (IsFrom old) qs → map seen qs ≡ sent
      → (ps : List Packet) (m : ℕ) → map seen (filter (is_to m) (ps ++ qs)) ≡ map seen (filter (is_to m) ps) ++ (if m == to then sent else [])
  behind_it qs sent from is ps m = behind to m ps qs (All-weaker (IsFrom old) (λ q. q.to.0 ≡ to) to_it qs from)
      ∙ ap (λ (l : List (end.Packet Message)). map seen (filter (is_to m) ps) ++ (if m == to then l else [])) is

  pub all_go : (qs ps : List Packet) → All (IsFrom old) qs → All (λ q. goes_from v.size v.me.0 q ≡ true) ps → All (λ q. goes_from v.size v.me.0 q ≡ true) (ps ++ qs)
  all_go qs ps from before = All-append (λ q. goes_from v.size v.me.0 q ≡ true) ps qs before (All-weaker (IsFrom old) (λ q. goes_from v.size v.me.0 q ≡ true) goes qs from)

-- ---- a message

-- it leaves the end of its session so
pub sent_there : (v : SessionsValue) (n : NodeNo) (xs : List SessionValue) (s : Sending) (at : ℕ) (old x : SessionValue) → IsRead v n xs s.to.0 at old
    → x ≡ record old { end = sent old.end s.message } → EndAs v (one_sent (is_peer_of v) (ends_of v) s) (sessions n (set xs at x))
sent_there v n xs s at old x r is =
    subst (λ (b : Bool). EndAs v (if b then with_at (ends_of v) s.to.0 (sent (ends_of v s.to.0) s.message) else ends_of v) (sessions n (set xs at x))) (sym (peer_in v n xs s.to.0 at old r))
    (ends_there v n xs s.to.0 at old r x (λ e. sent e s.message) is)

-- its packet goes, if there is one
pub goes_behind : (v : SessionsValue) (n : NodeNo) (xs : List SessionValue) (s : Sending) (stamp at : ℕ) (old : SessionValue) (o : Option Packet) → IsRead v n xs s.to.0 at old
    → IfSome o (IsFrom old) → option_map seen o ≡ sent_packet old.end s.message stamp → (ps : List Packet) (m : ℕ)
    → map seen (filter (is_to m) (ps ++ option_to_list o)) ≡ map seen (filter (is_to m) ps) ++ ((if m == s.to.0 then option_to_list (sent_packet (ends_of v s.to.0) s.message stamp) else []) ++ [])
goes_behind v n xs s stamp at old o r from is ps m =
    behind_it v n xs s.to.0 at old r (option_to_list o) (option_to_list (sent_packet (ends_of v s.to.0) s.message stamp)) (all_of (IsFrom old) o from)
    (seen_of o ∙ ap (λ (p : Option (end.Packet Message)). option_to_list p) (is ∙ ap (λ (e : End Message). sent_packet e s.message stamp) (sym (end_is v n xs s.to.0 at old r)))) ps m
    ∙ ap (λ (l : List (end.Packet Message)). map seen (filter (is_to m) ps) ++ l) (sym (append-nil (if m == s.to.0 then option_to_list (sent_packet (ends_of v s.to.0) s.message stamp) else [])))

pub all_spelled : (P : Packet → Type 0) (o : Option Packet) (ps : List Packet) → IfSome o P → All P ps → All P (ps ++ option_to_list o)
all_spelled P o ps h all = All-append P ps (option_to_list o) all (all_of P o h)

pub one_goes : (v : SessionsValue) (n : NodeNo) (xs : List SessionValue) (m at : ℕ) (old : SessionValue) (o : Option Packet) (ps : List Packet) → IsRead v n xs m at old
    → IfSome o (IsFrom old) → All (λ q. goes_from v.size v.me.0 q ≡ true) ps → All (λ q. goes_from v.size v.me.0 q ≡ true) (ps ++ option_to_list o)
one_goes v n xs m at old o ps r from before = all_go v n xs m at old r (option_to_list o) ps (all_of (IsFrom old) o from) before

-- a message to no peer leaves what goes to peers
pub nowhere : (peers : ℕ → Bool) (m to : ℕ) (zs sent : List (end.Packet Message)) → peers m ≡ true → peers to ≡ false → zs ≡ zs ++ ((if m == to then sent else []) ++ [])
nowhere peers m to zs sent peer none = sym (by (m == to) refl)
  where
    by : (b : Bool) → (m == to) ≡ b → zs ++ ((if b then sent else []) ++ []) ≡ zs
    by true is = absurd (cc (peer, none, ap peers (eqb-true m to is)))
    by false is = append-nil zs
