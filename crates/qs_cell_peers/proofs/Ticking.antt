-- The sessions of a node tick, one after the other; only the ends at peers count.
use Rattle.std.proofs.Common.{◌≡◌, ℕ, zero, suc, ◌<◌, ◌≤◌, ◌==◌, Bool, true, false, List, [], ◌++◌, refl, sym, ap, subst, ◌∙◌, add-one, arith, length, set, ◌+◌, if◌then◌else◌}
use Rattle.std.specs.Prelude.{map}
use Rattle.std.specs.List.{All, filter}
use Rattle.std.proofs.lemmas.Bool.{eqb-false, ne_eqb}
use Rattle.qs_base.specs.declared.identifiers.NodeNo.{NodeNo}
use Rattle.qs_session_channels.specs.End as end
use Rattle.qs_session_channels.specs.End.{End, tick_packets, ticked}
use Rattle.qs_session_channels.specs.Network.{with_at}
use Rattle.qs_packet.specs.declared.message.Message.{Message}
use Rattle.qs_packet.specs.declared.message.Message.TheVariants as messages
use Rattle.qs_packet.specs.declared.packet.Packet.{Packet}
use Rattle.qs_session.specs.Seen.{IsFrom, SessionValue, seen}
use Rattle.qs_cell_peers.specs.Peers.{is_peer, is_to}
use Rattle.qs_cell_peers.specs.Sessions.{EndAs, Ends, SessionsValue, ends_of}
use Rattle.qs_cell_peers.specs.Ticks.{all_ticked, tick_to}
use Rattle.qs_cell_peers.proofs.Changing.{IsRead, end_is, ends_there, sessions}
use Rattle.qs_cell_peers.proofs.Places.{is_peer_from, peer_is}
use Rattle.qs_cell_peers.proofs.Sending.{behind_it}
use Rattle.qs_cell_peers.proofs.Sends.{SameEnds, same_peers}

-- ---- one of them

-- the ends once the session with node m ticked, where that is another node than n
abbrev pub one_ticked : ℕ → ℕ → Ends → Ends
one_ticked m n ends = if m == n then ends else with_at ends m (ticked (ends m))

-- and what goes to node j
abbrev pub one_due : ℕ → ℕ → ℕ → ℕ → End Message → List (end.Packet Message)
one_due m n stamp j e = if m == n then [] else if j == m then tick_packets messages.Hello e stamp else []

module _ (v : SessionsValue) (n : NodeNo) (xs : List SessionValue) (m at : ℕ) (old : SessionValue) (r : IsRead v n xs m at old) where
  apart : (m == v.me.0) ≡ false
  apart = subst (λ (w : SessionsValue). (m == w.me.0) ≡ false) r.is (ne_eqb m n.0 (peer_is (length xs + 1) n.0 m r.peer).1)

  pub ticked_there : (x : SessionValue) → x ≡ record old { end = ticked old.end } → EndAs v (one_ticked m v.me.0 (ends_of v)) (sessions n (set xs at x))
  ticked_there x is = subst (λ (b : Bool). EndAs v (if b then ends_of v else with_at (ends_of v) m (ticked (ends_of v m))) (sessions n (set xs at x))) (sym apart) (ends_there v n xs m at old r x ticked is)

  pub due_behind : (stamp : ℕ) (qs ps : List Packet) (j : ℕ) → All (IsFrom old) qs → map seen qs ≡ tick_packets messages.Hello old.end stamp
      → map seen (filter (is_to j) (ps ++ qs)) ≡ map seen (filter (is_to j) ps) ++ one_due m v.me.0 stamp j (ends_of v m)
  due_behind stamp qs ps j from is =
      behind_it v n xs m at old r qs (tick_packets messages.Hello (ends_of v m) stamp) from (is ∙ ap (λ (e : End Message). tick_packets messages.Hello e stamp) (sym (end_is v n xs m at old r))) ps j
      ∙ subst (λ (b : Bool). map seen (filter (is_to j) ps) ++ (if j == m then tick_packets messages.Hello (ends_of v m) stamp else []) ≡ map seen (filter (is_to j) ps) ++ (if b then [] else if j == m then tick_packets messages.Hello (ends_of v m) stamp else [])) (sym apart) refl

-- ---- one after the other

module _ (size n k : ℕ) (lt : k < size) (a b : Ends) (same : SameEnds (is_peer size n) a b) where
  end_same : (k == n) ≡ false → a k ≡ b k
  end_same apart = same k (is_peer_from size n k lt (eqb-false k n apart))

  ticked_same : SameEnds (is_peer size n) (one_ticked k n a) (one_ticked k n b)
  ticked_same m peer = by (k == n) refl
    where
      at : (q : Bool) → a k ≡ b k → (if q then ticked (a k) else a m) ≡ (if q then ticked (b k) else b m)
      at true e = ap (λ (x : End Message). ticked x) e
      at false e = same m peer

      by : (q : Bool) → (k == n) ≡ q → (if q then a else with_at a k (ticked (a k))) m ≡ (if q then b else with_at b k (ticked (b k))) m
      by true is = same m peer
      by false is = at (m == k) (end_same is)

  due_same : (stamp j : ℕ) → one_due k n stamp j (a k) ≡ one_due k n stamp j (b k)
  due_same stamp j = by (k == n) refl
    where
      by : (q : Bool) → (k == n) ≡ q → (if q then [] else if j == k then tick_packets messages.Hello (a k) stamp else []) ≡ (if q then [] else if j == k then tick_packets messages.Hello (b k) stamp else [])
      by true is = refl
      by false is = ap (λ (e : End Message). if j == k then tick_packets messages.Hello e stamp else []) (end_same is)

-- over ends that are the same at peers the same goes, and it leaves the same there
module _ (size n : ℕ) (a b : Ends) (same : SameEnds (is_peer size n) a b) where
  pub all_ticked_same : (k : ℕ) → k ≤ size → SameEnds (is_peer size n) (all_ticked k n a) (all_ticked k n b)
  all_ticked_same zero le = same
  all_ticked_same (suc k) le = ticked_same size n k (omega (arith, le)) (all_ticked k n a) (all_ticked k n b) (all_ticked_same k (omega (arith, le)))

  pub tick_to_same : (stamp j k : ℕ) → k ≤ size → tick_to k n stamp j a ≡ tick_to k n stamp j b
  tick_to_same stamp j zero le = refl
  tick_to_same stamp j (suc k) le =
      ap (λ (l : List (end.Packet Message)). l ++ one_due k n stamp j (all_ticked k n a k)) (tick_to_same stamp j k (omega (arith, le)))
      ∙ ap (λ (l : List (end.Packet Message)). tick_to k n stamp j b ++ l)
      (due_same size n k (omega (arith, le)) (all_ticked k n a) (all_ticked k n b) (all_ticked_same k (omega (arith, le))) stamp j)

module _ (old mid : SessionsValue) (k : ℕ) (lt : k < old.size) (was : EndAs old (all_ticked k old.me.0 (ends_of old)) mid) where
  pub more_ticked : (new : SessionsValue) → EndAs mid (one_ticked k mid.me.0 (ends_of mid)) new → EndAs old (all_ticked (k + 1) old.me.0 (ends_of old)) new
  more_ticked new one = subst (λ (i : ℕ). EndAs old (all_ticked i old.me.0 (ends_of old)) new) (sym (add-one k)) (record {
    size = one.size ∙ was.size;
    me = one.me ∙ was.me;
    ends_are = λ m peer. one.ends_are m (ap (λ (f : ℕ → Bool). f m) (same_peers old mid was.size was.me) ∙ peer)
        ∙ (ap (λ (n : NodeNo). one_ticked k n.0 (ends_of mid) m) was.me
        ∙ ticked_same old.size old.me.0 k lt (ends_of mid) (all_ticked k old.me.0 (ends_of old)) was.ends_are m peer);
  })

  pub more_due : (stamp j : ℕ) (before after : List (end.Packet Message)) → before ≡ tick_to k old.me.0 stamp j (ends_of old) → after ≡ before ++ one_due k mid.me.0 stamp j (ends_of mid k)
      → after ≡ tick_to (k + 1) old.me.0 stamp j (ends_of old)
  more_due stamp j before after so_far more = subst (λ (i : ℕ). after ≡ tick_to i old.me.0 stamp j (ends_of old)) (sym (add-one k)) (more
      ∙ (ap (λ (l : List (end.Packet Message)). l ++ one_due k mid.me.0 stamp j (ends_of mid k)) so_far
      ∙ ap (λ (l : List (end.Packet Message)). tick_to k old.me.0 stamp j (ends_of old) ++ l)
      (ap (λ (n : NodeNo). one_due k n.0 stamp j (ends_of mid k)) was.me ∙ due_same old.size old.me.0 k lt (ends_of mid) (all_ticked k old.me.0 (ends_of old)) was.ends_are stamp j)))
