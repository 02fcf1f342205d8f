-- One session of a node is read in its place, and changed there.
use Rattle.std.proofs.Common.{◌≡◌, ℕ, ◌+◌, ◌≤◌, ◌<◌, ◌==◌, Bool, true, false, List, refl, sym, ap, subst, ◌∙◌, get_or, length, set, if◌then◌else◌}
use Rattle.std.proofs.lemmas.Bool.{eqb-false, eqb-true}
use Rattle.std.proofs.lemmas.List.{get_or_read, length-set}
use Rattle.qs_base.specs.declared.identifiers.NodeNo.{NodeNo}
use Rattle.qs_session_channels.specs.End.{End, fresh}
use Rattle.qs_session_channels.specs.Network.{with_at}
use Rattle.qs_packet.specs.declared.message.Message.{Message}
use Rattle.qs_session.specs.Seen.{SessionValue}
use Rattle.qs_session.specs.Spelled.{IsSpelled}
use Rattle.qs_cell_peers.specs.Peers.{is_peer, place}
use Rattle.qs_cell_peers.specs.Sessions.{AreSessions, EndAs, IsSessionWith, SessionsValue, ends_of, is_peer_of, session_at}
use Rattle.qs_cell_peers.proofs.Places.{elsewhere, peer_is, place_below, there}

abbrev pub sessions : NodeNo → List SessionValue → SessionsValue
sessions n xs = record { size = length xs + 1; me = n; sessions = xs }

-- where there is none it would be this one
abbrev none : NodeNo → ℕ → SessionValue
none n m = record { me = n; peer = record { 0 = m }; end = fresh 0 }

-- the session with node m was read in its place
pub record IsRead (v : SessionsValue) (n : NodeNo) (xs : List SessionValue) (m at : ℕ) (old : SessionValue) : Type 0 where
  pub is : sessions n xs ≡ v
  pub kept : AreSessions n xs
  pub peer : is_peer (length xs + 1) n.0 m ≡ true
  pub at_is : at ≡ place n.0 m
  pub old_is : old ≡ get_or xs at old

module _ (v : SessionsValue) (n : NodeNo) (xs : List SessionValue) (m at : ℕ) (old : SessionValue) (r : IsRead v n xs m at old) where
  was : old ≡ session_at n xs m
  was = get_or_read xs (place n.0 m) old (place_below (length xs) n.0 m r.kept.in_run r.peer) (subst (λ (i : ℕ). old ≡ get_or xs i old) r.at_is r.old_is) (none n m)

  -- it is of this node with that one
  pub is_with : IsSessionWith n m old
  is_with = subst (IsSessionWith n m) (sym was) (r.kept.each m r.peer)

  pub end_is : ends_of v m ≡ old.end
  end_is = subst (λ (w : SessionsValue). ends_of w m ≡ old.end) r.is (ap (λ (s : SessionValue). s.end) (sym was))

  pub peer_in : is_peer_of v m ≡ true
  peer_in = subst (λ (w : SessionsValue). is_peer_of w m ≡ true) r.is r.peer

  here : (x : SessionValue) → session_at n (set xs (place n.0 m) x) m ≡ x
  here x = there xs n.0 m x (none n m) r.kept.in_run r.peer

  others : (x : SessionValue) (k : ℕ) → is_peer (length xs + 1) n.0 k ≡ true → (m == k) ≡ false → session_at n (set xs (place n.0 m) x) k ≡ session_at n xs k
  others x k peer_k apart = elsewhere xs n.0 m x (none n k) k (peer_is (length xs + 1) n.0 m r.peer).1 (peer_is (length xs + 1) n.0 k peer_k).1 (λ e. eqb-false m k apart (sym e))

  same_size : (x : SessionValue) → length (set xs (place n.0 m) x) + 1 ≡ length xs + 1
  same_size x = ap (λ (k : ℕ). k + 1) (length-set xs (place n.0 m) x)

  still_each : (x : SessionValue) → IsSessionWith n m x → (k : ℕ) → is_peer (length xs + 1) n.0 k ≡ true → (b : Bool) → (m == k) ≡ b → IsSessionWith n k (session_at n (set xs (place n.0 m) x) k)
  still_each x new k peer_k true is = subst (λ (j : ℕ). IsSessionWith n j (session_at n (set xs (place n.0 m) x) j)) (eqb-true m k is) (subst (IsSessionWith n m) (sym (here x)) new)
  still_each x new k peer_k false is = subst (IsSessionWith n k) (sym (others x k peer_k is)) (r.kept.each k peer_k)

  -- all are what they should be where another one stands in its place
  pub still_kept : (x : SessionValue) → IsSessionWith n m x → AreSessions n (set xs at x)
  still_kept x new = subst (λ (i : ℕ). AreSessions n (set xs i x)) (sym r.at_is) (record {
    in_run = subst (λ (k : ℕ). n.0 < k) (sym (same_size x)) r.kept.in_run;
    few = subst (λ (k : ℕ). k ≤ 8) (sym (same_size x)) r.kept.few;
    each = λ k peer_k. still_each x new k (subst (λ (size : ℕ). is_peer size n.0 k ≡ true) (same_size x) peer_k) (m == k) refl;
  })

  -- another end of the same session
  pub with_end : (x : SessionValue) (e : End Message) → x ≡ record old { end = e } → IsSpelled x → IsSessionWith n m x
  with_end x e is spelled = record {
    me = ap (λ (s : SessionValue). s.me) is ∙ is_with.me;
    peer = ap (λ (s : SessionValue). s.peer.0) is ∙ is_with.peer;
    spelled = spelled;
  }

  -- and so the ends are then
  pub ends_there : (x : SessionValue) (f : End Message → End Message) → x ≡ record old { end = f old.end } → EndAs v (with_at (ends_of v) m (f (ends_of v m))) (sessions n (set xs at x))
  ends_there x f is = subst (λ (i : ℕ). EndAs v (with_at (ends_of v) m (f (ends_of v m))) (sessions n (set xs i x))) (sym r.at_is)
      (subst (λ (w : SessionsValue). EndAs w (with_at (ends_of w) m (f (ends_of w m))) (sessions n (set xs (place n.0 m) x))) r.is
      (record { size = same_size x; me = refl; ends_are = λ k peer_k. by k peer_k (k == m) refl }))
    where
      by : (k : ℕ) → is_peer (length xs + 1) n.0 k ≡ true → (b : Bool) → (k == m) ≡ b → (session_at n (set xs (place n.0 m) x) k).end ≡ (if b then f (session_at n xs m).end else (session_at n xs k).end)
      by k peer_k true e = ap (λ (j : ℕ). (session_at n (set xs (place n.0 m) x) j).end) (eqb-true k m e)
          ∙ (ap (λ (s : SessionValue). s.end) (here x ∙ is) ∙ ap (λ (s : SessionValue). f s.end) was)
      by k peer_k false e = ap (λ (s : SessionValue). s.end) (elsewhere xs n.0 m x (none n k) k (peer_is (length xs + 1) n.0 m r.peer).1 (peer_is (length xs + 1) n.0 k peer_k).1 (eqb-false k m e))
