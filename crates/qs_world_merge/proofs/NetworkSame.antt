-- What happens to the network at one node: it leaves the same wherever the node has the same, and leaves what other nodes have.
use Rattle.qs_world_merge.proofs.Words.{◌≡◌, ℕ, ◌==◌, Bool, true, false, List, [], ◌∷◌, ◌++◌, refl, sym, ap, ◌∙◌, if◌then◌else◌, option_to_list, eqb-self, End, Packet, answer, sent_packet, tick_packets, Network, with_at, Sending, Parcel, send_all, send_next, hello, SameNetworkAt}
use Rattle.qs_session_channels.specs.End.{Answer, fresh, left, sent, ticked}
use Rattle.qs_session_channels.specs.Network.{Tick, Receive, Crash, Restart, stepped, with_at2}

-- ---- values at places

pub cond_alike : {A : Type 0} (b : Bool) (x y u v : A) → x ≡ y → u ≡ v → (if b then x else u) ≡ (if b then y else v)
cond_alike true x y u v p q = p
cond_alike false x y u v p q = q

pub at_place : {A : Type 0} (f : ℕ → A) (n : ℕ) (x : A) → with_at f n x n ≡ x
at_place f n x = rw (eqb-self n) refl

pub at_other : {A : Type 0} (f : ℕ → A) (n : ℕ) (x : A) (m : ℕ) → (m == n) ≡ false → with_at f n x m ≡ f m
at_other f n x m other = rw other refl

pub at_alike : {A : Type 0} (f g : ℕ → A) (n : ℕ) (x y : A) → x ≡ y → with_at f n x n ≡ with_at g n y n
at_alike f g n x y is = at_place f n x ∙ (is ∙ sym (at_place g n y))

pub row_alike : {A : Type 0} (f g : ℕ → ℕ → A) (n i : ℕ) (x y : A) → x ≡ y → ((m : ℕ) → f n m ≡ g n m) → (m : ℕ) → with_at2 f n i x n m ≡ with_at2 g n i y n m
row_alike f g n i x y is same m = rw (eqb-self n) (cond_alike (m == i) x y (f n m) (g n m) is (same m))

pub row_other : {A : Type 0} (f : ℕ → ℕ → A) (n i : ℕ) (x : A) (k : ℕ) → (k == n) ≡ false → (m : ℕ) → with_at2 f n i x k m ≡ f k m
row_other f n i x k other m = rw other refl

-- ---- what a node has of the network

pub same_network : (n : ℕ) (a : Network Parcel) → SameNetworkAt n a a
same_network n a = record { inc = refl; up = refl; ends = λ m. refl; packets = λ m. refl }

pub network_then : (n : ℕ) (a b c : Network Parcel) → SameNetworkAt n a b → SameNetworkAt n b c → SameNetworkAt n a c
network_then n a b c s t = record { inc = s.inc ∙ t.inc; up = s.up ∙ t.up; ends = λ m. s.ends m ∙ t.ends m; packets = λ m. s.packets m ∙ t.packets m }

-- ---- the node's own events

pub send_alike : (n stamp : ℕ) (a b : Network Parcel) (s : Sending) → SameNetworkAt n a b → SameNetworkAt n (send_next n stamp a s) (send_next n stamp b s)
send_alike n stamp a b s same = record {
  inc = same.inc;
  up = same.up;
  ends = row_alike a.end b.end n s.to.0 (sent (a.end n s.to.0) parcel) (sent (b.end n s.to.0) parcel) (ap (λ (e : End Parcel). sent e parcel) (same.ends s.to.0)) same.ends;
  packets = row_alike a.packets b.packets n s.to.0 (option_to_list (sent_packet (a.end n s.to.0) parcel stamp) ++ a.packets n s.to.0) (option_to_list (sent_packet (b.end n s.to.0) parcel stamp) ++ b.packets n s.to.0)
      (ap (λ (e : End Parcel). option_to_list (sent_packet e parcel stamp) ++ a.packets n s.to.0) (same.ends s.to.0) ∙ ap (λ (ps : List (Packet Parcel)). option_to_list (sent_packet (b.end n s.to.0) parcel stamp) ++ ps) (same.packets s.to.0)) same.packets;
}
  where
    parcel : Parcel
    parcel = record { stamp = stamp; message = s.message }

pub sends_alike : (n stamp : ℕ) (sendings : List Sending) (a b : Network Parcel) → SameNetworkAt n a b → SameNetworkAt n (send_all n stamp sendings a) (send_all n stamp sendings b)
sends_alike n stamp [] a b same = same
sends_alike n stamp (s ∷ sendings) a b same = sends_alike n stamp sendings (send_next n stamp a s) (send_next n stamp b s) (send_alike n stamp a b s same)

pub tick_alike : (n m stamp : ℕ) (a b : Network Parcel) → SameNetworkAt n a b → SameNetworkAt n (stepped hello (Tick n m stamp) a) (stepped hello (Tick n m stamp) b)
tick_alike n m stamp a b same = record {
  inc = same.inc;
  up = same.up;
  ends = row_alike a.end b.end n m (ticked (a.end n m)) (ticked (b.end n m)) (ap (λ (e : End Parcel). ticked e) (same.ends m)) same.ends;
  packets = row_alike a.packets b.packets n m (tick_packets hello (a.end n m) stamp ++ a.packets n m) (tick_packets hello (b.end n m) stamp ++ b.packets n m)
      (ap (λ (e : End Parcel). tick_packets hello e stamp ++ a.packets n m) (same.ends m) ∙ ap (λ (ps : List (Packet Parcel)). tick_packets hello (b.end n m) stamp ++ ps) (same.packets m)) same.packets;
}

pub receive_alike : (n m : ℕ) (p : Packet Parcel) (a b : Network Parcel) → SameNetworkAt n a b → SameNetworkAt n (stepped hello (Receive n m p (answer (a.end n m) p)) a) (stepped hello (Receive n m p (answer (b.end n m) p)) b)
receive_alike n m p a b same = record {
  inc = same.inc;
  up = same.up;
  ends = row_alike a.end b.end n m (left (answer (a.end n m) p) (a.end n m) p) (left (answer (b.end n m) p) (b.end n m) p) (ap (λ (e : End Parcel). left (answer e p) e p) (same.ends m)) same.ends;
  packets = same.packets;
}

pub crash_alike : (n : ℕ) (a b : Network Parcel) → SameNetworkAt n a b → SameNetworkAt n (stepped hello (Crash n) a) (stepped hello (Crash n) b)
crash_alike n a b same = record { inc = same.inc; up = at_alike a.up b.up n false false refl; ends = same.ends; packets = same.packets }

pub restart_alike : (n inc : ℕ) (a b : Network Parcel) → SameNetworkAt n a b → SameNetworkAt n (stepped hello (Restart n inc) a) (stepped hello (Restart n inc) b)
restart_alike n inc a b same = record {
  inc = at_alike a.inc b.inc n inc inc refl;
  up = at_alike a.up b.up n true true refl;
  ends = λ m. ap (λ (f : ℕ → End Parcel). f m) (at_alike a.end b.end n (λ k. fresh inc) (λ k. fresh inc) refl);
  packets = same.packets;
}

-- ---- the events of another node

pub send_other : (k n stamp : ℕ) (a : Network Parcel) (s : Sending) → (k == n) ≡ false → SameNetworkAt k (send_next n stamp a s) a
send_other k n stamp a s other = record {
  inc = refl;
  up = refl;
  ends = row_other a.end n s.to.0 _ k other;
  packets = row_other a.packets n s.to.0 _ k other;
}

pub sends_other : (k n stamp : ℕ) (sendings : List Sending) (a : Network Parcel) → (k == n) ≡ false → SameNetworkAt k (send_all n stamp sendings a) a
sends_other k n stamp [] a other = same_network k a
sends_other k n stamp (s ∷ sendings) a other = network_then k (send_all n stamp sendings (send_next n stamp a s)) (send_next n stamp a s) a (sends_other k n stamp sendings (send_next n stamp a s) other) (send_other k n stamp a s other)

pub tick_other : (k n m stamp : ℕ) (a : Network Parcel) → (k == n) ≡ false → SameNetworkAt k (stepped hello (Tick n m stamp) a) a
tick_other k n m stamp a other = record { inc = refl; up = refl; ends = row_other a.end n m _ k other; packets = row_other a.packets n m _ k other }

pub receive_other : (k n m : ℕ) (p : Packet Parcel) (x : Answer Parcel) (a : Network Parcel) → (k == n) ≡ false → SameNetworkAt k (stepped hello (Receive n m p x) a) a
receive_other k n m p x a other = record { inc = refl; up = refl; ends = row_other a.end n m _ k other; packets = λ j. refl }

pub crash_other : (k n : ℕ) (a : Network Parcel) → (k == n) ≡ false → SameNetworkAt k (stepped hello (Crash n) a) a
crash_other k n a other = record { inc = refl; up = at_other a.up n false k other; ends = λ m. refl; packets = λ m. refl }

pub restart_other : (k n inc : ℕ) (a : Network Parcel) → (k == n) ≡ false → SameNetworkAt k (stepped hello (Restart n inc) a) a
restart_other k n inc a other = record {
  inc = at_other a.inc n inc k other;
  up = at_other a.up n true k other;
  ends = λ m. ap (λ (f : ℕ → End Parcel). f m) (at_other a.end n (λ j. fresh inc) k other);
  packets = λ m. refl;
}
