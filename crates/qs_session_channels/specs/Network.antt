-- Nodes that crash and restart, and all packets that were ever sent between them.
--
-- Each of these packets may come at any later moment, any number of times, or never: so a link may lose, repeat and hold them.
use Rattle.std.specs.Prelude.{◌≡◌, ◌≢◌, ◌⊎◌, ℕ, ◌==◌, ◌<◌, Bool, true, false, List, [], ◌∷◌, ◌++◌, Option, Some, None, option_to_list, if◌then◌else◌}
use Rattle.qs_session_channels.specs.End.{End, Packet, Answer, answer, left, fresh, sent, sent_packet, tick_packets, ticked}

pub record Network (M : Type 0) : Type 0 where
  pub inc : ℕ → ℕ  -- a node's last incarnation
  pub up : ℕ → Bool  -- whether it runs
  pub end : ℕ → ℕ → End M  -- a node's end of its session with another
  pub packets : ℕ → ℕ → List (Packet M)  -- all packets from a node to another, the newest first

pub data Event (M : Type 0) : Type 0 where
  Send : ℕ → ℕ → M → ℕ → Event M  -- n sends m a message, in a packet with that stamp
  Tick : ℕ → ℕ → ℕ → Event M  -- n's session with m ticks
  Receive : ℕ → ℕ → Packet M → Answer M → Event M  -- n receives any packet that m ever sent it, and answers it so
  Crash : ℕ → Event M
  Restart : ℕ → ℕ → Event M  -- n restarts with a higher incarnation

abbrev pub with_at : {A : Type 0} → (ℕ → A) → ℕ → A → ℕ → A
with_at f n x m = if m == n then x else f m

abbrev pub with_at2 : {A : Type 0} → (ℕ → ℕ → A) → ℕ → ℕ → A → ℕ → ℕ → A
with_at2 f n i x m j = if m == n then (if j == i then x else f m j) else f m j

abbrev pub Among : {A : Type 0} → List A → A → Type 0
Among [] p = ⊥
Among (x ∷ xs) p = (x ≡ p) ⊎ Among xs p

-- nobody has run yet
abbrev pub start : {M : Type 0} → (ℕ → ℕ) → Network M
start inc = record { inc = inc; up = λ n. false; end = λ n m. fresh 0; packets = λ n m. [] }

-- what an event needs
abbrev pub Can : {M : Type 0} → Event M → Network M → Type 0
Can (Send n m x stamp) w = w.up n ≡ true
Can (Tick n m stamp) w = w.up n ≡ true
Can (Receive n m p a) w = (w.up n ≡ true) × Among (w.packets m n) p × (answer (w.end n m) p ≡ a)
Can (Crash n) w = w.up n ≡ true
Can (Restart n i) w = (w.up n ≡ false) × (w.inc n < i)

-- and what it leaves; hello stands for no message
abbrev pub stepped : {M : Type 0} → M → Event M → Network M → Network M
stepped hello (Send n m x stamp) w = record w {
  end = with_at2 w.end n m (sent (w.end n m) x);
  packets = with_at2 w.packets n m (option_to_list (sent_packet (w.end n m) x stamp) ++ w.packets n m);
}
stepped hello (Tick n m stamp) w = record w {
  end = with_at2 w.end n m (ticked (w.end n m));
  packets = with_at2 w.packets n m (tick_packets hello (w.end n m) stamp ++ w.packets n m);
}
stepped hello (Receive n m p a) w = record w { end = with_at2 w.end n m (left a (w.end n m) p) }
stepped hello (Crash n) w = record w { up = with_at w.up n false }
stepped hello (Restart n i) w = record w {
  inc = with_at w.inc n i;
  up = with_at w.up n true;
  end = with_at w.end n (λ m. fresh i);
}

abbrev pub Run : {M : Type 0} → M → Network M → List (Event M) → Network M → Type 0
Run hello old [] new = new ≡ old
Run hello old (e ∷ es) new = Can e old × Run hello (stepped hello e old) es new
