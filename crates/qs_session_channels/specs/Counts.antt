-- The messages of one kind, counted: how a machine that keeps numbers alone sees the channels.
use Rattle.std.specs.Prelude.{◌≡◌, ◌≢◌, ℕ, ◌+◌, ◌==◌, ◌<◌, ◌≤◌, Bool, true, false, List, [], ◌∷◌, ◌++◌, count_by, if◌then◌else◌}
use Rattle.qs_session_channels.specs.Network.{with_at2}
use Rattle.qs_session_channels.specs.Channels.{Channels, Move, Wait, Post, Meet, Notice, Hand, Crash, Restart, with_at4}

pub record Numbers : Type 0 where
  pub sent : ℕ → ℕ → ℕ → ℕ  -- sent n i m: how many incarnation i of n has for m
  pub posted : ℕ → ℕ → ℕ → ℕ → ℕ  -- posted n m i j: up to which number they were posted for incarnation j of m
  pub received : ℕ → ℕ → ℕ → ℕ → ℕ  -- received n m i j: up to which number they were handed up there, or went to an earlier incarnation of m

abbrev pub with_at3 : {A : Type 0} → (ℕ → ℕ → ℕ → A) → ℕ → ℕ → ℕ → A → ℕ → ℕ → ℕ → A
with_at3 f n i m x k j l = if k == n then (if j == i then (if l == m then x else f k j l) else f k j l) else f k j l

abbrev pub none_sent : Numbers
none_sent = record { sent = λ n i m. 0; posted = λ n m i j. 0; received = λ n m i j. 0 }

-- what a move makes of the numbers of the messages that are of the kind
abbrev pub counted : {M : Type 0} → (M → Bool) → Move M → Channels M → Numbers → Numbers
counted is (Wait n m x) c u = if is x then record u { sent = with_at3 u.sent n (c.inc n) m (u.sent n (c.inc n) m + 1) } else u
counted is (Post n m x) c u = if is x then record u {
  sent = with_at3 u.sent n (c.inc n) m (u.sent n (c.inc n) m + 1);
  posted = with_at4 u.posted n m (c.inc n) (c.peer n m) (u.sent n (c.inc n) m + 1);
} else u
counted is (Meet n m j) c u = record u { posted = with_at4 u.posted n m (c.inc n) j (u.sent n (c.inc n) m) }
counted is (Notice n m j) c u = record u {
  posted = with_at4 u.posted n m (c.inc n) j (u.sent n (c.inc n) m);
  received = with_at4 u.received n m (c.inc n) j (u.sent n (c.inc n) m);
}
counted is (Hand n m x) c u = if is x then record u { received = with_at4 u.received m n (c.peer n m) (c.inc n) (u.received m n (c.peer n m) (c.inc n) + 1) } else u
counted is (Crash n) c u = u
counted is (Restart n i) c u = u

-- a number is handed up next only where it was posted
abbrev pub IsThere : {M : Type 0} → (M → Bool) → Move M → Channels M → Numbers → Type 0
IsThere is (Wait n m x) c u = Unit {0}
IsThere is (Post n m x) c u = Unit {0}
IsThere is (Meet n m j) c u = Unit {0}
IsThere is (Notice n m j) c u = Unit {0}
IsThere is (Hand n m x) c u = is x ≡ true → u.received m n (c.peer n m) (c.inc n) < u.posted m n (c.peer n m) (c.inc n)
IsThere is (Crash n) c u = Unit {0}
IsThere is (Restart n i) c u = Unit {0}

-- the numbers are those of the lists
pub record Counted {M : Type 0} (is : M → Bool) (c : Channels M) (u : Numbers) : Type 0 where
  pub apart : (n m i j : ℕ) → u.posted n m i j + count_by is (c.handed n m i j) ≡ u.received n m i j + count_by is (c.posted n m i j)  -- what is posted and not handed up is as much as in the lists
  pub all_put : (n m : ℕ) → c.peer n m ≢ 0 → u.posted n m (c.inc n) (c.peer n m) ≡ u.sent n (c.inc n) m
  pub all_wait : (n m : ℕ) → c.peer n m ≡ 0 → u.sent n (c.inc n) m ≡ count_by is (c.waits n m)
  pub unposted : (n m j : ℕ) → c.peer n m < j → (c.posted n m (c.inc n) j ≡ []) × (c.handed n m (c.inc n) j ≡ []) × (u.received n m (c.inc n) j ≡ 0)
  pub later : (n m i j : ℕ) → c.inc n < i → (c.posted n m i j ≡ []) × (c.handed n m i j ≡ []) × (u.received n m i j ≡ 0) × (u.sent n i m ≡ 0)
