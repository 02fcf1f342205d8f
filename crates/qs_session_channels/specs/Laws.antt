-- What holds over channels.
use Rattle.std.specs.Prelude.{◌≡◌, ◌≢◌, ℕ, ◌+◌, ◌<◌, ◌≤◌, Bool, true, false, List, [], ◌∷◌, ◌++◌}
use Rattle.qs_session_channels.specs.Network.{Network}
use Rattle.qs_session_channels.specs.Channels.{Channels}

-- what was handed up is a prefix of what was posted, in order, each once
abbrev pub IsOrdered : {M : Type 0} → Channels M → Type 0
IsOrdered {M} c = (n m i j : ℕ) → (rest : List M) × (c.posted n m i j ≡ c.handed n m i j ++ rest)

-- from one moment to a later one
pub record Lasts {M : Type 0} (c d : Channels M) : Type 0 where
  pub inc : (n : ℕ) → c.inc n ≤ d.inc n
  pub rises : (n m : ℕ) → d.inc n ≡ c.inc n → c.peer n m ≤ d.peer n m  -- what an incarnation knows of another rises
  pub old_peer : (n m i : ℕ) → i < c.peer n m → d.handed m n i (c.inc n) ≡ c.handed m n i (c.inc n)  -- nothing of an incarnation is handed up once a later one is known
  pub old_self : (n m i j : ℕ) → j < c.inc n → d.handed m n i j ≡ c.handed m n i j  -- nothing for an earlier incarnation is handed up
  pub posted_before : (n m j : ℕ) → j < c.peer n m → d.posted n m (c.inc n) j ≡ c.posted n m (c.inc n) j  -- nothing more is posted for an incarnation once a later one is known
  pub posted_by_old : (n m i j : ℕ) → i < c.inc n → d.posted n m i j ≡ c.posted n m i j  -- nothing more is posted by an earlier incarnation

-- where an end has met the present incarnation of its peer, that one knows this incarnation: it needs no greeting any more
abbrev pub HasMet : {M : Type 0} → Network M → Type 0
HasMet w = (n m : ℕ) → w.up n ≡ true → w.up m ≡ true → (w.end n m).met ≡ true → (w.end n m).known ≡ w.inc m → (w.end m n).known ≡ w.inc n
