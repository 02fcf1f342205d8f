-- Nodes that crash and restart, with an ordered channel for each pair of incarnations.
use Rattle.std.specs.Prelude.{◌≡◌, ◌≢◌, ℕ, ◌==◌, ◌<◌, ◌≤◌, Bool, true, false, List, [], ◌∷◌, ◌++◌, if◌then◌else◌}
use Rattle.qs_session_channels.specs.Network.{with_at, with_at2}

pub record Channels (M : Type 0) : Type 0 where
  pub inc : ℕ → ℕ  -- a node's last incarnation
  pub up : ℕ → Bool  -- whether it runs
  pub peer : ℕ → ℕ → ℕ  -- the incarnation of another that a node knows, or 0
  pub waits : ℕ → ℕ → List M  -- what a node has for another that it does not know
  pub posted : ℕ → ℕ → ℕ → ℕ → List M  -- posted n m i j: all that incarnation i of n has for incarnation j of m
  pub handed : ℕ → ℕ → ℕ → ℕ → List M  -- handed n m i j: all of it that was handed up

pub data Move (M : Type 0) : Type 0 where
  Wait : ℕ → ℕ → M → Move M  -- n has a message for m, of which it knows no incarnation
  Post : ℕ → ℕ → M → Move M  -- n has a message for the incarnation of m that it knows
  Meet : ℕ → ℕ → ℕ → Move M  -- n gets to know a first incarnation of m: what waited is posted
  Notice : ℕ → ℕ → ℕ → Move M  -- n learns of a later incarnation of m
  Hand : ℕ → ℕ → M → Move M  -- the next message of m is handed up at n
  Crash : ℕ → Move M
  Restart : ℕ → ℕ → Move M

-- the value at one pair of nodes and one pair of incarnations changed
abbrev pub with_at4 : {A : Type 0} → (ℕ → ℕ → ℕ → ℕ → A) → ℕ → ℕ → ℕ → ℕ → A → ℕ → ℕ → ℕ → ℕ → A
with_at4 f n m i j x = with_at2 f n m (with_at2 (f n m) i j x)

-- x is the next of a list of which some were handed up
abbrev pub IsNext : {M : Type 0} → List M → List M → M → Type 0
IsNext {M} posted handed x = (rest : List M) × (posted ≡ handed ++ x ∷ rest)

abbrev pub opening : {M : Type 0} → (ℕ → ℕ) → Channels M
opening inc = record { inc = inc; up = λ n. false; peer = λ n m. 0; waits = λ n m. []; posted = λ n m i j. []; handed = λ n m i j. [] }

-- what a move needs
abbrev pub May : {M : Type 0} → Move M → Channels M → Type 0
May (Wait n m x) c = (c.up n ≡ true) × (c.peer n m ≡ 0)
May (Post n m x) c = (c.up n ≡ true) × (c.peer n m ≢ 0)
May (Meet n m j) c = (c.up n ≡ true) × (c.peer n m ≡ 0) × (1 ≤ j) × (j ≤ c.inc m)
May (Notice n m j) c = (c.up n ≡ true) × (c.peer n m ≢ 0) × (c.peer n m < j) × (j ≤ c.inc m)
May (Hand n m x) c = (c.up n ≡ true) × (c.peer n m ≢ 0) × IsNext (c.posted m n (c.peer n m) (c.inc n)) (c.handed m n (c.peer n m) (c.inc n)) x
May (Crash n) c = c.up n ≡ true
May (Restart n i) c = (c.up n ≡ false) × (c.inc n < i)

-- and what it leaves
abbrev pub moved : {M : Type 0} → Move M → Channels M → Channels M
moved (Wait n m x) c = record c { waits = with_at2 c.waits n m (c.waits n m ++ x ∷ []) }
moved (Post n m x) c = record c { posted = with_at4 c.posted n m (c.inc n) (c.peer n m) (c.posted n m (c.inc n) (c.peer n m) ++ x ∷ []) }
moved (Meet n m j) c = record c {
  peer = with_at2 c.peer n m j;
  posted = with_at4 c.posted n m (c.inc n) j (c.posted n m (c.inc n) j ++ c.waits n m);
  waits = with_at2 c.waits n m [];
}
moved (Notice n m j) c = record c { peer = with_at2 c.peer n m j }
moved (Hand n m x) c = record c { handed = with_at4 c.handed m n (c.peer n m) (c.inc n) (c.handed m n (c.peer n m) (c.inc n) ++ x ∷ []) }
moved (Crash n) c = record c { up = with_at c.up n false }
moved (Restart n i) c = record c {
  inc = with_at c.inc n i;
  up = with_at c.up n true;
  peer = with_at c.peer n (λ m. 0);
  waits = with_at c.waits n (λ m. []);
}

abbrev pub MovesOn : {M : Type 0} → Channels M → List (Move M) → Channels M → Type 0
MovesOn old [] new = new ≡ old
MovesOn old (e ∷ es) new = May e old × MovesOn (moved e old) es new
