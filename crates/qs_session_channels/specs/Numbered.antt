-- Messages of one kind that bear numbers, from 1 for each pair of an incarnation and a node.
use Rattle.std.specs.Prelude.{◌≡◌, ◌≢◌, ℕ, ◌+◌, ◌<◌, Bool, true, false, List, [], ◌∷◌, ◌++◌, count_by, if◌then◌else◌}
use Rattle.qs_session_channels.specs.Channels.{Channels, Move, Wait, Post, Meet, Notice, Hand, Crash, Restart}
use Rattle.qs_session_channels.specs.Counts.{Numbers}

-- those of the kind bear the numbers from k + 1 on, in order
abbrev pub Bears : {M : Type 0} → (M → Bool) → (M → ℕ) → ℕ → List M → Type 0
Bears is number k [] = Unit {0}
Bears is number k (x ∷ xs) = (is x ≡ true → number x ≡ k + 1) × Bears is number (if is x then k + 1 else k) xs

-- a node gives each the next number
abbrev pub IsNumberedNext : {M : Type 0} → (M → Bool) → (M → ℕ) → Move M → Channels M → Numbers → Type 0
IsNumberedNext is number (Wait n m x) c u = is x ≡ true → number x ≡ u.sent n (c.inc n) m + 1
IsNumberedNext is number (Post n m x) c u = is x ≡ true → number x ≡ u.sent n (c.inc n) m + 1
IsNumberedNext is number (Meet n m j) c u = Unit {0}
IsNumberedNext is number (Notice n m j) c u = Unit {0}
IsNumberedNext is number (Hand n m x) c u = Unit {0}
IsNumberedNext is number (Crash n) c u = Unit {0}
IsNumberedNext is number (Restart n i) c u = Unit {0}

-- what was not handed up bears the numbers behind those that were
pub record Numbered {M : Type 0} (is : M → Bool) (number : M → ℕ) (c : Channels M) (u : Numbers) : Type 0 where
  pub posted : (n m i j : ℕ) (rest : List M) → c.posted n m i j ≡ c.handed n m i j ++ rest → Bears is number (u.received n m i j) rest
  pub waits : (n m : ℕ) → Bears is number 0 (c.waits n m)

-- so the next one that is handed up bears the next number
abbrev pub BearsNext : {M : Type 0} → (M → Bool) → (M → ℕ) → Move M → Channels M → Numbers → Type 0
BearsNext is number (Wait n m x) c u = Unit {0}
BearsNext is number (Post n m x) c u = Unit {0}
BearsNext is number (Meet n m j) c u = Unit {0}
BearsNext is number (Notice n m j) c u = Unit {0}
BearsNext is number (Hand n m x) c u = is x ≡ true → number x ≡ u.received m n (c.peer n m) (c.inc n) + 1
BearsNext is number (Crash n) c u = Unit {0}
BearsNext is number (Restart n i) c u = Unit {0}
