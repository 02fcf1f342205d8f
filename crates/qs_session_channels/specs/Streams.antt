-- The messages of one kind as channels of their own, and what is said of all that is sent.
use Rattle.std.specs.Prelude.{◌≡◌, ℕ, Bool, true, false, List, [], ◌∷◌, ◌++◌}
use Rattle.std.specs.List.{filter, All}
use Rattle.qs_session_channels.specs.Channels.{Channels, Move, Wait, Post, Meet, Notice, Hand, Crash, Restart, with_at4}

-- ---- a kind of which none ever waits, since it answers a peer that is known

abbrev pub posted_of : {M : Type 0} → (M → Bool) → Channels M → ℕ → ℕ → ℕ → ℕ → List M
posted_of is c n m i j = filter is (c.posted n m i j)

abbrev pub handed_of : {M : Type 0} → (M → Bool) → Channels M → ℕ → ℕ → ℕ → ℕ → List M
handed_of is c n m i j = filter is (c.handed n m i j)

-- none of the kind waits
abbrev pub NoneWaits : {M : Type 0} → (M → Bool) → Channels M → Type 0
NoneWaits {M} is c = (n m : ℕ) → ◌≡◌ {A = List M} (filter is (c.waits n m)) []

-- the move makes none wait
abbrev pub IsDirect : {M : Type 0} → (M → Bool) → Move M → Type 0
IsDirect is (Wait n m x) = is x ≡ false
IsDirect is (Post n m x) = Unit {0}
IsDirect is (Meet n m j) = Unit {0}
IsDirect is (Notice n m j) = Unit {0}
IsDirect is (Hand n m x) = Unit {0}
IsDirect is (Crash n) = Unit {0}
IsDirect is (Restart n i) = Unit {0}

-- xs at one place, and nothing elsewhere
abbrev pub only_at : {M : Type 0} → ℕ → ℕ → ℕ → ℕ → List M → ℕ → ℕ → ℕ → ℕ → List M
only_at a b h k xs = with_at4 (λ n m i j. []) a b h k xs

-- what a move posts of the kind
abbrev pub posts_of : {M : Type 0} → (M → Bool) → Move M → Channels M → ℕ → ℕ → ℕ → ℕ → List M
posts_of is (Wait n m x) c = λ k l i j. []
posts_of is (Post n m x) c = only_at n m (c.inc n) (c.peer n m) (filter is (x ∷ []))
posts_of is (Meet n m j) c = λ k l i h. []
posts_of is (Notice n m j) c = λ k l i h. []
posts_of is (Hand n m x) c = λ k l i j. []
posts_of is (Crash n) c = λ k l i j. []
posts_of is (Restart n i) c = λ k l h j. []

-- and what it hands up of it
abbrev pub hands_of : {M : Type 0} → (M → Bool) → Move M → Channels M → ℕ → ℕ → ℕ → ℕ → List M
hands_of is (Wait n m x) c = λ k l i j. []
hands_of is (Post n m x) c = λ k l i j. []
hands_of is (Meet n m j) c = λ k l i h. []
hands_of is (Notice n m j) c = λ k l i h. []
hands_of is (Hand n m x) c = only_at m n (c.peer n m) (c.inc n) (filter is (x ∷ []))
hands_of is (Crash n) c = λ k l i j. []
hands_of is (Restart n i) c = λ k l h j. []

-- from c to d the move appends that, and nothing else changes of the kind
pub record IsStream {M : Type 0} (is : M → Bool) (move : Move M) (c d : Channels M) : Type 0 where
  pub posted : (n m i j : ℕ) → posted_of is d n m i j ≡ posted_of is c n m i j ++ posts_of is move c n m i j
  pub handed : (n m i j : ℕ) → handed_of is d n m i j ≡ handed_of is c n m i j ++ hands_of is move c n m i j

-- ---- what holds of each message that is sent, by its sender's node and incarnation and by its receiver

abbrev pub says : {M : Type 0} → (ℕ → ℕ → ℕ → M → Bool) → ℕ → ℕ → ℕ → M → Type 0
says p n i m x = p n i m x ≡ true

pub record AllSaid {M : Type 0} (P : ℕ → ℕ → ℕ → M → Type 0) (c : Channels M) : Type 0 where
  pub posted : (n m i j : ℕ) → All (P n i m) (c.posted n m i j)
  pub waits : (n m : ℕ) → All (P n (c.inc n) m) (c.waits n m)

-- it holds of what the move sends
abbrev pub SaysWell : {M : Type 0} → (ℕ → ℕ → ℕ → M → Type 0) → Move M → Channels M → Type 0
SaysWell P (Wait n m x) c = P n (c.inc n) m x
SaysWell P (Post n m x) c = P n (c.inc n) m x
SaysWell P (Meet n m j) c = Unit {0}
SaysWell P (Notice n m j) c = Unit {0}
SaysWell P (Hand n m x) c = Unit {0}
SaysWell P (Crash n) c = Unit {0}
SaysWell P (Restart n i) c = Unit {0}

-- and so of what the move hands up
abbrev pub HearsWell : {M : Type 0} → (ℕ → ℕ → ℕ → M → Type 0) → Move M → Channels M → Type 0
HearsWell P (Wait n m x) c = Unit {0}
HearsWell P (Post n m x) c = Unit {0}
HearsWell P (Meet n m j) c = Unit {0}
HearsWell P (Notice n m j) c = Unit {0}
HearsWell P (Hand n m x) c = P m (c.peer n m) n x
HearsWell P (Crash n) c = Unit {0}
HearsWell P (Restart n i) c = Unit {0}
