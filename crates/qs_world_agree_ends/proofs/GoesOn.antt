-- What becomes of request j from p to q while p has not covered it, in every world.
use Rattle.std.proofs.Common.{◌≡◌, ◌≢◌, ◌⊎◌, ℕ, ◌<◌, ◌≤◌, true, false}
use Rattle.qs_world_agree.specs.World.{World}

-- the last of the answers from q to p is coming, and covers it
abbrev pub IsBack : World → ℕ → ℕ → ℕ → Type 0
IsBack w p q j = (w.closers_taken p q < w.closers q p) × (j ≤ w.closer q p (w.closers q p))

-- q is engaged, and owes p's node an answer that covers it
abbrev pub IsHeld : World → ℕ → ℕ → ℕ → Type 0
IsHeld w p q j = (w.engaged q ≡ true) × (q ≢ w.home) × (w.superior q ≡ w.node p) × (j ≤ w.last q p)

-- while p runs, is engaged and has no cause Gone, it is still to be handed up, or one of these
abbrev pub GoesOn : World → ℕ → ℕ → ℕ → Type 0
GoesOn w p q j = w.up p ≡ true → w.engaged p ≡ true → w.gone p ≡ false → w.covered p (w.node q) < j → j ≤ w.posted p q → (w.received q p < j) ⊎ (IsBack w p q j ⊎ IsHeld w p q j)
