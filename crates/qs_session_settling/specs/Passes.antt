-- Passes: rows of steps in which each side takes all that stood on the link to it as the pass began, and behind that ticks.
--
-- More may be done in a pass, in any order: further packets taken, messages sent, more ticks. So whatever two nodes do while their
-- links lose nothing is a row of passes, as long as each of them goes on taking and ticking.
use Rattle.std.specs.Prelude.{◌≡◌, ℕ, zero, suc, Bool, true, false, ◌&&◌, List, [], ◌∷◌, length, Option, Some, None}
use Rattle.qs_session_settling.specs.Pairs.{Pair, Action, Take, Send, Tick, Step, Left, Right, after}

-- the action of a step, where it is one of that side
abbrev pub of_left : {M : Type 0} → Step M → Option (Action M)
of_left (Left action) = Some action
of_left (Right action) = None

abbrev pub of_right : {M : Type 0} → Step M → Option (Action M)
of_right (Left action) = None
of_right (Right action) = Some action

-- that side takes at least n packets, and behind them ticks
abbrev pub takes_and_ticks : {M : Type 0} → (Step M → Option (Action M)) → ℕ → List (Step M) → Bool
takes_and_ticks of n [] = false
takes_and_ticks of n (step ∷ steps) = elim (of step) [
  | None ↦ takes_and_ticks of n steps
  | Some Take ↦ elim n [ zero ↦ takes_and_ticks of zero steps | suc k ↦ takes_and_ticks of k steps ]
  | Some (Send x stamp) ↦ takes_and_ticks of n steps
  | Some (Tick stamp) ↦ elim n [ zero ↦ true | suc k ↦ takes_and_ticks of (suc k) steps ]
]

abbrev pub is_pass : {M : Type 0} → Pair M → List (Step M) → Bool
is_pass old steps = takes_and_ticks of_left (length old.right.link) steps && takes_and_ticks of_right (length old.left.link) steps

-- no message is sent in these steps
abbrev pub sends_none : {M : Type 0} → List (Step M) → Bool
sends_none [] = true
sends_none (Left Take ∷ steps) = sends_none steps
sends_none (Left (Send x stamp) ∷ steps) = false
sends_none (Left (Tick stamp) ∷ steps) = sends_none steps
sends_none (Right Take ∷ steps) = sends_none steps
sends_none (Right (Send x stamp) ∷ steps) = false
sends_none (Right (Tick stamp) ∷ steps) = sends_none steps

-- so many passes, one behind the other
abbrev pub Passes : {M : Type 0} → M → ℕ → Pair M → Pair M → Type 0
Passes hello zero old new = new ≡ old
Passes {M} hello (suc n) old new = (steps : List (Step M)) × (is_pass old steps ≡ true) × Passes hello n (after hello steps old) new

-- and none in which a message is sent
abbrev pub QuietPasses : {M : Type 0} → M → ℕ → Pair M → Pair M → Type 0
QuietPasses hello zero old new = new ≡ old
QuietPasses {M} hello (suc n) old new = (steps : List (Step M)) × (is_pass old steps ≡ true) × (sends_none steps ≡ true) × QuietPasses hello n (after hello steps old) new
