-- What becomes of a request that its sender has not covered.
use Rattle.std.specs.Prelude.{◌≡◌, ◌≢◌, ◌⊎◌, ℕ, ◌<◌, ◌≤◌, true, false}
use Rattle.qs_world_agree.specs.World.{Open, World}
use Rattle.qs_world_agree.specs.Doomed.{IsLeft, IsKeptBack}
use Rattle.qs_world_agree.specs.Laws.{IsReached}

-- a place that may hope for answers to what it sent: it runs, has decided nothing if it is the home, and has no cause Gone
pub record IsHopeful (w : World) (p : ℕ) : Type 0 where
  pub runs : w.up p ≡ true
  pub undecided : p ≡ w.home → w.outcome p ≡ Open
  pub not_gone : w.gone p ≡ false

-- request j of p was put for q, and p has not covered it
pub record IsUncovered (w : World) (p q j : ℕ) : Type 0 where
  pub put : j ≤ w.posted p q
  pub uncovered : w.covered p (w.node q) < j

-- a Covered or VotedYes from q to p that covers request j is on its way
pub record IsComing (w : World) (q p j : ℕ) : Type 0 where
  pub index : ℕ
  pub untaken : w.closers_taken p q < index
  pub put : index ≤ w.closers q p
  pub covers : j ≤ w.closer q p index

-- q is engaged and answers to p's node, and the last request that it took of p is j or a later one
pub record IsOwed (w : World) (q p j : ℕ) : Type 0 where
  pub engaged : w.engaged q ≡ true
  pub other : q ≢ w.home
  pub superior : w.superior q ≡ w.node p
  pub taken : j ≤ w.last q p

-- what was sent and is not covered is kept back, or was put for the place that its sender knows
abbrev pub SentIsPut : Type 0
SentIsPut = (w : World) (p m j : ℕ) → IsReached w → w.covered p m < j → j ≤ w.sent p m → IsKeptBack w p m j ⊎ ((w.node (w.peer p m) ≡ m) × IsUncovered w p (w.peer p m) j)

-- while its sender has no cause Gone it was put for no other
abbrev pub PutIsKnown : Type 0
PutIsKnown = (w : World) (p q j : ℕ) → IsReached w → w.gone p ≡ false → IsUncovered w p q j → w.peer p (w.node q) ≡ q

-- and while that may hope, the request is still to be handed up, or an answer that covers it is coming, or who took it owes one
abbrev pub UncoveredGoesOn : Type 0
UncoveredGoesOn = (w : World) (p q j : ℕ) → IsReached w → IsHopeful w p → IsUncovered w p q j → IsLeft w p q j ⊎ (IsComing w q p j ⊎ IsOwed w q p j)

-- who owes a running place an answer knows it, so that the answer goes there
abbrev pub OwedIsKnown : Type 0
OwedIsKnown = (w : World) (p q j : ℕ) → IsReached w → w.up p ≡ true → 1 ≤ j → IsOwed w q p j → w.peer q (w.superior q) ≡ p
