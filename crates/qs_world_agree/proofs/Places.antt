-- Where each request was handed up.
use Rattle.std.proofs.Common.{◌≡◌, ℕ, ◌+◌, ◌<◌, ◌≤◌, false, arith}
use Rattle.std.proofs.lemmas.Bool.Decides.{nat_tests}
use Rattle.qs_world_agree.specs.World.{World}
use Rattle.qs_world_agree.specs.Guards.{NextAt, next}
use Rattle.qs_world_agree.proofs.Counts.{Counts}

pub record Places (w : World) : Type 0 where
  pub taken : (p m k : ℕ) → 1 ≤ w.received_at p m k → (w.node (w.received_at p m k) ≡ m) × (1 ≤ k) × (k ≤ w.received (w.received_at p m k) p)  -- at a place of its node
  pub above : (p q k : ℕ) → q < w.received_at p (w.node q) k → w.posted p q < k  -- where a later incarnation took it, it was not put for the earlier one
  pub covered_taken : (p m k : ℕ) → w.gone p ≡ false → 1 ≤ k → k ≤ w.covered p m → 1 ≤ w.received_at p m k  -- what is covered was handed up, if its sender has no cause Gone
  pub received_taken : (q p k : ℕ) → w.gone p ≡ false → 1 ≤ k → k ≤ w.received q p → 1 ≤ w.received_at p (w.node q) k  -- and so was all up to the last one that a place took

-- the next request was not handed up before
pub unseen : (w : World) → Counts w → Places w → (q p : ℕ) → NextAt w q p → w.received_at p (w.node q) (next w q p) ≡ 0
unseen w c x q p s = grind (arith, nat_tests, c, x.taken p (w.node q) (w.received q p + 1), x.above p q (w.received q p + 1), c.posted_old p q (w.received_at p (w.node q) (w.received q p + 1)), s)

-- what was handed up was sent
pub sent_before : (w : World) → Counts w → Places w → (p m k : ℕ) → 1 ≤ w.received_at p m k → k ≤ w.sent p m
sent_before w c x p m k some = within w p m k (x.taken p m k some) (c.received_posted (w.received_at p m k) p) (c.posted_sent p (w.received_at p m k))
  where
    within : (w : World) (p m k : ℕ) → (w.node (w.received_at p m k) ≡ m) × (1 ≤ k) × (k ≤ w.received (w.received_at p m k) p) → w.received (w.received_at p m k) p ≤ w.posted p (w.received_at p m k) → w.posted p (w.received_at p m k) ≤ w.sent p (w.node (w.received_at p m k)) → k ≤ w.sent p m
    within w p m k at a b = grind arith
