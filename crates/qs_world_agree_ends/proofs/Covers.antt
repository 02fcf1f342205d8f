-- The numbers of the link from p to q, and of the answers that come back. They hold in every world.
use Rattle.std.proofs.Common.{◌≡◌, ℕ, ◌+◌, ◌<◌, ◌≤◌, false, arith}
use Rattle.qs_world_agree.specs.World.{World}
use Rattle.qs_world_agree.specs.Guards.{NextAt}
use Rattle.qs_world_agree.proofs.Counts.{Counts}

pub record Covers (w : World) (p q : ℕ) : Type 0 where
  pub taken : w.closers_taken p q ≤ w.closers q p  -- what is handed up was put
  pub met : 1 ≤ w.last q p → p ≤ w.peer q (w.node p)  -- who took a request knows its sender, or a later place
  pub unmet : w.peer p (w.node q) ≡ 0 → w.covered p (w.node q) ≡ 0  -- who knows nobody there has covered nothing
  pub known : w.gone p ≡ false → w.peer p (w.node q) ≡ q → w.covered p (w.node q) ≤ w.received q p  -- without Gone, what is covered was handed up by the place that is known, or went to an earlier one
  pub put_known : w.gone p ≡ false → w.covered p (w.node q) < w.posted p q → w.peer p (w.node q) ≡ q  -- and what is not covered was put for it

-- who takes the next request is known to its sender
pub taker : (w : World) (q p : ℕ) → Counts w → NextAt w q p → w.peer p (w.node q) ≡ q
taker w q p c s = by (w.peer p (w.node q)) (w.present (w.node q)) (w.posted p q) (w.received q p) (c.posted_known p q) (c.peer_present p (w.node q)) (c.up_present q s.0) s.2
  where
    by : (known present put took : ℕ) → (known < q → put ≡ 0) → known ≤ present → present ≡ q → took < put → known ≡ q
    by known present put took a b d e = grind arith

-- and the request is not covered, if its sender has no cause Gone
pub next_uncovered : (w : World) (q p : ℕ) → Counts w → Covers w p q → NextAt w q p → w.gone p ≡ false → w.covered p (w.node q) < w.received q p + 1
next_uncovered w q p c x s g = let low : w.covered p (w.node q) ≤ w.received q p = x.known g (taker w q p c s) in omega (arith, low)
