-- Who is engaged, and by whom, in every world: at one place k, which is not the home.
use Rattle.std.proofs.Common.{◌≡◌, ◌≢◌, ℕ, ◌+◌, ◌<◌, ◌≤◌, true, false, arith}
use Rattle.qs_world_agree.specs.World.{Aborted, World}
use Rattle.qs_world_agree.specs.Guards.{Votes, NextAt}
use Rattle.qs_world_agree.proofs.Counts.{Counts}
use Rattle.qs_world_agree_ends.proofs.Covers.{Covers, next_uncovered}

pub record Tied (w : World) (k : ℕ) : Type 0 where
  pub unborn : w.present (w.node k) < k → w.engaged k ≡ false  -- not a place that is still to come
  pub sent_engaged : (m : ℕ) → k ≢ w.home → w.covered k m < w.sent k m → w.engaged k ≡ true  -- who sent a request that is not covered
  pub waits_engaged : (s : ℕ) → k ≢ w.home → w.served k s < w.arrived k s → w.engaged k ≡ true  -- where a request waits
  pub vote_engaged : (s : ℕ) → k ≢ w.home → Votes w k s → w.voted k s < w.arrived k s → w.engaged k ≡ true  -- where a vote does not cover what came
  pub loan_engaged : k ≢ w.home → 1 ≤ w.loans k → w.engaged k ≡ true  -- where a loan stands
  pub gone_engaged : k ≢ w.home → w.gone k ≡ true → w.engaged k ≡ true  -- where a cause Gone stands
  pub away : w.engaged k ≡ true → k ≢ w.home → w.node k ≢ w.node w.home  -- no later place of the home's node
  pub above : w.engaged k ≡ true → k ≢ w.home → w.engager k ≢ w.home → w.engaged (w.engager k) ≡ true  -- its engager is engaged, or the home
  pub nearer : w.engaged k ≡ true → k ≢ w.home → w.outcome k ≢ Aborted → w.depth (w.engager k) < w.depth k  -- and nearer to the home
  pub superior : w.engaged k ≡ true → k ≢ w.home → w.superior k ≡ w.node (w.engager k)  -- the superior is the engager's node
  pub took : w.engaged k ≡ true → k ≢ w.home → 1 ≤ w.last k (w.engager k)  -- it took a request of the engager
  pub uncovered : w.engaged k ≡ true → k ≢ w.home → w.gone (w.engager k) ≡ false → w.covered (w.engager k) (w.node k) < w.last k (w.engager k)  -- which has not covered the last one
  pub low : (x : ℕ) → w.engaged k ≡ true → k ≢ w.home → 1 ≤ x → x ≤ w.closers k (w.engager k) → w.closer k (w.engager k) x < w.last k (w.engager k)  -- nothing on its way back covers it
  pub old : (r : ℕ) → w.engaged k ≡ true → k ≢ w.home → w.node r ≡ w.node k → r < k → w.posted (w.engager k) r < w.last k (w.engager k)  -- nor can an earlier incarnation have got it
  pub newer : w.engaged k ≡ true → k ≢ w.home → k < w.peer (w.engager k) (w.node k) → w.gone (w.engager k) ≡ true  -- an engager that saw a restart of this node has the cause Gone

-- the link from the place that engaged this one
pub record Tie (w : World) (k : ℕ) : Type 0 where
  pub some : 1 ≤ k  -- it is a place
  pub known : k ≤ w.peer (w.engager k) (w.node k)  -- which its engager knows, or a later one
  pub number : w.last k (w.engager k) ≤ w.sent (w.engager k) (w.node k)  -- the last request was sent

pub tied_to : (w : World) (k : ℕ) → Counts w → Tied w k → w.engaged k ≡ true → k ≢ w.home → Tie w k
tied_to w k c h on other = tie w k (h.took on other) (c.last_received k (w.engager k)) (c.received_posted k (w.engager k)) (c.posted_sent (w.engager k) k) (c.posted_none (w.engager k)) (c.posted_known (w.engager k) k)
  where
    tie : (w : World) (k : ℕ) → 1 ≤ w.last k (w.engager k) → w.last k (w.engager k) ≤ w.received k (w.engager k) → w.received k (w.engager k) ≤ w.posted (w.engager k) k → w.posted (w.engager k) k ≤ w.sent (w.engager k) (w.node k) → w.posted (w.engager k) 0 ≡ 0 → (w.peer (w.engager k) (w.node k) < k → w.posted (w.engager k) k ≡ 0) → Tie w k
    tie w k a l b d e f = grind arith

-- who sent a request that is still to be handed up is engaged, or is the home
pub sender_on : (w : World) (q p : ℕ) → Counts w → Covers w p q → Tied w p → NextAt w q p → p ≢ w.home → w.engaged p ≡ true
sender_on w q p c x h s other = by w q p (next_uncovered w q p c x s) (c.posted_sent p q) s.2 (h.gone_engaged other) (h.sent_engaged (w.node q) other)
  where
    by : (w : World) (q p : ℕ) → (w.gone p ≡ false → w.covered p (w.node q) < w.received q p + 1) → w.posted p q ≤ w.sent p (w.node q) → w.received q p < w.posted p q → (w.gone p ≡ true → w.engaged p ≡ true) → (w.covered p (w.node q) < w.sent p (w.node q) → w.engaged p ≡ true) → w.engaged p ≡ true
    by w q p a b d e f = grind arith
