-- Who is engaged, and by whom: at one place k. A dead place stays engaged.
use Rattle.std.proofs.Common.{◌≡◌, ◌≢◌, ℕ, ◌<◌, ◌≤◌, true, false, arith}
use Rattle.qs_world_agree.specs.World.{Committed, World}
use Rattle.qs_world_agree.specs.Guards.{Votes}
use Rattle.qs_world_agree.proofs.Counts.{Counts}

pub record At (w : World) (k : ℕ) : Type 0 where
  pub committed : w.cell ≡ Committed → w.engaged k ≡ false  -- after a commit nobody
  pub unborn : w.present (w.node k) < k → w.engaged k ≡ false  -- nor a place that is still to come
  pub open_engaged : (m : ℕ) → w.covered k m < w.sent k m → w.engaged k ≡ true  -- who sent a request that is not covered
  pub waits_engaged : (s : ℕ) → w.served k s < w.arrived k s → w.engaged k ≡ true  -- where a request waits
  pub vote_engaged : (s : ℕ) → Votes w k s → w.voted k s < w.arrived k s → w.engaged k ≡ true  -- where a vote does not cover what came
  pub loan_engaged : 1 ≤ w.loans k → w.engaged k ≡ true  -- where a loan stands
  pub gone_engaged : w.gone k ≡ true → w.engaged k ≡ true  -- where a cause Gone stands
  pub against_engaged : w.abort_vote k ≡ true → w.engaged k ≡ true  -- where a server voted abort
  pub by_engaged : w.engaged k ≡ true → k ≢ w.home → (w.engaged (w.engager k) ≡ true) × (w.depth (w.engager k) < w.depth k)  -- its engager is engaged too, and nearer to the home
  pub by_open : w.engaged k ≡ true → k ≢ w.home → w.gone (w.engager k) ≡ false → w.covered (w.engager k) (w.node k) < w.engaging k  -- and has not covered the engaging request
  pub by_received : w.engaged k ≡ true → k ≢ w.home → (1 ≤ w.engaging k) × (w.engaging k ≤ w.received k (w.engager k))  -- which was handed up here
  pub by_superior : w.engaged k ≡ true → k ≢ w.home → w.superior k ≡ w.node (w.engager k)  -- the superior is the engager's node
  pub by_closers : (x : ℕ) → w.engaged k ≡ true → k ≢ w.home → 1 ≤ x → x ≤ w.closers k (w.engager k) → w.closer k (w.engager k) x < w.engaging k  -- nothing on its way back covers the engaging request
  pub by_old : (r : ℕ) → w.engaged k ≡ true → k ≢ w.home → w.node r ≡ w.node k → r < k → w.posted (w.engager k) r < w.engaging k  -- nor can an earlier incarnation have got it
  pub by_newer : w.engaged k ≡ true → k ≢ w.home → k < w.peer (w.engager k) (w.node k) → w.gone (w.engager k) ≡ true  -- an engager that saw a restart of this node has the cause Gone

-- the link from the place that engaged this one
pub record Link (w : World) (k : ℕ) : Type 0 where
  pub some : 1 ≤ k  -- it is a place
  pub known : k ≤ w.peer (w.engager k) (w.node k)  -- which its engager knows, or a later one
  pub number : w.engaging k ≤ w.sent (w.engager k) (w.node k)  -- the engaging request was sent

pub linked : (w : World) (k : ℕ) → Counts w → At w k → w.engaged k ≡ true → k ≢ w.home → Link w k
linked w k c h on other = link w k (h.by_received on other) (c.received_posted k (w.engager k)) (c.posted_sent (w.engager k) k) (c.posted_none (w.engager k)) (c.posted_known (w.engager k) k)
  where
    link : (w : World) (k : ℕ) → (1 ≤ w.engaging k) × (w.engaging k ≤ w.received k (w.engager k)) → w.received k (w.engager k) ≤ w.posted (w.engager k) k → w.posted (w.engager k) k ≤ w.sent (w.engager k) (w.node k) → w.posted (w.engager k) 0 ≡ 0 → (w.peer (w.engager k) (w.node k) < k → w.posted (w.engager k) k ≡ 0) → Link w k
    link w k a b d e f = grind arith
