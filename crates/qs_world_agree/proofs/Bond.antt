-- The engaging request and the superior, at one place k.
use Rattle.std.proofs.Common.{◌≡◌, ◌≢◌, ℕ, ◌≤◌, true}
use Rattle.qs_world_agree.specs.World.{World}

pub record Bond (w : World) (k : ℕ) : Type 0 where
  pub by_last : w.engaged k ≡ true → k ≢ w.home → w.engaging k ≤ w.last k (w.engager k)  -- the last request from the engager is the engaging one or later
  pub taken : (p : ℕ) → w.closers_taken p k ≤ w.closers k p  -- what is handed up was put
  pub by_peer : w.engaged k ≡ true → k ≢ w.home → w.engager k ≤ w.peer k (w.superior k)  -- the place that is known of the superior is the engager or later
