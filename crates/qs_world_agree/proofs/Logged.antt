-- A Prepare of server i that node n's log holds in doubt, of a committed transaction.
use Rattle.std.proofs.Common.{◌≡◌, ◌≢◌, ℕ, true, false}
use Rattle.qs_world_agree.specs.World.{Committed, World}

pub record Logged (w : World) (n i : ℕ) : Type 0 where
  pub in_log : w.cell ≡ Committed → n ≢ w.node w.home → w.prepared n i ≡ true → (w.unended ≡ true) × (w.acknowledged n ≡ false)  -- the Commit stands, and the node has not acknowledged
