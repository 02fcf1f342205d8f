-- The Prepare of server i in the log of a place k's node.
use Rattle.std.proofs.Common.{◌≡◌, ◌≢◌, ℕ, true, false}
use Rattle.qs_world_agree.specs.World.{Committed, World}

pub record Prepares (w : World) (k i : ℕ) : Type 0 where
  pub takes_part : w.up k ≡ true → w.prepared (w.node k) i ≡ true → w.node k ≢ w.node w.home → w.involved k ≡ true  -- while it is in doubt the running place is to be told
  pub knows_clear : w.up k ≡ true → w.outcome k ≡ Committed → w.node k ≢ w.node w.home → w.prepared (w.node k) i ≡ false  -- once that place knows commit it is not in doubt
  pub told_clear : w.ack_put k ≡ true → w.prepared (w.node k) i ≡ false  -- nor once a place of the node acknowledged
