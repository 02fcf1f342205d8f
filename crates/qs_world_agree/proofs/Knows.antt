-- While the home's log holds the Commit, the running place k of the home's node knows it.
use Rattle.std.proofs.Common.{◌≡◌, ℕ, true}
use Rattle.qs_world_agree.specs.World.{Committed, World}

pub record Knows (w : World) (k : ℕ) : Type 0 where
  pub knows : w.cell ≡ Committed → w.commit_logged ≡ true → w.up k ≡ true → w.node k ≡ w.node w.home → w.outcome k ≡ Committed  -- the restart that made it found the Commit
