-- No Inquire from place j comes up at a place k of the home's node that does not know the commit.
use Rattle.std.proofs.Common.{◌≡◌, ℕ, ◌<◌, true}
use Rattle.qs_world_agree.specs.World.{Committed, World}

pub record Asks (w : World) (k j : ℕ) : Type 0 where
  pub known : w.cell ≡ Committed → w.up k ≡ true → w.node k ≡ w.node w.home → w.inquiry_taken k j < w.inquiry_put j k → w.outcome k ≡ Committed  -- what is still to be handed up finds a place that knows
  pub unmet : w.peer j (w.node w.home) < k → w.node k ≡ w.node w.home → w.inquiry_put j k ≡ 0  -- nothing is put for a place that is not known yet
