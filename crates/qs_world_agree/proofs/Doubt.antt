-- What a place k knows, asks and answers after a commit.
use Rattle.std.proofs.Common.{◌≡◌, ◌≢◌, ◌⊎◌, ℕ, ◌<◌, ◌≤◌, true, false}
use Rattle.qs_world_agree.specs.World.{Open, Committed, World}

pub record Doubt (w : World) (k : ℕ) : Type 0 where
  pub in_doubt : w.cell ≡ Committed → w.up k ≡ true → w.involved k ≡ true → w.outcome k ≡ Open → w.node k ≢ w.node w.home → (w.unended ≡ true) × (w.acknowledged (w.node k) ≡ false)  -- while it is in doubt the Commit stands, and its node has not acknowledged
  pub unborn : w.present (w.node k) < k → w.inquiries k ≡ 0  -- before it begins it has asked nothing
  pub unmet : w.node k ≢ w.node w.home → w.peer k (w.node w.home) ≡ 0 → w.outcome k ≡ Open  -- it learns from the home's node alone
  pub asks : 1 ≤ w.inquiries k → (w.involved k ≡ true) ⊎ (w.orphaned ≡ true)  -- it asks where it is to be told, or its superior restarted
  pub told_known : (r : ℕ) → w.ack_put k ≡ true → w.up r ≡ true → w.node r ≡ w.node k → w.involved r ≡ true → w.outcome r ≡ Committed  -- once it acknowledged, no place of its node is in doubt
