-- While nothing is aborted nobody knows or tells abort, and the home's node has nothing in doubt after a commit.
use Rattle.std.proofs.Common.{◌≡◌, ◌≢◌, ℕ, false}
use Rattle.qs_world_agree.specs.World.{Committed, Aborted, World}

pub record Silent (w : World) : Type 0 where
  pub unknown : (q : ℕ) → w.outcome q ≢ Aborted  -- no place knows abort
  pub learnt : (n : ℕ) → w.learnt_abort n ≡ false  -- no server learnt it
  pub tells : (n : ℕ) → w.tell_abort n ≡ false  -- no Tell says it
  pub names : (q n : ℕ) → w.named q n ≡ false  -- no Told names anybody
  pub home_clear : (s : ℕ) → w.cell ≡ Committed → w.prepared (w.node w.home) s ≡ false  -- the home's Prepares are decided
