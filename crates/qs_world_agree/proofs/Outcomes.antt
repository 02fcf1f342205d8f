-- Commit is known, told and on record only where it was decided. It holds in every world.
use Rattle.std.proofs.Common.{◌≡◌, ℕ, true}
use Rattle.qs_world_agree.specs.World.{Committed, World}

pub record Outcomes (w : World) : Type 0 where
  pub knows : (q : ℕ) → w.outcome q ≡ Committed → w.cell ≡ Committed  -- a place knows it
  pub learnt : (n : ℕ) → w.learnt_commit n ≡ true → w.cell ≡ Committed  -- the servers of a node learnt it
  pub tells : (n : ℕ) → w.tell_commit n ≡ true → w.cell ≡ Committed  -- a Tell says it
  pub logged : w.commit_logged ≡ true → w.cell ≡ Committed  -- the home's log says it
  pub stands : w.unended ≡ true → w.commit_logged ≡ true  -- a Commit without an End is in the log
  pub answered : (q : ℕ) → w.ack_put q ≡ true → w.cell ≡ Committed  -- a Told answers it
  pub acks : (n : ℕ) → w.acknowledged n ≡ true → w.cell ≡ Committed  -- the home took that Told
