-- From one world to a later one, at a place k that knows abort.
use Rattle.std.proofs.Common.{◌≡◌, ℕ}
use Rattle.qs_world_agree.specs.World.{Aborted, World}

pub record Kept (w v : World) (k : ℕ) : Type 0 where
  pub known : w.outcome k ≡ Aborted → v.outcome k ≡ Aborted  -- it knows it still
  pub served : (i : ℕ) → w.outcome k ≡ Aborted → v.served k i ≡ w.served k i  -- nothing was served
  pub voted : (i : ℕ) → w.outcome k ≡ Aborted → v.voted k i ≡ w.voted k i  -- and nothing voted on
