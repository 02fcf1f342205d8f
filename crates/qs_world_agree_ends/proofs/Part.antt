-- Place k takes part because it was engaged, or rose in doubt.
use Rattle.std.proofs.Common.{◌≡◌, ◌≢◌, ◌⊎◌, ℕ, ◌≤◌, Bool, true}
use Rattle.qs_world_agree.specs.World.{World}

pub record Part (w : World) (since : ℕ → ℕ) (risen : ℕ → Bool) (k : ℕ) : Type 0 where
  pub part : w.involved k ≡ true → k ≢ w.home → (1 ≤ since k) ⊎ (risen k ≡ true)
