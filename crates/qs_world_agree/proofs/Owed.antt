-- Node n is on its way into the told set where it is to be told, and named once commit is decided.
use Rattle.std.proofs.Common.{◌≡◌, ◌≢◌, ℕ, true}
use Rattle.qs_world_agree.specs.World.{Committed, Nobody, World}

pub record Owed (w : World) (n : ℕ) : Type 0 where
  pub involved_held : (q : ℕ) → w.up q ≡ true → w.involved q ≡ true → w.node q ≡ n → w.way n ≢ Nobody  -- its place is to be told
  pub log_held : (s : ℕ) → w.prepared n s ≡ true → w.way n ≢ Nobody  -- its log has a Prepare in doubt
  pub listed : w.cell ≡ Committed → n ≢ w.node w.home → w.way n ≢ Nobody → w.commit_list n ≡ true  -- the Commit names it
