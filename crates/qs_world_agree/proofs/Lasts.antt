-- From one world to a later one: what stands against a commit at place k, and what is decided.
use Rattle.std.proofs.Common.{◌≡◌, ◌⊎◌, ℕ, true}
use Rattle.qs_world_agree.specs.World.{Committed, Aborted, World}

pub record Lasts (w v : World) (k : ℕ) : Type 0 where
  pub node : v.node ≡ w.node  -- a place stays its node's
  pub home : v.home ≡ w.home  -- and the home the home
  pub against : w.abort_vote k ≡ true → v.abort_vote k ≡ true  -- an abort vote is not taken back
  pub gone : w.gone k ≡ true → v.gone k ≡ true  -- nor a cause Gone
  pub refused : w.engaged k ≡ true → w.refused k ≡ true → (v.cell ≡ Aborted) ⊎ ((v.engaged k ≡ true) × (v.refused k ≡ true))  -- who is engaged and was refused waits for an abort
  pub committed : w.cell ≡ Committed → v.cell ≡ Committed  -- a commit is for good
  pub aborted : w.cell ≡ Aborted → v.cell ≡ Aborted  -- and so is an abort
