-- What is kept of node n, whose inquiry the home took while the transaction ran.
use Rattle.std.proofs.Common.{◌≡◌, ℕ, true}
use Rattle.qs_world_agree.specs.World.{Committed, Aborted, World}
use Rattle.qs_world_agree.specs.Step.{Event, Take_told}

pub record Noted (w : World) (n : ℕ) : Type 0 where
  pub named : w.told_set w.home n ≡ true  -- the home's told set names it
  pub listed : w.cell ≡ Committed → w.commit_list n ≡ true  -- and so does a Commit
  pub abort_told : w.outcome w.home ≡ Aborted → w.to_tell w.home n ≡ true  -- where the home knows abort, it is to tell it

-- the event hands up a Told on commit of a place of node n
pub record IsToldBy (e : Event) (w : World) (n : ℕ) : Type 0 where
  pub at : ℕ
  pub from : ℕ
  pub of_node : w.node from ≡ n
  pub is : e ≡ Take_told at from
