-- What place q has put and is to tell of node n, in every world; and what it keeps of it from one world to a later one.
use Rattle.std.proofs.Common.{◌≡◌, ◌≢◌, ℕ, true}
use Rattle.qs_world_agree.specs.World.{Committed, Aborted, World}
use Rattle.qs_world_agree.specs.Guards.{drawn, names}

pub record Telling (w : World) (q n : ℕ) : Type 0 where
  pub answered : w.outcome q ≡ Committed → w.node q ≢ w.node w.home → w.ack_put q ≡ true  -- who learnt commit has put its Told
  pub to_tell : w.to_tell q n ≡ true → (w.outcome q ≡ Aborted) × (w.node q ≡ w.node w.home)  -- who is to tell an abort knows it, and is of the home's node
  pub named : w.named q n ≡ true → (w.outcome q ≡ Aborted) × (w.node q ≢ w.node w.home)  -- whose Told names somebody knows it, and is of another node

pub record Tells (w v : World) (q n : ℕ) : Type 0 where
  pub node : v.node ≡ w.node
  pub home : v.home ≡ w.home
  pub drew : drawn w q n ≡ true → drawn v q n ≡ true  -- whom it has drawn in, it has
  pub to_tell : w.to_tell q n ≡ true → v.to_tell q n ≡ true  -- whom it is to tell, it is to tell
  pub named : w.named q n ≡ true → v.named q n ≡ true  -- whom its Told names, it names
  pub decides : q ≡ w.home → w.outcome q ≢ Aborted → v.outcome q ≡ Aborted → drawn w q n ≡ true → v.to_tell q n ≡ true  -- whom the home had drawn in before it decided abort, it is to tell
  pub learns : w.node q ≢ w.node w.home → w.outcome q ≢ Aborted → v.outcome q ≡ Aborted → names w q n ≡ true → v.named q n ≡ true  -- whom another place had drawn in before it learnt abort, it names
