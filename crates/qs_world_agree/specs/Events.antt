-- What the events of a run tell of its outcome.
use Rattle.std.specs.Prelude.{◌≡◌, ◌≢◌, ◌⊎◌, ℕ, true, false, List, [], ◌∷◌}
use Rattle.qs_world_agree.specs.World.{Committed, Aborted, World}
use Rattle.qs_world_agree.specs.Step.{Event, Vote_abort, Miss, Commit, Commit_cut, Commit_unlogged, Tell, Answer_commit, Learn, Learn_cut, Learn_home, Acknowledge, Take_told, End}

-- the event is one of the run's
abbrev pub Happens : List Event → Event → Type 0
Happens [] e = ⊥
Happens (x ∷ xs) e = (x ≡ e) ⊎ Happens xs e

-- an event stands against a commit: a server voted abort, or a reply that an engaged place waits for will never come
abbrev pub IsOpposed : List Event → Type 0
IsOpposed events = ((q s : ℕ) × Happens events (Vote_abort q s)) ⊎ ((q : ℕ) × Happens events (Miss q))

-- a run that never commits, and what it leaves
pub record NeverCommits (events : List Event) (w : World) : Type 0 where
  -- no event decides commit
  pub commit : Happens events Commit → ⊥
  pub commit_cut : Happens events Commit_cut → ⊥
  pub commit_unlogged : Happens events Commit_unlogged → ⊥
  -- nobody is told commit, by the home or in answer to an inquiry
  pub tell : (h n : ℕ) → Happens events (Tell h n) → ⊥
  pub answer : (h q : ℕ) → Happens events (Answer_commit h q) → ⊥
  -- nobody learns it
  pub learn : (q : ℕ) → Happens events (Learn q) → ⊥
  pub learn_cut : (q : ℕ) → Happens events (Learn_cut q) → ⊥
  pub learn_home : (h : ℕ) → Happens events (Learn_home h) → ⊥
  -- nobody acknowledges it, and no commit is ended
  pub acknowledge : (q : ℕ) → Happens events (Acknowledge q) → ⊥
  pub take_told : (h q : ℕ) → Happens events (Take_told h q) → ⊥
  pub end : (h : ℕ) → Happens events (End h) → ⊥
  -- no place knows it, and no log has it
  pub unknown : (p : ℕ) → w.outcome p ≢ Committed
  pub unlogged : w.commit_logged ≡ false

-- a Told on commit of a place of node n was handed up at the home's node
pub record TookTold (events : List Event) (w : World) (n : ℕ) : Type 0 where
  pub at : ℕ
  pub from : ℕ
  pub of_node : w.node from ≡ n
  pub taken : Happens events (Take_told at from)

-- how a run has treated node n, whose inquiry the home answered with 'running'
pub record IsRemembered (events : List Event) (w : World) (n : ℕ) : Type 0 where
  pub named : w.told_set w.home n ≡ true  -- the home's told set names it for good
  pub listed : w.cell ≡ Committed → w.commit_list n ≡ true  -- where commit is decided, the Commit names it
  pub recorded : Happens events Commit_unlogged → ⊥  -- and there is one
  pub stands : w.cell ≡ Committed → (w.unended ≡ true) ⊎ TookTold events w n  -- which has no End before a Told of that node came
  pub abort_told : w.outcome w.home ≡ Aborted → w.to_tell w.home n ≡ true  -- where the home decided abort, it is to tell that node
