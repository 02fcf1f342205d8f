-- Who runs where every restart was seen, and what a world comes to in which nothing of the votes is left to do.
use Rattle.std.specs.Prelude.{◌≡◌, ◌≢◌, ◌⊎◌, ℕ, ◌<◌, ◌≤◌, true, false}
use Rattle.qs_world_agree.specs.World.{Open, World}
use Rattle.qs_world_agree.specs.Guards.{Votes, IsReady}
use Rattle.qs_world_agree.specs.Laws.{IsReached}
use Rattle.qs_world_agree_ends.specs.Moments.{up_from}

-- whom a running place knows runs
abbrev pub KnowsWhoRuns : World → Type 0
KnowsWhoRuns w = (p m : ℕ) → w.up p ≡ true → 1 ≤ w.peer p m → w.up (w.peer p m) ≡ true

-- from engager to engager all are engaged and run, up to the home
pub record RunsHome (w : World) (k : ℕ) : Type 0 where
  pub steps : ℕ
  pub ends : up_from w steps k ≡ w.home
  pub engaged : (i : ℕ) → i < steps → w.engaged (up_from w i k) ≡ true
  pub runs : (i : ℕ) → i ≤ steps → w.up (up_from w i k) ≡ true

-- or all are engaged, and down from the home all run, to one that has a cause Gone
pub record IsCutOff (w : World) (k : ℕ) : Type 0 where
  pub steps : ℕ
  pub ends : up_from w steps k ≡ w.home
  pub engaged : (i : ℕ) → i < steps → w.engaged (up_from w i k) ≡ true
  pub at : ℕ
  pub within : at ≤ steps
  pub gone : w.gone (up_from w at k) ≡ true
  pub runs : (i : ℕ) → at ≤ i → i ≤ steps → w.up (up_from w i k) ≡ true

-- one of these holds of each engaged place, if the home runs: where one stopped, its engager has a cause Gone
abbrev pub EngagedRuns : Type 0
EngagedRuns = (w : World) (k : ℕ) → IsReached w → KnowsWhoRuns w → w.up w.home ≡ true → w.engaged k ≡ true → RunsHome w k ⊎ IsCutOff w k

-- ---- where nothing of the votes is left to do

-- a place that is ready but for the requests that it sent
pub record IsDone (w : World) (q : ℕ) : Type 0 where
  pub asked : w.asked q ≡ true
  pub gone : w.gone q ≡ false
  pub refused : w.refused q ≡ false
  pub abort_vote : w.abort_vote q ≡ false
  pub loans : w.loans q ≡ 0
  pub served : (s : ℕ) → w.served q s ≡ w.arrived q s
  pub voted : (s : ℕ) → Votes w q s → w.voted q s ≡ w.arrived q s

-- among running places no request and no answer is on its way, who is engaged has nothing to do and no cause Gone, and nobody is left to say yes
pub record IsStill (w : World) : Type 0 where
  pub known : KnowsWhoRuns w
  pub put : (p m : ℕ) → w.up p ≡ true → w.covered p m < w.sent p m → 1 ≤ w.peer p m
  pub taken : (p q : ℕ) → w.up p ≡ true → w.up q ≡ true → w.posted p q ≤ w.received q p
  pub counted : (p q : ℕ) → w.up p ≡ true → w.up q ≡ true → w.closers q p ≤ w.closers_taken p q
  pub done : (q : ℕ) → w.up q ≡ true → w.engaged q ≡ true → IsDone w q
  pub said : (q : ℕ) → q ≢ w.home → IsReady w q → ⊥

-- then the home is ready, if it runs and has decided nothing
abbrev pub HomeIsReady : Type 0
HomeIsReady = (w : World) → IsReached w → IsStill w → w.up w.home ≡ true → w.outcome w.home ≡ Open → IsReady w w.home
