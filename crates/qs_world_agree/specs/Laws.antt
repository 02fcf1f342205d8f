-- What holds of every run.
use Rattle.std.specs.Prelude.{◌≡◌, ◌≢◌, ℕ, ◌≤◌, true, false, List, [], ◌∷◌}
use Rattle.qs_world_agree.specs.World.{Open, Committed, Aborted, OnePhase, World}
use Rattle.qs_world_agree.specs.Origins.{Origin, IsOrigin, first}
use Rattle.qs_world_agree.specs.Guards.{NextAt, Votes}
use Rattle.qs_world_agree.specs.Step.{Event, Step}

-- one step after another
abbrev pub Run : World → List Event → World → Type 0
Run old [] new = new ≡ old
Run old (e ∷ es) new = (mid : World) × Step e old mid × Run mid es new

-- a world that some run from some origin leads to
pub record IsReached (w : World) : Type 0 where
  pub origin : Origin
  pub begins : IsOrigin origin
  pub events : List Event
  pub run : Run (first origin) events w

-- what holds once commit is decided: everybody has voted for all that was ever issued
pub record IsSettled (w : World) : Type 0 where
  pub taken : (p m k : ℕ) → 1 ≤ k → k ≤ w.sent p m → (1 ≤ w.received_at p m k) × (w.node (w.received_at p m k) ≡ m)  -- every request that was sent was taken by a place of its node
  pub came : (p m k : ℕ) → 1 ≤ k → k ≤ w.sent p m → (1 ≤ w.arrival p m k) × (w.arrival p m k ≤ w.arrived (w.received_at p m k) (w.server_of p m k))  -- and came to its server there
  pub served : (q s : ℕ) → w.served q s ≡ w.arrived q s  -- what came to a server, from its own node too, was served
  pub voted : (q s : ℕ) → Votes w q s → w.voted q s ≡ w.arrived q s  -- and stands before the last vote, if the server votes
  pub loans : (q : ℕ) → w.loans q ≡ 0  -- every loan is given back
  pub abort_votes : (q : ℕ) → w.abort_vote q ≡ false  -- no vote was against it
  pub covered : (p m : ℕ) → w.covered p m ≡ w.sent p m  -- every request is covered
  pub passive : (q : ℕ) → w.engaged q ≡ false  -- nobody is engaged any more
  pub none_left : (q p : ℕ) → NextAt w q p → ⊥  -- and no request is still to be handed up

-- what holds once commit is decided: nobody in doubt is forgotten
pub record IsAnswered (w : World) : Type 0 where
  pub in_log : (n s : ℕ) → n ≢ w.node w.home → w.prepared n s ≡ true → (w.commit_list n ≡ true) × (w.unended ≡ true)  -- another node whose log has a Prepare in doubt is named by the Commit, which has no End
  pub in_doubt : (p : ℕ) → w.node p ≢ w.node w.home → w.up p ≡ true → w.involved p ≡ true → w.outcome p ≡ Open → (w.commit_list (w.node p) ≡ true) × (w.unended ≡ true)  -- and so is one whose running place is to be told and knows no outcome
  pub stands : w.unended ≡ true → w.commit_logged ≡ true  -- a Commit without an End is in the home's log
  pub known : (h : ℕ) → w.commit_logged ≡ true → w.up h ≡ true → w.node h ≡ w.node w.home → w.outcome h ≡ Committed  -- the running place of the home's node knows the Commit of its log
  pub home_clear : (s : ℕ) → w.prepared (w.node w.home) s ≡ false  -- and has nothing in doubt

-- who is to be told
pub record IsInvolved (w : World) : Type 0 where
  pub sender : (p m : ℕ) → 1 ≤ w.sent p m → w.involved p ≡ true  -- a place that sent a request
  pub one_phase : (p s : ℕ) → w.class (w.node p) s ≡ OnePhase → 1 ≤ w.served p s → w.involved p ≡ true  -- a place where a server that is told without a vote was used
  pub prepared : (p s : ℕ) → w.node p ≢ w.node w.home → w.up p ≡ true → w.prepared (w.node p) s ≡ true → w.involved p ≡ true  -- a running place whose log has a Prepare in doubt

-- what holds always: nobody knows, learns or is told what was not decided
pub record IsAgreed (w : World) : Type 0 where
  pub commits : (n : ℕ) → w.learnt_commit n ≡ true → w.cell ≡ Committed  -- the servers of a node learn commit where it is decided
  pub aborts : (n : ℕ) → w.learnt_abort n ≡ true → w.cell ≡ Aborted  -- and abort where that is
  pub knows_commit : (p : ℕ) → w.outcome p ≡ Committed → w.cell ≡ Committed  -- a place knows commit where it is decided
  pub knows_abort : (p : ℕ) → w.outcome p ≡ Aborted → w.cell ≡ Aborted  -- and abort where that is
  pub told_commit : (n : ℕ) → w.tell_commit n ≡ true → w.cell ≡ Committed  -- a Tell, and an answer to an inquiry, says commit where it is decided
  pub told_abort : (n : ℕ) → w.tell_abort n ≡ true → w.cell ≡ Aborted  -- and abort where that is
  pub kept : w.up w.home ≡ true → w.outcome w.home ≡ w.cell  -- the home knows what it decided until it stops

-- from one moment to a later one, at a place that knew abort
pub record IsSilenced (w v : World) : Type 0 where
  pub known : (q : ℕ) → w.outcome q ≡ Aborted → v.outcome q ≡ Aborted  -- it knows it still
  pub served : (q s : ℕ) → w.outcome q ≡ Aborted → v.served q s ≡ w.served q s  -- nothing was served since
  pub voted : (q s : ℕ) → w.outcome q ≡ Aborted → v.voted q s ≡ w.voted q s  -- and nothing voted on
