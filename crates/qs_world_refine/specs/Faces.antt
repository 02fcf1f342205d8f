-- What a place that runs has of one transaction, and how a world of the agreement machine shows it.
use Rattle.std.specs.Prelude.{◌≡◌, ◌≢◌, ◌⊎◌, ℕ, ◌+◌, ◌<◌, Bool, true, false}
use Rattle.qs_world_agree.specs.World as machine
use Rattle.qs_world_agree.specs.World.{World}
use Rattle.qs_world_agree.specs.Guards.{Votes}

-- one place, seen for one transaction
pub record Face : Type 0 where
  pub is_home : Bool  -- the transaction began here
  pub on : Bool  -- it is the home and undecided, or has a superior
  pub superior : ℕ
  pub last : ℕ → ℕ  -- by node: the number of its last request
  pub sent : ℕ → ℕ
  pub covered : ℕ → ℕ
  pub waits : ℕ → ℕ  -- by server: how many requests wait
  pub uncast : ℕ → ℕ  -- by server: how many were served since its last vote
  pub loans : ℕ  -- how many stand
  pub asked : Bool
  pub blocked : Bool
  pub involved : Bool
  pub told : ℕ → Bool
  pub outcome : machine.Outcome
  pub tell : ℕ → Bool
  pub acknowledged : ℕ → Bool

-- nothing was heard of the transaction
abbrev pub blank_face : Face
blank_face = record {
  is_home = false;
  on = false;
  superior = 0;
  last = λ m. 0;
  sent = λ m. 0;
  covered = λ m. 0;
  waits = λ s. 0;
  uncast = λ s. 0;
  loans = 0;
  asked = false;
  blocked = false;
  involved = false;
  told = λ m. false;
  outcome = machine.Open;
  tell = λ m. false;
  acknowledged = λ m. false;
}

-- ---- how a world of the machine shows it, at place q: alike where the machine is exact, one way where the node is stricter

-- while no outcome is known there
pub record ShowsOpen (f : Face) (q : ℕ) (w : World) : Type 0 where
  pub covered : (m : ℕ) → w.covered q m ≡ f.covered m
  pub asked : w.asked q ≡ f.asked
  pub refused : f.blocked ≡ false → w.refused q ≡ false
  pub gone : f.blocked ≡ false → w.gone q ≡ false
  pub abort_vote : f.blocked ≡ false → w.abort_vote q ≡ false
  pub waits : (s : ℕ) → w.arrived q s ≡ w.served q s + f.waits s
  pub uncast : (s : ℕ) → Votes w q s → w.served q s ≡ w.voted q s + f.uncast s
  pub loans : w.loans q ≡ f.loans
  pub involved : w.involved q ≡ f.involved
  pub told : (m : ℕ) → w.told_set q m ≡ f.told m

pub record ShowsFace (f : Face) (q : ℕ) (w : World) : Type 0 where
  pub up : w.up q ≡ true
  pub outcome : w.outcome q ≡ f.outcome
  pub engaged : w.engaged q ≡ f.on
  pub superior : f.on ≡ true → f.is_home ≡ false → w.superior q ≡ f.superior
  pub last : f.on ≡ true → f.is_home ≡ false → w.last q (w.peer q f.superior) ≡ f.last f.superior
  pub last_new : (p : ℕ) → w.peer q (w.node p) < p → w.last q p ≡ 0  -- nothing came from a place that is not known yet
  pub sent : f.outcome ≢ machine.Committed → (m : ℕ) → w.sent q m ≡ f.sent m  -- a home that has ended a commit knows it no more
  pub told_in : (m : ℕ) → f.told m ≡ true → w.told_set q m ≡ true
  pub tell : f.outcome ≡ machine.Aborted → (m : ℕ) → f.tell m ≡ true → (w.to_tell q m ≡ true) ⊎ (w.tell_abort m ≡ true)  -- the place is to tell it, or it may be told by anybody
  pub running : f.outcome ≡ machine.Open → ShowsOpen f q w
