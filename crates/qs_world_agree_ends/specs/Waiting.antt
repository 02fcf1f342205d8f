-- Who awaits word of the outcome, and behind whom.
use Rattle.std.specs.Prelude.{◌≡◌, ◌≢◌, ◌⊎◌, ℕ, ◌<◌, ◌≤◌, Bool, true, false, List, [], ◌∷◌, ◌++◌}
use Rattle.qs_world_agree.specs.World.{Open, World, with_at}
use Rattle.qs_world_agree.specs.Origins.{Origin, IsOrigin, first}
use Rattle.qs_world_agree.specs.Step.{Event, Restart_in_doubt}
use Rattle.qs_world_agree.specs.Laws.{Run}
use Rattle.qs_world_agree.specs.Events.{Happens}
use Rattle.qs_world_agree_ends.specs.Moments.{engaged_at, IsAfter, up_from}

-- the places that rose in doubt, after one more event and after more of them
abbrev pub risen_by : Event → (ℕ → Bool) → ℕ → Bool
risen_by (Restart_in_doubt q s) risen = with_at risen q true
risen_by e risen = risen

abbrev pub risen_from : (ℕ → Bool) → List Event → ℕ → Bool
risen_from risen [] = risen
risen_from risen (e ∷ es) = risen_from (risen_by e risen) es

-- a place began with a Prepare in its node's log: as the run began, or at a restart
abbrev pub rose_in_doubt : Origin → List Event → ℕ → Bool
rose_in_doubt origin events = risen_from (first origin).involved events

-- as a run goes on, a place rises in doubt by an event alone
abbrev pub RisenGoesOn : Type 0
RisenGoesOn = (origin : Origin) (before after : List Event) (k : ℕ) → rose_in_doubt origin (before ++ after) k ≡ true → (rose_in_doubt origin before k ≡ true) ⊎ ((s : ℕ) × Happens after (Restart_in_doubt k s))

-- who is to be told was engaged, or rose in doubt, or is the home
abbrev pub InvolvedWasEngaged : Type 0
InvolvedWasEngaged = (origin : Origin) (events : List Event) (w : World) (k : ℕ) → IsOrigin origin → Run (first origin) events w → w.involved k ≡ true → k ≢ w.home → (1 ≤ engaged_at events k) ⊎ (rose_in_doubt origin events k ≡ true)

-- ---- awaiting word

-- a place of another node than the home's that runs and knows no outcome, and is to be told or engaged
pub record AwaitsWord (w : World) (k : ℕ) : Type 0 where
  pub runs : w.up k ≡ true
  pub away : w.node k ≢ w.node w.home
  pub unknown : w.outcome k ≡ Open
  pub part : (w.involved k ≡ true) ⊎ (w.engaged k ≡ true)

-- from engager to engager one comes to the home, or to a place that stopped or knows the outcome; all on the way await word
pub record IsBehind (events : List Event) (w : World) (k : ℕ) : Type 0 where
  pub steps : ℕ
  pub ends : (up_from w steps k ≡ w.home) ⊎ ((w.up (up_from w steps k) ≡ false) ⊎ (w.outcome (up_from w steps k) ≢ Open))
  pub along : (i : ℕ) → i < steps → AwaitsWord w (up_from w i k)
  pub after : (i : ℕ) → i < steps → IsAfter events w (up_from w i k)

-- and so from each place that awaits word, unless it rose in doubt
abbrev pub AwaitsBehind : Type 0
AwaitsBehind = (origin : Origin) (events : List Event) (w : World) (k : ℕ) → IsOrigin origin → Run (first origin) events w → AwaitsWord w k → (rose_in_doubt origin events k ≡ true) ⊎ IsBehind events w k
