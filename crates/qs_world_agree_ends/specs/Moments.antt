-- When places were engaged, and when they said yes: a moment is a place in the list of a run's events, counted from 1, and 0 is never.
use Rattle.std.specs.Prelude.{◌≡◌, ◌≢◌, ◌⊎◌, ℕ, ◌+◌, ◌<◌, ◌≤◌, zero, suc, true, false, List, [], ◌∷◌, length, ◌++◌}
use Rattle.qs_world_agree.specs.World.{World, with_at}
use Rattle.qs_world_agree.specs.Origins.{Origin, IsOrigin, first}
use Rattle.qs_world_agree.specs.Step.{Event, Engage, Drop_engage, Yes, Yes_lost}
use Rattle.qs_world_agree.specs.Laws.{Run}
use Rattle.qs_world_agree.specs.Events.{Happens}
use Rattle.qs_world_agree_ends.specs.Requests.{IsOwed}

-- the moments after one more event, which is at this one
abbrev pub engaged_by : ℕ → Event → (ℕ → ℕ) → ℕ → ℕ
engaged_by now (Engage q p) since = with_at since q now
engaged_by now (Drop_engage q p) since = with_at since q now
engaged_by now e since = since

abbrev pub said_by : ℕ → Event → (ℕ → ℕ) → ℕ → ℕ
said_by now (Yes q) said = with_at said q now
said_by now (Yes_lost q) said = with_at said q now
said_by now e said = said

-- and after more of them
abbrev pub engaged_from : ℕ → (ℕ → ℕ) → List Event → ℕ → ℕ
engaged_from now since [] = since
engaged_from now since (e ∷ es) = engaged_from (now + 1) (engaged_by (now + 1) e since) es

abbrev pub said_from : ℕ → (ℕ → ℕ) → List Event → ℕ → ℕ
said_from now said [] = said
said_from now said (e ∷ es) = said_from (now + 1) (said_by (now + 1) e said) es

-- when a place was engaged last
abbrev pub engaged_at : List Event → ℕ → ℕ
engaged_at events = engaged_from 0 (λ q. 0) events

-- when it said yes last
abbrev pub yes_at : List Event → ℕ → ℕ
yes_at events = said_from 0 (λ q. 0) events

-- as a run goes on, a place keeps its moments, or is engaged anew, or says yes anew
abbrev pub EngagedGoesOn : Type 0
EngagedGoesOn = (before after : List Event) (k : ℕ) → (engaged_at (before ++ after) k ≡ engaged_at before k) ⊎ ((length before < engaged_at (before ++ after) k) × ((p : ℕ) × (Happens after (Engage k p) ⊎ Happens after (Drop_engage k p))))

abbrev pub SaidGoesOn : Type 0
SaidGoesOn = (before after : List Event) (k : ℕ) → (yes_at (before ++ after) k ≡ yes_at before k) ⊎ ((length before < yes_at (before ++ after) k) × (Happens after (Yes k) ⊎ Happens after (Yes_lost k)))

-- ---- the order

-- how a place that was ever engaged stands to the one that engaged it last
pub record IsAfter (events : List Event) (w : World) (k : ℕ) : Type 0 where
  pub away : w.node k ≢ w.node w.home  -- it is none of the home's node
  pub superior : w.superior k ≡ w.node (w.engager k)  -- its superior is, or was last, the engager's node
  pub known : w.engager k ≤ w.peer k (w.superior k)  -- of which it knows the engager, or a later place
  pub took : 1 ≤ w.last k (w.engager k)  -- it took a request of its engager
  pub drew : 1 ≤ w.sent (w.engager k) (w.node k)  -- which has drawn in its node
  pub involved : w.involved (w.engager k) ≡ true  -- so it is to be told, and forgets nothing
  pub was : w.engager k ≢ w.home → 1 ≤ engaged_at events (w.engager k)  -- and was engaged itself, or is the home
  pub engaged : w.engaged k ≡ true → w.engager k ≢ w.home → (w.engaged (w.engager k) ≡ true) × (engaged_at events (w.engager k) < engaged_at events k)  -- while the place is engaged, so is its engager, and since before
  pub released : w.engaged k ≡ false → w.engager k ≢ w.home → (w.engaged (w.engager k) ≡ true) ⊎ (yes_at events k < yes_at events (w.engager k))  -- once it is not, its engager is engaged, or said yes later
  pub said : w.engaged k ≡ false → 1 ≤ yes_at events k  -- and it has said yes

-- so it is over every run, whatever is decided
abbrev pub EngagersComeFirst : Type 0
EngagersComeFirst = (origin : Origin) (events : List Event) (w : World) (k : ℕ) → IsOrigin origin → Run (first origin) events w → 1 ≤ engaged_at events k → IsAfter events w k

-- who owes an answer to a running place was engaged by it, and so later, unless it was engaged by a place that stopped; and every moment is one of the run
abbrev pub OwedComesLater : Type 0
OwedComesLater = (origin : Origin) (events : List Event) (w : World) (p q j : ℕ) → IsOrigin origin → Run (first origin) events w → w.up p ≡ true → w.up (w.engager q) ≡ true → IsOwed w q p j
    → (w.engager q ≡ p) × (engaged_at events p < engaged_at events q) × (engaged_at events q ≤ length events)

-- ---- the way to the home

-- the place so many engagers up
abbrev pub up_from : World → ℕ → ℕ → ℕ
up_from w zero k = k
up_from w (suc n) k = up_from w n (w.engager k)

-- from engager to engager one comes to the home, over places that were engaged, and are, if the first one is
pub record LeadsHome (events : List Event) (w : World) (k : ℕ) : Type 0 where
  pub steps : ℕ
  pub ends : up_from w steps k ≡ w.home
  pub along : (i : ℕ) → i < steps → 1 ≤ engaged_at events (up_from w i k)
  pub engaged : w.engaged k ≡ true → (i : ℕ) → i < steps → w.engaged (up_from w i k) ≡ true

-- and so from each place that was ever engaged
abbrev pub EngagersLeadHome : Type 0
EngagersLeadHome = (origin : Origin) (events : List Event) (w : World) (k : ℕ) → IsOrigin origin → Run (first origin) events w → 1 ≤ engaged_at events k → LeadsHome events w k
