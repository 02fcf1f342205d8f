-- What a rule asks before it acts, and what it works out.
use Rattle.std.specs.Prelude.{◌≡◌, ◌≢◌, ◌⊎◌, ℕ, ◌+◌, ◌==◌, ◌<◌, ◌≤◌, Bool, true, false, if◌then◌else◌}
use Rattle.qs_world_agree.specs.World.{Outcome, Open, Committed, Aborted, Recoverable, Volatile, Way, Nobody, Own, InSet, Flight, Dead, World}

-- a place issues requests while it is engaged or has a loan
abbrev pub MayIssue : World → ℕ → Type 0
MayIssue w p = (w.up p ≡ true) × ((w.engaged p ≡ true) ⊎ (1 ≤ w.loans p))

-- the next request from p is handed up at q, which knows p as its node's present place
abbrev pub NextAt : World → ℕ → ℕ → Type 0
NextAt w q p = (w.up q ≡ true) × (w.peer q (w.node p) ≡ p) × (w.received q p < w.posted p q)

-- its number, and its server
abbrev pub next : World → ℕ → ℕ → ℕ
next w q p = w.received q p + 1

abbrev pub next_server : World → ℕ → ℕ → ℕ
next_server w q p = w.server_of p (w.node q) (w.received q p + 1)

-- a request is dropped where abort is known, and at the home's node where the transaction is not running
abbrev pub Drops : World → ℕ → Type 0
Drops w q = (w.outcome q ≡ Aborted) ⊎ ((w.node q ≡ w.node w.home) × (w.engaged q ≡ false))

-- a request waits at a server that may serve it
abbrev pub MayServe : World → ℕ → ℕ → Type 0
MayServe w q s = (w.up q ≡ true) × (w.outcome q ≢ Aborted) × (w.served q s < w.arrived q s)

-- two-phase servers vote
abbrev pub Votes : World → ℕ → ℕ → Type 0
Votes w q s = (w.class (w.node q) s ≡ Recoverable) ⊎ (w.class (w.node q) s ≡ Volatile)

-- no request waits, and no loan stands
abbrev pub IsIdle : World → ℕ → Type 0
IsIdle w q = ((s : ℕ) → w.served q s ≡ w.arrived q s) × (w.loans q ≡ 0)

-- a server's vote is due: its place is asked and idle, knows no outcome, and something was served since the last vote
abbrev pub VoteDue : World → ℕ → ℕ → Type 0
VoteDue w q s = (w.up q ≡ true) × (w.asked q ≡ true) × (w.outcome q ≡ Open) × IsIdle w q × Votes w q s × (w.voted q s < w.served q s)

-- a place that can answer for all that came to it, and for all that it sent
pub record IsReady (w : World) (q : ℕ) : Type 0 where
  pub up : w.up q ≡ true  -- it runs
  pub engaged : w.engaged q ≡ true  -- it is the home, or has a superior
  pub asked : w.asked q ≡ true  -- it is asked
  pub unknown : w.outcome q ≡ Open  -- it knows no outcome
  pub refused : w.refused q ≡ false  -- no VotedAbort came
  pub gone : w.gone q ≡ false  -- no cause Gone stands
  pub abort_vote : w.abort_vote q ≡ false  -- no server voted abort
  pub loans : w.loans q ≡ 0  -- every loan is given back
  pub served : (s : ℕ) → w.served q s ≡ w.arrived q s  -- no request waits
  pub voted : (s : ℕ) → Votes w q s → w.voted q s ≡ w.arrived q s  -- every last vote covers what came
  pub covered : (m : ℕ) → w.covered q m ≡ w.sent q m  -- every request that it sent is covered

-- the told set that a VotedYes carries: what was received, and the node itself where it is to be told
abbrev pub carried : World → ℕ → ℕ → Bool
carried w q n = if w.told_set q n then true else (if n == w.node q then w.involved q else false)

-- the nodes that a place has drawn in: those in its told set, and those that it sent a request
abbrev pub drawn : World → ℕ → ℕ → Bool
drawn w p n = if w.told_set p n then true else (if w.sent p n == 0 then false else true)

-- the nodes that a Told on abort names: the same, without the home's
abbrev pub names : World → ℕ → ℕ → Bool
names w q n = if n == w.node w.home then false else drawn w q n

-- a Tell is handed up at q, which knows a place of the home's node
abbrev pub IsTold : World → ℕ → Bool → Type 0
IsTold w q tell = (tell ≡ true) × (w.up q ≡ true) × (w.node q ≢ w.node w.home) × (w.peer q (w.node w.home) ≢ 0)

-- the next Inquire from q is handed up at h, a place of the home's node
abbrev pub NextInquiry : World → ℕ → ℕ → Type 0
NextInquiry w h q = (w.up h ≡ true) × (w.node h ≡ w.node w.home) × (w.peer h (w.node q) ≡ q) × (w.inquiry_taken h q < w.inquiry_put q h)

-- a place of the home's node for which the transaction is aborted: it knows abort, or it began after the home and knows nothing
abbrev pub TellsAbort : World → ℕ → Type 0
TellsAbort w h = (w.up h ≡ true) × (w.node h ≡ w.node w.home) × ((w.outcome h ≡ Aborted) ⊎ ((w.outcome h ≡ Open) × (h ≢ w.home)))

-- what is decided once the home has restarted: what it had not committed is aborted
abbrev pub closed : Outcome → Outcome
closed Open = Aborted
closed Committed = Committed
closed Aborted = Aborted

-- how a node comes into the told set once a place of its own owes it
abbrev pub held : Way → Way
held Nobody = Own
held Own = Own
held InSet = InSet
held Flight = Flight
held Dead = Dead

-- and where, if it did not before
abbrev pub held_at : Way → ℕ → ℕ → ℕ
held_at Nobody here before = here
held_at Own here before = before
held_at InSet here before = before
held_at Flight here before = before
held_at Dead here before = before

-- once the place that held its name has sent its VotedYes
abbrev pub passed : Way → Way → Way
passed Nobody next = Nobody
passed Own next = next
passed InSet next = next
passed Flight next = Flight
passed Dead next = Dead

abbrev pub passed_to : Way → ℕ → ℕ → ℕ
passed_to Nobody next before = before
passed_to Own next before = next
passed_to InSet next before = next
passed_to Flight next before = before
passed_to Dead next before = before

-- once that VotedYes was handed up
abbrev pub landed : Way → Way
landed Nobody = Nobody
landed Own = Own
landed InSet = InSet
landed Flight = InSet
landed Dead = Dead
