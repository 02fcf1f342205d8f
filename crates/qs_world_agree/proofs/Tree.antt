-- The tree of engagement, with the home at its root.
use Rattle.std.proofs.Common.{◌≡◌, ◌≢◌, ℕ, ◌+◌, ◌<◌, inl, inr, zero, suc, true, false, arith}
use Rattle.std.proofs.lemmas.Bool.{cases_eq}
use Rattle.std.proofs.lemmas.Bool.Decides.{nat_tests}
use Rattle.qs_world_agree.specs.World.{Committed, World}
use Rattle.qs_world_agree.specs.Guards.{MayIssue, NextAt, VoteDue, IsReady}
use Rattle.qs_world_agree.proofs.Counts.{Counts}
use Rattle.qs_world_agree.proofs.Servers.{Servers}
use Rattle.qs_world_agree.proofs.Places.{Places, unseen}
use Rattle.qs_world_agree.proofs.Home.{Home}
use Rattle.qs_world_agree.proofs.At.{At}

pub record Tree (w : World) : Type 0 where
  pub home : Home w
  pub at : (k : ℕ) → At w k

-- who sent a request that is still to be handed up is engaged
pub sender_engaged : (w : World) → Counts w → Places w → Tree w → (q p : ℕ) → NextAt w q p → w.engaged p ≡ true
sender_engaged w c x t q p s =
    grind (arith, nat_tests, unseen w c x q p s, x.covered_taken p (w.node q) (w.received q p + 1), (t.at p).open_engaged (w.node q), (t.at p).gone_engaged, c.posted_sent p q, s)

-- its request is not covered
pub not_covered : (w : World) → Counts w → Places w → (q p : ℕ) → NextAt w q p → w.gone p ≡ false → w.covered p (w.node q) < w.received q p + 1
not_covered w c x q p s g = grind (arith, nat_tests, unseen w c x q p s, x.covered_taken p (w.node q) (w.received q p + 1))

-- where the home is ready nothing else is engaged
pub only_home : (w : World) → Counts w → Tree w → IsReady w w.home → (bound q : ℕ) → w.depth q < bound → w.engaged q ≡ true → q ≡ w.home
only_home w c t r zero q below on = absurd (omega arith)
only_home w c t r (suc bound) q below on = elim (cases_eq q w.home) [
  | inl is ↦ is
  | inr other ↦
      let above = (t.at q).by_engaged on other in
      let up = only_home w c t r bound (w.engager q) (omega (arith, above)) above.0 in
      absurd (unlinked w c t r q on other up)
]
  where
    unlinked : (w : World) → Counts w → Tree w → IsReady w w.home → (q : ℕ) → w.engaged q ≡ true → q ≢ w.home → w.engager q ≡ w.home → ⊥
    unlinked w c t r q on other up = grind (arith, (t.at q).by_open on other, (t.at q).by_received on other, r.gone, c.received_posted q w.home, c.posted_sent w.home q, r.covered (w.node q), up)

-- who issues, serves or votes is engaged
pub issuer_engaged : (w : World) (p : ℕ) → Tree w → MayIssue w p → w.engaged p ≡ true
issuer_engaged w p t s = grind (arith, (t.at p).loan_engaged, s)

pub server_engaged : (w : World) (q s : ℕ) → Tree w → w.served q s < w.arrived q s → w.engaged q ≡ true
server_engaged w q s t below = (t.at q).waits_engaged s below

pub voter_engaged : (w : World) (q s : ℕ) → Servers w q s → Tree w → VoteDue w q s → w.engaged q ≡ true
voter_engaged w q s c t due = (t.at q).vote_engaged s due.4 (omega (arith, c.served_arrived, due.5))

-- where something is engaged, commit is not decided
pub engaged_open : (w : World) (p : ℕ) → Tree w → w.engaged p ≡ true → w.cell ≢ Committed
engaged_open w p t on is = let off = (t.at p).committed is in cc
