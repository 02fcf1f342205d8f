-- Who is engaged, from the invariant.
use Rattle.std.proofs.Common.{◌≡◌, ◌⊎◌, ℕ, ◌<◌, ◌≤◌, inl, inr, true}
use Rattle.qs_world_agree.specs.Guards.{Votes}
use Rattle.qs_world_agree.proofs.Lawful.{inv_reached}
use Rattle.qs_world_agree_ends.specs.Engagement.{EngagedHangs, EngagerIsNearer, BusyIsEngaged, HomeIsEngaged}
use Rattle.qs_world_agree_ends.proofs.Ends.{ends_reached}
use Rattle.qs_world_agree_ends.proofs.Tied.{Tied}

pub engaged_hangs : EngagedHangs
engaged_hangs w k r on other =
    let t : Tied w k = (ends_reached w r).tied k in
    record { away = t.away on other; superior = t.superior on other; above = t.above on other; took = t.took on other; uncovered = t.uncovered on other; newer = t.newer on other }

pub engager_is_nearer : EngagerIsNearer
engager_is_nearer w k r on other unknown = ((ends_reached w r).tied k).nearer on other unknown

pub busy_is_engaged : BusyIsEngaged
busy_is_engaged w k r other busy = by busy.why
  where
    t : Tied w k
    t = (ends_reached w r).tied k

    by : ((m : ℕ) × (w.covered k m < w.sent k m)) ⊎ (((s : ℕ) × (w.served k s < w.arrived k s)) ⊎ (((s : ℕ) × Votes w k s × (w.voted k s < w.arrived k s)) ⊎ ((1 ≤ w.loans k) ⊎ (w.gone k ≡ true)))) → w.engaged k ≡ true
    by (inl sent) = t.sent_engaged sent.0 other sent.1
    by (inr (inl waits)) = t.waits_engaged waits.0 other waits.1
    by (inr (inr (inl vote))) = t.vote_engaged vote.0 other vote.1 vote.2
    by (inr (inr (inr (inl loan)))) = t.loan_engaged other loan
    by (inr (inr (inr (inr gone)))) = t.gone_engaged other gone

pub home_is_engaged : HomeIsEngaged
home_is_engaged w r undecided = ((inv_reached w r).whole (λ ab. cc (ab, undecided))).tree.home.home_engaged undecided
