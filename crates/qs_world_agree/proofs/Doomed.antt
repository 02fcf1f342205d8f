-- What dooms a transaction, and what is not committed while it lasts.
use Rattle.std.proofs.Common.{◌≡◌, ◌≢◌, ◌⊎◌, ◌∙◌, ℕ, ◌<◌, ◌≤◌, inl, inr, true, List, [], ◌∷◌, refl, sym, subst, ap, arith}
use Rattle.std.proofs.lemmas.Bool.Decides.{nat_tests}
use Rattle.qs_world_agree.specs.World.{Outcome, Open, Committed, Aborted, World}
use Rattle.qs_world_agree.specs.Guards.{Votes}
use Rattle.qs_world_agree.specs.Step.{Event}
use Rattle.qs_world_agree.specs.Laws.{Run}
use Rattle.qs_world_agree.specs.Carry.{Leads}
use Rattle.qs_world_agree.specs.Doomed.{IsDoomed, IsLeft, IsKeptBack, DoomStays, AbortDooms, EngagedPastDooms, PastHomeDooms, AbortVoteDooms, GoneDooms, RefusalDooms, LeftDooms, LeftBehindDooms, KeptBackDooms, SentStays, LateDooms, BusyEngaged, EngagedOpen, LeftOpen, KeptBackOpen}
use Rattle.qs_world_agree.proofs.Carries.{leads_on, reached_on}
use Rattle.qs_world_agree.proofs.Counts.{Counts}
use Rattle.qs_world_agree.proofs.Places.{Places}
use Rattle.qs_world_agree.proofs.Tree.{engaged_open}
use Rattle.qs_world_agree.proofs.At.{At}
use Rattle.qs_world_agree.proofs.Whole.{Inv, Whole}
use Rattle.qs_world_agree.proofs.Inv.{inv_step, inv_run}
use Rattle.qs_world_agree.proofs.Heeded.{lasts_run}
use Rattle.qs_world_agree.proofs.Lawful.{inv_reached, settled_at}
use Rattle.qs_world_agree.proofs.Past.{Past, Missed, Behind, Later}
use Rattle.qs_world_agree.proofs.PastTable.{past_step, missed_step, behind_step}
use Rattle.qs_world_agree.proofs.LaterTable.{later_step}

-- ---- over a run

past_run : (es : List Event) (w v : World) (k m : ℕ) → Run w es v → Past w v k m
past_run [] w v k m r = subst (λ (x : World). Past w x k m) (sym r) (record { node = refl; stopped = λ h. h; engaged = λ h. refl; peer = λ h. refl; sent = λ h. refl })
past_run (e ∷ es) w v k m r =
    let first : Past w r.0 k m = past_step e w r.0 k m r.1 in
    let rest : Past r.0 v k m = past_run es r.0 v k m r.2 in
    record {
      node = rest.node ∙ first.node;
      stopped = λ h. rest.stopped (first.stopped h);
      engaged = λ h. rest.engaged (first.stopped h) ∙ first.engaged h;
      peer = λ h. rest.peer (first.stopped h) ∙ first.peer h;
      sent = λ h. rest.sent (first.stopped h) ∙ first.sent h;
    }

missed_run : (es : List Event) (w v : World) (k p j : ℕ) → Inv w → Run w es v → Missed w v k p j
missed_run [] w v k p j i r = subst (λ (x : World). Missed w x k p j) (sym r) (record { left = λ h l. l })
missed_run (e ∷ es) w v k p j i r =
    let first : Missed w r.0 k p j = missed_step e w r.0 k p j i.counts r.1 in
    let rest : Missed r.0 v k p j = missed_run es r.0 v k p j (inv_step e w r.0 i r.1) r.2 in
    let gone : Past w r.0 k 0 = past_step e w r.0 k 0 r.1 in
    record { left = λ h l. rest.left (gone.stopped h) (first.left h l) }

behind_run : (es : List Event) (w v : World) (k p j : ℕ) → Inv w → Run w es v → p < w.peer k (w.node p) → IsLeft w p k j → IsLeft v p k j
behind_run [] w v k p j i r later l = subst (λ (x : World). IsLeft x p k j) (sym r) l
behind_run (e ∷ es) w v k p j i r later l =
    let first : Behind w r.0 k p j = behind_step e w r.0 k p j i.counts r.1 in
    behind_run es r.0 v k p j (inv_step e w r.0 i r.1) r.2 (subst (λ (node : ℕ → ℕ). p < r.0.peer k (node p)) (sym first.node) (first.later later)) (first.left later l)

later_run : (es : List Event) (w v : World) (k p : ℕ) → Run w es v → Later w v k p
later_run [] w v k p r = subst (λ (x : World). Later w x k p) (sym r) (record { sent = λ m. omega arith; known = λ h. h; took = λ h l. refl })
later_run (e ∷ es) w v k p r =
    let first : Later w r.0 k p = later_step e w r.0 k p r.1 in
    let rest : Later r.0 v k p = later_run es r.0 v k p r.2 in
    let gone : Past w r.0 k 0 = past_step e w r.0 k 0 r.1 in
    record {
      sent = λ m. rises (w.sent p m) (r.0.sent p m) (v.sent p m) (first.sent m) (rest.sent m);
      known = λ h. rest.known (first.known h);
      took = λ h l. rest.took (gone.stopped h) (first.known l) ∙ first.took h l;
    }
  where
    rises : (a b c : ℕ) → a ≤ b → b ≤ c → a ≤ c
    rises a b c x y = omega (arith, x, y)

-- ---- what is not committed

whole_of : (w : World) → Inv w → w.cell ≡ Committed → Whole w
whole_of w i is = i.whole (λ a. cc (a, is))

-- what was put and not handed up was taken nowhere
untaken : (w : World) (p q j : ℕ) → Counts w → Places w → IsLeft w p q j → w.received_at p (w.node q) j ≡ 0
untaken w p q j c x l = by w p q j (x.taken p (w.node q) j) (x.above p q j) (c.posted_old p q (w.received_at p (w.node q) j)) (c.received_posted (w.received_at p (w.node q) j) p) l.number l.put l.untaken
  where
    by : (w : World) (p q j : ℕ) → (1 ≤ w.received_at p (w.node q) j → (w.node (w.received_at p (w.node q) j) ≡ w.node q) × (1 ≤ j) × (j ≤ w.received (w.received_at p (w.node q) j) p))
        → (q < w.received_at p (w.node q) j → w.posted p q < j)
        → (w.node (w.received_at p (w.node q) j) ≡ w.node q → w.received_at p (w.node q) j < q → 1 ≤ w.posted p q → w.posted p (w.received_at p (w.node q) j) ≤ w.received q p)
        → w.received (w.received_at p (w.node q) j) p ≤ w.posted p (w.received_at p (w.node q) j)
        → 1 ≤ j → j ≤ w.posted p q → w.received q p < j → w.received_at p (w.node q) j ≡ 0
    by w p q j taken above old posted number put below = grind (arith, nat_tests, taken, above, old, posted, number, put, below)

left_not : (w : World) (p q j : ℕ) → Inv w → IsLeft w p q j → w.cell ≢ Committed
left_not w p q j i l is =
    none (w.received_at p (w.node q) j) (untaken w p q j i.counts (whole_of w i is).places l)
    ((settled_at w i is).taken p (w.node q) j l.number (within (w.posted p q) (w.sent p (w.node q)) l.put (i.counts.posted_sent p q))).0
  where
    within : (a b : ℕ) → j ≤ a → a ≤ b → j ≤ b
    within a b x y = omega (arith, x, y)

    none : (a : ℕ) → a ≡ 0 → 1 ≤ a → ⊥
    none a x y = omega (arith, x, y)

kept_back_not : (w : World) (p m j : ℕ) → Inv w → IsKeptBack w p m j → w.cell ≢ Committed
kept_back_not w p m j i l is =
    let took : (1 ≤ w.received_at p m j) × (w.node (w.received_at p m j) ≡ m) = (settled_at w i is).taken p m j l.number l.was_sent in
    by w p m j took ((whole_of w i is).places.taken p m j took.0) (i.counts.received_posted (w.received_at p m j) p) (i.counts.posted_known p (w.received_at p m j)) l.unknown
  where
    by : (w : World) (p m j : ℕ) → (1 ≤ w.received_at p m j) × (w.node (w.received_at p m j) ≡ m) → (w.node (w.received_at p m j) ≡ m) × (1 ≤ j) × (j ≤ w.received (w.received_at p m j) p)
        → w.received (w.received_at p m j) p ≤ w.posted p (w.received_at p m j) → (w.peer p (w.node (w.received_at p m j)) < w.received_at p m j → w.posted p (w.received_at p m j) ≡ 0) → w.peer p m ≡ 0 → ⊥
    by w p m j took at below known unknown = grind (arith, nat_tests, took, at, below, known, unknown)

engaged_not : (w : World) (k : ℕ) → Inv w → w.engaged k ≡ true → w.cell ≢ Committed
engaged_not w k i on is = engaged_open w k (whole_of w i is).tree on is

pub left_open : LeftOpen
left_open w p q j r l = left_not w p q j (inv_reached w r) l

pub kept_back_open : KeptBackOpen
kept_back_open w p m j r l = kept_back_not w p m j (inv_reached w r) l

pub engaged_is_open : EngagedOpen
engaged_is_open w k r on = engaged_not w k (inv_reached w r) on

pub busy_engaged : BusyEngaged
busy_engaged w k r other busy = by busy.why
  where
    at : At w k
    at = ((inv_reached w r).whole other).tree.at k

    by : ((m : ℕ) × (w.covered k m < w.sent k m)) ⊎ (((s : ℕ) × (w.served k s < w.arrived k s)) ⊎ (((s : ℕ) × Votes w k s × (w.voted k s < w.arrived k s)) ⊎ ((1 ≤ w.loans k) ⊎ (w.gone k ≡ true)))) → w.engaged k ≡ true
    by (inl uncovered) = at.open_engaged uncovered.0 uncovered.1
    by (inr (inl waits)) = at.waits_engaged waits.0 waits.1
    by (inr (inr (inl vote))) = at.vote_engaged vote.0 vote.1 vote.2
    by (inr (inr (inr (inl loan)))) = at.loan_engaged loan
    by (inr (inr (inr (inr gone)))) = at.gone_engaged gone

-- ---- what dooms

pub doom_stays : DoomStays
doom_stays w v doomed leads x more = doomed x (leads_on w v x leads more)

later : (w v : World) → Inv w → Leads w v → Inv v
later w v i l = inv_run l.events w v i l.run

pub abort_dooms : AbortDooms
abort_dooms w r aborted v l is = let then : v.cell ≡ Aborted = (lasts_run l.events w v 0 (inv_reached w r) l.run).aborted aborted in cc (then, is)

pub engaged_past_dooms : EngagedPastDooms
engaged_past_dooms w k r past on v l = engaged_not v k (later w v (inv_reached w r) l) ((past_run l.events w v k 0 l.run).engaged past ∙ on)

pub past_home_dooms : PastHomeDooms
past_home_dooms w r down other = by w.cell refl
  where
    i : Inv w
    i = inv_reached w r

    by : (o : Outcome) → w.cell ≡ o → IsDoomed w
    by Open is = engaged_past_dooms w w.home r (record { down = down; begun = (i.keeps 0).home_born }) ((i.whole (λ a. cc (a, is))).tree.home.home_engaged is)
    by Committed is = absurd (other is)
    by Aborted is = abort_dooms w r is

pub abort_vote_dooms : AbortVoteDooms
abort_vote_dooms w q r against v l is =
    let i : Inv v = later w v (inv_reached w r) l in
    engaged_not v q i (((whole_of v i is).tree.at q).against_engaged ((lasts_run l.events w v q (inv_reached w r) l.run).against against)) is

pub gone_dooms : GoneDooms
gone_dooms w q r gone v l is =
    let i : Inv v = later w v (inv_reached w r) l in
    engaged_not v q i (((whole_of v i is).tree.at q).gone_engaged ((lasts_run l.events w v q (inv_reached w r) l.run).gone gone)) is

pub refusal_dooms : RefusalDooms
refusal_dooms w q r on refused v l is = by ((lasts_run l.events w v q (inv_reached w r) l.run).refused on refused)
  where
    by : (v.cell ≡ Aborted) ⊎ ((v.engaged q ≡ true) × (v.refused q ≡ true)) → ⊥
    by (inl aborted) = cc (aborted, is)
    by (inr waits) = engaged_not v q (later w v (inv_reached w r) l) waits.0 is

pub left_dooms : LeftDooms
left_dooms w p q j r past left v l = left_not v p q j (later w v (inv_reached w r) l) ((missed_run l.events w v q p j (inv_reached w r) l.run).left past left)

pub left_behind_dooms : LeftBehindDooms
left_behind_dooms w p q j r later left v l = left_not v p q j (inv_run l.events w v (inv_reached w r) l.run) (behind_run l.events w v q p j (inv_reached w r) l.run later left)

pub kept_back_dooms : KeptBackDooms
kept_back_dooms w p m j r past kept v l =
    let its : Past w v p m = past_run l.events w v p m l.run in
    kept_back_not v p m j (later w v (inv_reached w r) l) (record { number = kept.number; was_sent = subst (λ (n : ℕ). j ≤ n) (sym (its.sent past)) kept.was_sent; unknown = its.peer past ∙ kept.unknown })

-- ---- a request that is sent to a place which stopped before

pub sent_stays : SentStays
sent_stays w v p m l = (later_run l.events w v 0 p l.run).sent m

pub late_dooms : LateDooms
late_dooms w v p q r past some before now l more =
    left_dooms v p q (v.sent p (w.node q)) (reached_on w v r l) ((past_run l.events w v q 0 l.run).stopped past)
    (left (by (v.sent p (w.node q)) (w.sent p (w.node q)) (v.posted p q) (v.received q p) (w.received q p) (w.posted p q) more
    (subst (λ (m : ℕ). v.posted p q ≡ v.sent p m) node_is (i.counts.posted_all p q (subst (λ (m : ℕ). v.peer p m ≡ q) (sym node_is) now) some))
    ((later_run l.events w v q p l.run).took past (at (w.peer p (w.node q)) before)) (j.counts.received_posted q p) (j.counts.posted_sent p q)))
  where
    i : Inv v
    i = later w v (inv_reached w r) l

    j : Inv w
    j = inv_reached w r

    node_is : v.node q ≡ w.node q
    node_is = ap (λ (f : ℕ → ℕ). f q) (past_run l.events w v q 0 l.run).node

    left : (1 ≤ v.sent p (w.node q)) × ((v.sent p (w.node q) ≤ v.posted p q) × (v.received q p < v.sent p (w.node q))) → IsLeft v p q (v.sent p (w.node q))
    left its = record { number = its.0; put = its.1.0; untaken = its.1.1 }

    at : (a : ℕ) → a ≡ q → q ≤ a
    at a is = omega (arith, is)

    by : (new old put took had posted : ℕ) → old < new → put ≡ new → took ≡ had → had ≤ posted → posted ≤ old → (1 ≤ new) × ((new ≤ put) × (took < new))
    by new old put took had posted more all same below within = (omega (arith, more), (omega (arith, all), omega (arith, more, same, below, within)))
