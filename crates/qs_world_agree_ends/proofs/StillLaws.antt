-- Where nothing is left to do, the home is ready.
use Rattle.std.proofs.Common.{◌≡◌, ◌≢◌, ◌⊎◌, ℕ, ◌+◌, ◌<◌, ◌≤◌, Bool, inl, inr, zero, suc, true, false, length, refl, sym, subst, ap, arith}
use Rattle.std.proofs.lemmas.Bool.{cases_eq}
use Rattle.qs_world_agree.specs.World.{Outcome, Open, Committed, Aborted, World}
use Rattle.qs_world_agree.specs.Guards.{IsReady}
use Rattle.qs_world_agree.specs.Doomed.{IsLeft, IsKeptBack}
use Rattle.qs_world_agree.specs.Laws.{IsReached}
use Rattle.qs_world_agree.proofs.Facts.{home_open}
use Rattle.qs_world_agree.proofs.Lawful.{agreed_at}
use Rattle.qs_world_agree_ends.specs.Moments.{engaged_at, up_from, LeadsHome}
use Rattle.qs_world_agree_ends.specs.Requests.{IsUncovered, IsComing, IsOwed}
use Rattle.qs_world_agree_ends.specs.Still.{KnowsWhoRuns, RunsHome, IsCutOff, EngagedRuns, IsDone, IsStill, HomeIsReady}
use Rattle.qs_world_agree_ends.proofs.EngagementLaws.{home_is_engaged}
use Rattle.qs_world_agree_ends.proofs.Ends.{Ends, ends_reached, order_reached}
use Rattle.qs_world_agree_ends.proofs.MomentLaws.{engagers_come_first, leads, owed_comes_later}
use Rattle.qs_world_agree_ends.proofs.RequestLaws.{sent_is_put, uncovered_goes_on}
use Rattle.qs_world_agree_ends.proofs.Tied.{Tied, Tie, tied_to}

-- ---- who runs

-- one that a running place engaged runs, unless that has a cause Gone
below_runs : (w : World) (k : ℕ) → Ends w → KnowsWhoRuns w → w.engaged k ≡ true → k ≢ w.home → w.up (w.engager k) ≡ true → w.gone (w.engager k) ≡ false → w.up k ≡ true
below_runs w k i known on other up off = subst (λ (q : ℕ). w.up q ≡ true) (same (w.peer (w.engager k) (w.node k)) t.some t.known (λ less. newer (h.newer on other less))) (known (w.engager k) (w.node k) up (from k (w.peer (w.engager k) (w.node k)) t.some t.known))
  where
    h : Tied w k
    h = i.tied k

    t : Tie w k
    t = tied_to w k i.inv.counts h on other

    newer : w.gone (w.engager k) ≡ true → ⊥
    newer gone = cc (gone, off)

    from : (a b : ℕ) → 1 ≤ a → a ≤ b → 1 ≤ b
    from a b x y = omega (arith, x, y)

    same : (there : ℕ) → 1 ≤ k → k ≤ there → (k < there → ⊥) → there ≡ k
    same there x y no_later = grind (arith, no_later)

either : (b : Bool) → (b ≡ true) ⊎ (b ≡ false)
either true = inl refl
either false = inr refl

-- of a way of so many steps: all on it run, or one has a cause Gone, and all above it run
record Cut (w : World) (n k : ℕ) : Type 0 where
  at : ℕ
  within : at ≤ n
  gone : w.gone (up_from w at k) ≡ true
  runs : (i : ℕ) → at ≤ i → i ≤ n → w.up (up_from w i k) ≡ true

-- one step further down
cut_under : (w : World) (n k : ℕ) → Cut w n (w.engager k) → Cut w (suc n) k
cut_under w n k c = record { at = suc c.at; within = omega (arith, c.within); gone = c.gone; runs = runs }
  where
    runs : (i : ℕ) → suc c.at ≤ i → i ≤ suc n → w.up (up_from w i k) ≡ true
    runs zero from to = absurd (omega (arith, from))
    runs (suc i) from to = c.runs i (omega (arith, from)) (omega (arith, to))

cut_here : (w : World) (n k : ℕ) → w.gone (w.engager k) ≡ true → ((i : ℕ) → i ≤ n → w.up (up_from w i (w.engager k)) ≡ true) → Cut w (suc n) k
cut_here w n k gone all = record { at = 1; within = omega arith; gone = gone; runs = runs }
  where
    runs : (i : ℕ) → 1 ≤ i → i ≤ suc n → w.up (up_from w i k) ≡ true
    runs zero from to = absurd (omega (arith, from))
    runs (suc i) from to = all i (omega (arith, to))

all_under : (w : World) (n k : ℕ) → w.up k ≡ true → ((i : ℕ) → i ≤ n → w.up (up_from w i (w.engager k)) ≡ true) → (i : ℕ) → i ≤ suc n → w.up (up_from w i k) ≡ true
all_under w n k on all zero to = on
all_under w n k on all (suc i) to = all i (omega (arith, to))

-- up the engagers
runs_up : (n : ℕ) (w : World) (k : ℕ) → Ends w → KnowsWhoRuns w → w.up w.home ≡ true → up_from w n k ≡ w.home → ((i : ℕ) → i < n → w.engaged (up_from w i k) ≡ true) → ((i : ℕ) → i < n → up_from w i k ≢ w.home)
    → ((i : ℕ) → i ≤ n → w.up (up_from w i k) ≡ true) ⊎ Cut w n k
runs_up zero w k i known up at on other = inl (here (subst (λ (q : ℕ). w.up q ≡ true) (sym at) up))
  where
    here : w.up k ≡ true → (j : ℕ) → j ≤ 0 → w.up (up_from w j k) ≡ true
    here yes_up zero to = yes_up
    here yes_up (suc j) to = absurd (omega (arith, to))
runs_up (suc n) w k i known up at on other =
    elim (runs_up n w (w.engager k) i known up at (λ j below. on (suc j) (omega (arith, below))) (λ j below. other (suc j) (omega (arith, below)))) [
      | inr cut ↦ inr (cut_under w n k cut)
      | inl all ↦ elim (either (w.gone (w.engager k))) [
        | inl gone ↦ inr (cut_here w n k gone all)
        | inr off ↦ inl (all_under w n k (below_runs w k i known (on zero (omega arith)) (other zero (omega arith)) (all zero (omega arith)) off) all)
      ]
    ]

pub engaged_runs : EngagedRuns
engaged_runs w k r known up on = by (cases_eq k w.home)
  where
    i : Ends w
    i = ends_reached w r

    away : (q : ℕ) → 1 ≤ engaged_at r.events q → q ≢ w.home
    away q some at = (engagers_come_first r.origin r.events w q r.begins r.run some).away (ap w.node at)

    at_home : k ≡ w.home → (j : ℕ) → j ≤ 0 → w.up (up_from w j k) ≡ true
    at_home at zero to = subst (λ (q : ℕ). w.up q ≡ true) (sym at) up
    at_home at (suc j) to = absurd (omega (arith, to))

    so : (l : LeadsHome r.events w k) → ((j : ℕ) → j ≤ l.steps → w.up (up_from w j k) ≡ true) ⊎ Cut w l.steps k → RunsHome w k ⊎ IsCutOff w k
    so l (inl all) = inl (record { steps = l.steps; ends = l.ends; engaged = l.engaged on; runs = all })
    so l (inr cut) = inr (record { steps = l.steps; ends = l.ends; engaged = l.engaged on; at = cut.at; within = cut.within; gone = cut.gone; runs = cut.runs })

    by : (k ≡ w.home) ⊎ (k ≢ w.home) → RunsHome w k ⊎ IsCutOff w k
    by (inl at) = inl (record { steps = 0; ends = at; engaged = λ j below. absurd (omega (arith, below)); runs = at_home at })
    by (inr other) =
        let l : LeadsHome r.events w k = leads r.origin r.events w r.begins r.run k ((order_reached r.origin r.events w r.begins r.run k).is_in on other) in
        so l (runs_up l.steps w k i known up l.ends (l.engaged on) (λ j below. away (up_from w j k) (l.along j below)))

-- ---- and all that was sent is covered

module _ (w : World) (r : IsReached w) (still : IsStill w) (up : w.up w.home ≡ true) (undecided : w.outcome w.home ≡ Open) where
  i : Ends w
  i = ends_reached w r

  cell : w.cell ≡ Open
  cell = home_open w i.inv.keeps up undecided

  -- nobody knows an outcome
  unknown : (q : ℕ) → w.outcome q ≡ Open
  unknown q = by (w.outcome q) refl
    where
      by : (o : Outcome) → w.outcome q ≡ o → w.outcome q ≡ Open
      by Open is = is
      by Committed is = let decided : w.cell ≡ Committed = i.inv.outcomes.knows q is in absurd (cc (decided, cell))
      by Aborted is = let decided : w.cell ≡ Aborted = (agreed_at w i.inv).knows_abort q is in absurd (cc (decided, cell))

  -- who has covered what it sent is ready
  ready : (q : ℕ) → w.up q ≡ true → w.engaged q ≡ true → ((m : ℕ) → w.covered q m ≡ w.sent q m) → IsReady w q
  ready q on held covered =
      let d : IsDone w q = still.done q on held in
      record {
        up = on;
        engaged = held;
        asked = d.asked;
        unknown = unknown q;
        refused = d.refused;
        gone = d.gone;
        abort_vote = d.abort_vote;
        loans = d.loans;
        served = d.served;
        voted = d.voted;
        covered = covered;
      }

  -- nobody that runs has a cause Gone
  not_gone : (q : ℕ) → w.up q ≡ true → w.gone q ≡ false
  not_gone q on = by (either (w.gone q))
    where
      held : w.gone q ≡ true → (q ≡ w.home) ⊎ (q ≢ w.home) → w.engaged q ≡ true
      held gone (inl at) = subst (λ (p : ℕ). w.engaged p ≡ true) (sym at) (home_is_engaged w r cell)
      held gone (inr other) = (i.tied q).gone_engaged other gone

      by : (w.gone q ≡ true) ⊎ (w.gone q ≡ false) → w.gone q ≡ false
      by (inl gone) = (still.done q on (held gone (cases_eq q w.home))).gone
      by (inr off) = off

  -- who is engaged runs
  held_runs : (q : ℕ) → w.engaged q ≡ true → w.up q ≡ true
  held_runs q on = by (engaged_runs w q r still.known up on)
    where
      by : RunsHome w q ⊎ IsCutOff w q → w.up q ≡ true
      by (inl runs) = runs.runs 0 (omega arith)
      by (inr cut) = let off : w.gone (up_from w cut.at q) ≡ false = not_gone (up_from w cut.at q) (cut.runs cut.at (omega arith) cut.within) in absurd (cc (off, cut.gone))

  -- and so does its engager
  engager_runs : (q : ℕ) → w.engaged q ≡ true → q ≢ w.home → w.up (w.engager q) ≡ true
  engager_runs q on other = elim (cases_eq (w.engager q) w.home) [
    | inl at ↦ subst (λ (p : ℕ). w.up p ≡ true) (sym at) up
    | inr away ↦ held_runs (w.engager q) ((i.tied q).above on other away)
  ]

  -- who has not covered what it sent to a node is owed an answer by the place that it knows there, which was engaged later
  owes : (p m : ℕ) → w.up p ≡ true → w.covered p m < w.sent p m → IsOwed w (w.peer p m) p (w.sent p m)
  owes p m on below = put (sent_is_put w p m (w.sent p m) r below (same (w.sent p m)))
    where
      same : (a : ℕ) → a ≤ a
      same a = omega arith

      there : w.up (w.peer p m) ≡ true
      there = still.known p m on (still.put p m on below)

      by : IsLeft w p (w.peer p m) (w.sent p m) ⊎ (IsComing w (w.peer p m) p (w.sent p m) ⊎ IsOwed w (w.peer p m) p (w.sent p m)) → IsOwed w (w.peer p m) p (w.sent p m)
      by (inl left) = let all : w.posted p (w.peer p m) ≤ w.received (w.peer p m) p = still.taken p (w.peer p m) on there in absurd (omega (arith, all, left.put, left.untaken))
      by (inr (inl coming)) = let all : w.closers (w.peer p m) p ≤ w.closers_taken p (w.peer p m) = still.counted p (w.peer p m) on there in absurd (omega (arith, all, coming.put, coming.untaken))
      by (inr (inr owed)) = owed

      put : IsKeptBack w p m (w.sent p m) ⊎ ((w.node (w.peer p m) ≡ m) × IsUncovered w p (w.peer p m) (w.sent p m)) → IsOwed w (w.peer p m) p (w.sent p m)
      put (inl back) = let some : 1 ≤ w.peer p m = still.put p m on below in absurd (omega (arith, some, back.unknown))
      put (inr sent) = by (uncovered_goes_on w p (w.peer p m) (w.sent p m) r (record { runs = on; undecided = λ at. unknown p; not_gone = not_gone p on }) sent.1)

  later : (p m : ℕ) → w.up p ≡ true → IsOwed w (w.peer p m) p (w.sent p m) → (engaged_at r.events p < engaged_at r.events (w.peer p m)) × (engaged_at r.events (w.peer p m) ≤ length r.events)
  later p m on owed =
      let it = owed_comes_later r.origin r.events w p (w.peer p m) (w.sent p m) r.begins r.run on (engager_runs (w.peer p m) owed.engaged owed.other) owed in
      (it.1, it.2)

  covers : (n p : ℕ) → length r.events ≤ engaged_at r.events p + n → w.up p ≡ true → (m : ℕ) → w.covered p m ≡ w.sent p m
  covers zero p bound on m = elim (cases_eq (w.covered p m) (w.sent p m)) [
    | inl is ↦ is
    | inr other ↦
        let below : w.covered p m < w.sent p m = omega (arith, other, i.inv.counts.covered_sent p m) in
        let more = later p m on (owes p m on below) in
        absurd (omega (arith, bound, more.0, more.1))
  ]
  covers (suc n) p bound on m = elim (cases_eq (w.covered p m) (w.sent p m)) [
    | inl is ↦ is
    | inr other ↦
        let below : w.covered p m < w.sent p m = omega (arith, other, i.inv.counts.covered_sent p m) in
        let owed : IsOwed w (w.peer p m) p (w.sent p m) = owes p m on below in
        let there : w.up (w.peer p m) ≡ true = still.known p m on (still.put p m on below) in
        let more = later p m on owed in
        absurd (still.said (w.peer p m) owed.other (ready (w.peer p m) there owed.engaged (covers n (w.peer p m) (omega (arith, bound, more.0)) there)))
  ]

  all : (m : ℕ) → w.covered w.home m ≡ w.sent w.home m
  all = covers (length r.events) w.home (omega arith) up

  pub ready_home : IsReady w w.home
  ready_home = ready w.home up (home_is_engaged w r cell) all

pub home_is_ready : HomeIsReady
home_is_ready w r still up undecided = ready_home w r still up undecided
