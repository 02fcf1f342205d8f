-- A node at each stage of its step keeps of transactions that have begun alone: before the step, or in it, where a client begins one.
use Rattle.qs_world_runs.proofs.Words.{◌≡◌, ◌⊎◌, inl, inr, ℕ, ◌+◌, ◌<◌, ◌≤◌, ◌==◌, ◌&&◌, ◌||◌, Bool, true, false, refl, sym, ap, subst, ◌∙◌, arith, nat_lt, nat_le, nat_tests, NodeNo, same_node, names_transaction, Work, happen, Event, World, count_in, inc_in, IsSteadyWorld, IsStage, IsTidy, IsTidyNode, Stage, ComesFit, begun_tidy, c, stage, begins_in, tidy_keeps, tidy_ticks, tidy_reads}
use Rattle.qs_node_step.specs.State.{NodeValue}
use Rattle.qs_node_step.specs.declared.event.Event.TheVariants as events
use Rattle.qs_tm.specs.Manager as tm
use Rattle.qs_world_refine.specs.Begun.{begun_among}
use Rattle.qs_world_refine.specs.SoundSteps.{begun}
use Rattle.qs_world_refine.specs.Walks.{MayStepOn}
use Rattle.qs_world_refine.proofs.SoundParts.{both_and}
use Rattle.qs_world_refine.proofs.SteadyBegins.{comes_on}
use Rattle.qs_world_refine.proofs.SteadyGrows.{begun_past, begun_rises, own_past, past_rises}
use Rattle.qs_world_refine.proofs.SteadySteps.{bump, d, more}
use Rattle.qs_world_refine.proofs.TidyHappens.{Later, MayComeOn, happen_tidy}
use Rattle.qs_world_refine.proofs.WalkSteps.{happen_walk, may_tick}

bump_here : (n : ℕ) (count : ℕ → ℕ) → bump n count n ≡ count n + 1
bump_here n count = let same : (n == n) ≡ true = grind (arith, nat_tests) in rw same refl

-- the number that comes next
next_begun : (size n : ℕ) (inc count : ℕ → ℕ) (h : NodeNo) (i b : ℕ) → h.0 ≡ n → i ≡ inc n → b ≡ count n → n < size → begun_among size inc (bump n count) (record { home = h; inc = i; seq = b + 1 }) ≡ true
next_begun size n inc count h i b home same number low = both_and (names_transaction (record { home = h; inc = i; seq = b + 1 })) _ (grind (arith, nat_tests)) (both_and (nat_lt h.0 size) _ (grind (arith, nat_tests, home, low)) (given h.0 home))
  where
    given : (k : ℕ) → k ≡ n → (nat_lt i (inc k) || ((i == inc k) && nat_le (b + 1) (bump n count k))) ≡ true
    given k is = subst (λ (j : ℕ). (nat_lt i (inc j) || ((i == inc j) && nat_le (b + 1) (bump n count j))) ≡ true) (sym is) at
      where
        here : bump n count n ≡ count n + 1
        here = bump_here n count

        at : (nat_lt i (inc n) || ((i == inc n) && nat_le (b + 1) (bump n count n))) ≡ true
        at = grind (arith, nat_tests, same, number, here)

module _ (world : World) (steady : IsSteadyWorld world) (n free : ℕ) (low : n < world.size) (up : world.channels.up n ≡ true) where
  abbrev pub before : Stage
  before = c world steady n free low up

  -- once one more is begun
  abbrev pub behind : Stage
  behind = d world steady n free low up

  pub stage_before : IsStage before
  stage_before = stage world steady n free low up

  counts : count_in world n ≡ before.count
  counts = rw up refl

  incs : inc_in world n ≡ before.setting.inc
  incs = (rw up refl) ∙ sym (steady.seated.inc n low)

  pub stage_behind : IsStage behind
  stage_behind = record {
    inside = λ tid is. subst (λ (k : ℕ). (behind.past tid ≡ true) × (nat_lt tid.home.0 k ≡ true)) (sym (steady.seated.nodes n low)) (begun_past world.size (inc_in world) (bump n (count_in world)) tid is);
    own = λ tid is home. subst (λ (k : ℕ). (names_transaction tid ≡ true) × ((tid.inc < k) ⊎ ((tid.inc ≡ k) × (tid.seq ≤ before.count + 1)))) incs
        (subst (λ (k : ℕ). (names_transaction tid ≡ true) × ((tid.inc < inc_in world n) ⊎ ((tid.inc ≡ inc_in world n) × (tid.seq ≤ k)))) (bump_here n (count_in world) ∙ ap (λ (k : ℕ). k + 1) counts)
        (own_past world.size (inc_in world) (bump n (count_in world)) n tid low is (subst (λ (m : NodeNo). same_node tid.home m ≡ true) (steady.seated.node n low) home)));
  }

  next_is : (node : NodeValue) → IsTidyNode before node → behind.begun (tm.next_tid node.manager) ≡ true
  next_is node t = next_begun world.size n (inc_in world) (count_in world) node.manager.node node.manager.inc node.manager.begun
      (ap (λ (m : NodeNo). m.0) (t.own ∙ steady.seated.node n low)) (t.inc ∙ sym incs) (t.count ∙ sym counts) low

  later : Later before behind
  later = record {
    wide = record {
      setting = refl;
      past = past_rises world.size (inc_in world) (count_in world) (inc_in world) (bump n (count_in world)) (more world steady n free low up);
      begun = begun_rises world.size (inc_in world) (count_in world) (inc_in world) (bump n (count_in world)) (more world steady n free low up);
      met = λ m is. is;
    };
    stage = stage_behind;
    next = λ node t. (stage_behind.inside (tm.next_tid node.manager) (next_is node t)).0;
    begun = next_is;
    count = refl;
  }

  -- what comes is done: no transaction begins, or one
  pub done_tidy : (event : Event) → ComesFit world steady n free low up event
      → IsTidy before (happen event (begun (world.hosts n).node free)) ⊎ ((begins_in event ≡ true) × IsTidy behind (happen event (begun (world.hosts n).node free)))
  done_tidy event fit = by (begins_in event) refl
    where
      first : Work
      first = begun (world.hosts n).node free

      its : IsStage before
      its = stage world steady n free low up

      may_on : (event : Event) → begins_in event ≡ false → MayComeOn before its event → MayStepOn before.past before.begun before.met before.setting.node before.setting.nodes event
      may_on (events.Command client line label command) none may = (may, none)
      may_on (events.Received peer message) none may = may
      may_on events.ServeAll none may = tt
      may_on (events.PeerRestarted peer old new) none may = tt
      may_on events.Tick none may = tt

      by : (b : Bool) → begins_in event ≡ b → IsTidy before (happen event first) ⊎ ((begins_in event ≡ true) × IsTidy behind (happen event first))
      by false none = inl (happen_walk before.past before.begun before.met before.setting.node before.setting.nodes (IsTidy before) (tidy_reads before its) (tidy_keeps before its) event first
          (may_on event none (comes_on world steady n free low up event fit)) (may_tick (IsTidy before) (tidy_ticks before) event) (begun_tidy world steady n free low up))
      by true one = either (happen_tidy before its behind later event first (comes_on world steady n free low up event fit) (begun_tidy world steady n free low up))
        where
          either : IsTidy before (happen event first) ⊎ IsTidy behind (happen event first) → IsTidy before (happen event first) ⊎ ((begins_in event ≡ true) × IsTidy behind (happen event first))
          either (inl t) = inl t
          either (inr t) = inr (one, t)
