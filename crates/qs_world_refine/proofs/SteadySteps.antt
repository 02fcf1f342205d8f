-- A step of a node, made or cut off, leaves it tidy, and what it sends and appends fits.
use Rattle.qs_world_refine.proofs.Words.{◌≡◌, inl, inr, ℕ, ◌+◌, ◌≤◌, ◌<◌, ◌==◌, ◌&&◌, ◌||◌, Bool, true, false, refl, sym, ap, subst, ◌∙◌, arith, nat_lt, nat_le, if◌then◌else◌, nat_tests, ◌⊎◌, NodeNo, same_node, names_transaction, happen, step_work, accept, NodeValue, Work, work_on, begun_among, past_among, inc_in, count_in, is_sound, begun, stage_of, IsSteadyWorld, MachineGives, Stage, IsStage, IsTidyNode, IsTidy}
use Rattle.qs_node_step.specs.declared.event.Event.{Event}
use Rattle.qs_tm.specs.Manager as tm
use Rattle.qs_world.specs.World.{World}
use Rattle.qs_world_refine.proofs.SoundHappen.{happen_sound}
use Rattle.qs_world_refine.proofs.SoundParts.{both_and}
use Rattle.qs_world_refine.proofs.SoundRestart.{begin_incarnation_sound}
use Rattle.qs_world_refine.proofs.SteadyGrows.{Rises, begun_rises, past_rises, begun_past, own_past, stage_is}
use Rattle.qs_world_refine.proofs.SteadyBegins.{ComesFit, begun_tidy, comes_may, comes_on}
use Rattle.qs_world_refine.proofs.TidyHappens.{Later, happen_tidy, settles_tidy}

-- one number more at node n
abbrev pub bump : ℕ → (ℕ → ℕ) → ℕ → ℕ
bump n count k = if k == n then count k + 1 else count k

pub bumped : (n : ℕ) (count : ℕ → ℕ) (k : ℕ) → count k ≤ bump n count k
bumped n count k = by (k == n)
  where
    by : (b : Bool) → count k ≤ (if b then count k + 1 else count k)
    by true = grind (arith)
    by false = grind (arith)

bump_here : (n : ℕ) (count : ℕ → ℕ) → bump n count n ≡ count n + 1
bump_here n count = let same : (n == n) ≡ true = grind (arith, nat_tests) in rw same refl

-- the number that comes next
next_begun : (size n : ℕ) (inc count : ℕ → ℕ) (h : NodeNo) (i b : ℕ) → h.0 ≡ n → i ≡ inc n → b ≡ count n → n < size → begun_among size inc (bump n count) (record { home = h; inc = i; seq = b + 1 }) ≡ true
next_begun size n inc count h i b home same number low = both_and (names_transaction (record { home = h; inc = i; seq = b + 1 })) _ (grind (arith, nat_tests)) (both_and (nat_lt h.0 size) _ (grind (arith, nat_tests, home, low)) (given h.0 home))
  where
    given : (k : ℕ) → k ≡ n → (nat_lt i (inc k) || ((i == inc k) && nat_le (b + 1) (bump n count k))) ≡ true
    given k is = subst (λ (j : ℕ). (nat_lt i (inc j) || ((i == inc j) && nat_le (b + 1) (bump n count j))) ≡ true) (sym is) at
      where
        here : bump n count n ≡ count n + 1
        here = bump_here n count

        at : (nat_lt i (inc n) || ((i == inc n) && nat_le (b + 1) (bump n count n))) ≡ true
        at = grind (arith, nat_tests, same, number, here)

module _ (world : World) (steady : IsSteadyWorld world) (n free : ℕ) (low : n < world.size) (up : world.channels.up n ≡ true) where
  abbrev pub c : Stage
  c = stage_of world n

  -- once one more is begun
  abbrev pub d : Stage
  d = record {
    setting = c.setting;
    count = c.count + 1;
    past = past_among world.size (inc_in world) (bump n (count_in world));
    begun = begun_among world.size (inc_in world) (bump n (count_in world));
    met = c.met;
  }

  counts : count_in world n ≡ c.count
  counts = rw up refl

  incs : inc_in world n ≡ c.setting.inc
  incs = (rw up refl) ∙ sym (steady.seated.inc n low)

  pub more : Rises (inc_in world) (count_in world) (inc_in world) (bump n (count_in world))
  more k = inr (refl, bumped n (count_in world) k)

  pub stage_d : IsStage d
  stage_d = record {
    inside = λ tid is. subst (λ (k : ℕ). (d.past tid ≡ true) × (nat_lt tid.home.0 k ≡ true)) (sym (steady.seated.nodes n low)) (begun_past world.size (inc_in world) (bump n (count_in world)) tid is);
    own = λ tid is home. subst (λ (k : ℕ). (names_transaction tid ≡ true) × ((tid.inc < k) ⊎ ((tid.inc ≡ k) × (tid.seq ≤ c.count + 1)))) incs
        (subst (λ (k : ℕ). (names_transaction tid ≡ true) × ((tid.inc < inc_in world n) ⊎ ((tid.inc ≡ inc_in world n) × (tid.seq ≤ k)))) (bump_here n (count_in world) ∙ ap (λ (k : ℕ). k + 1) counts)
        (own_past world.size (inc_in world) (bump n (count_in world)) n tid low is (subst (λ (m : NodeNo). same_node tid.home m ≡ true) (steady.seated.node n low) home)));
  }

  next_is : (node : NodeValue) → IsTidyNode c node → d.begun (tm.next_tid node.manager) ≡ true
  next_is node t = next_begun world.size n (inc_in world) (count_in world) node.manager.node node.manager.inc node.manager.begun
      (ap (λ (m : NodeNo). m.0) (t.own ∙ steady.seated.node n low)) (t.inc ∙ sym incs) (t.count ∙ sym counts) low

  pub later : Later c d
  later = record {
    wide = record { setting = refl; past = past_rises world.size (inc_in world) (count_in world) (inc_in world) (bump n (count_in world)) more; begun = begun_rises world.size (inc_in world) (count_in world) (inc_in world) (bump n (count_in world)) more; met = λ m is. is };
    stage = stage_d;
    next = λ node t. (stage_d.inside (tm.next_tid node.manager) (next_is node t)).0;
    begun = next_is;
    count = refl;
  }

  pub step_tidy : (event : Event) → ComesFit world steady n free low up event → MachineGives event (begun (world.hosts n).node free)
      → IsTidy c (step_work (world.hosts n).node event free) ⊎ IsTidy d (step_work (world.hosts n).node event free)
  step_tidy event fit gives = by (happen_tidy c (stage_is world n low up steady.seated) d later event first (comes_on world steady n free low up event fit) (begun_tidy world steady n free low up))
    where
      first : Work
      first = begun (world.hosts n).node free

      first_sound : is_sound first.node ≡ true
      first_sound = begin_incarnation_sound (work_on (world.hosts n).node free) (steady.sound n low).node

      sound : is_sound (happen event first).node ≡ true
      sound = happen_sound event first (comes_may world steady n free low up event fit gives) first_sound

      by : (IsTidy c (happen event first) ⊎ IsTidy d (happen event first)) → IsTidy c (step_work (world.hosts n).node event free) ⊎ IsTidy d (step_work (world.hosts n).node event free)
      by (inl t) = inl (settles_tidy c (stage_is world n low up steady.seated) (happen event first) sound t)
      by (inr t) = inr (settles_tidy d stage_d (happen event first) sound t)

-- what it keeps for its clients counts from now on
pub accept_tidy : (e : Stage) (node : NodeValue) → IsTidyNode e node → IsTidyNode e (accept node)
accept_tidy e node n = record {
  setting = n.setting;
  own = n.own;
  inc = n.inc;
  count = n.count;
  ordered = n.ordered;
  known = n.known;
  apart = n.apart;
  waiting = n.waiting;
  labels = n.labels;
  loans = n.loans;
  outcomes = n.outcomes;
  commands = n.commands;
  kinds = n.kinds;
  committed = n.committed;
  crossed = record { owned = n.crossed.owned; commits = n.crossed.commits; fresh = n.crossed.fresh; pasts = n.crossed.pasts; earlier = n.crossed.earlier };
}
