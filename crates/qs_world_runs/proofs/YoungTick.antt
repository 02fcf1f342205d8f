-- In the step of a tick a home aborts all that becomes as old as its limit; so what it has not decided after it is younger.
use Rattle.qs_world_runs.proofs.Words.{◌≡◌, ◌≢◌, ℕ, ◌+◌, ◌-◌, ◌≤◌, ◌<◌, ◌^◌, Bool, true, false, List, [], ◌∷◌, Option, Some, None, fold, is_none, nat_le, refl, sym, ap, subst, ◌∙◌, arith, if◌then◌else◌, nat_tests, is_at, list_all, lookup, tid_cmp, Tid, at_exact, ticked, enter, keep_outcome, Work, change_server, with_manager, abort_old, age_rule, tick, Setting, Manager, Participant, IsStage, IsTidy, Stage, tidy_keeps, tidy_ticks, tidy_reads, Every, each_changed, of_some, Stays, and_three}
use Rattle.std.proofs.Common.{min}
use Rattle.qs_base.specs.declared.identifiers.Outcome.TheVariants as outcomes
use Rattle.qs_base.specs.declared.identifiers.Outcome.{Outcome}
use Rattle.qs_book_journal.specs.declared.entry.Act.TheVariants as acts
use Rattle.qs_ops.specs.declared.answer.Cause.TheVariants as causes
use Rattle.qs_node_servers.specs.Servers.{timers_no}
use Rattle.qs_tm.specs.Manager as tm
use Rattle.qs_tm.specs.Manager.{is_one}
use Rattle.qs_tm.specs.Outcomes as outcome_rules
use Rattle.qs_tm.specs.declared.manager.Which.{Which}
use Rattle.qs_tm.specs.declared.manager.Which.TheVariants as whiches
use Rattle.qs_world_refine.specs.Walks.{Keeps, is_homed}
use Rattle.qs_world_refine.proofs.SoundParts.{and_both}
use Rattle.qs_world_refine.proofs.WalkOutcomes.{decided_walk}
use Rattle.qs_world_lawful.proofs.AgedTids.{chosen, chosen_are}
use Rattle.qs_world_lawful.proofs.Marks.{changed_rises}
use Rattle.qs_world_runs.specs.Stays.{IsYoungAt}
use Rattle.qs_world_runs.proofs.StaysWalk.{Both, both_keeps, both_reads, stays_still}

-- what is one of these is chosen
pub is_chosen : (which : Which) (es : List (Tid × Participant)) (t : Tid) (part : Participant) → lookup (is_at (tid_cmp t)) es ≡ Some part → is_one which t part ≡ true → Every (λ (u : Tid). u ≢ t) (chosen which es) → ⊥
is_chosen which [] t part known one all = cc known
is_chosen which (e ∷ es) t part known one all = by (is_at (tid_cmp t) e.0) refl known (λ k a. is_chosen which es t part k one a)
  where
    rest : (b : Bool) → Every (λ (u : Tid). u ≢ t) (if b then e.0 ∷ chosen which es else chosen which es) → Every (λ (u : Tid). u ≢ t) (chosen which es)
    rest true a = a.1
    rest false a = a

    first : (b : Bool) → b ≡ true → e.0 ≡ t → Every (λ (u : Tid). u ≢ t) (if b then e.0 ∷ chosen which es else chosen which es) → ⊥
    first true is same a = a.0 same
    first false is same a = cc is

    by : (b : Bool) → is_at (tid_cmp t) e.0 ≡ b → (if b then Some e.1 else lookup (is_at (tid_cmp t)) es) ≡ Some part → (lookup (is_at (tid_cmp t)) es ≡ Some part → Every (λ (u : Tid). u ≢ t) (chosen which es) → ⊥) → ⊥
    by true at k more = let same : t ≡ e.0 = at_exact t e.0 at in
        first (is_one which e.0 e.1) (ap (is_one which e.0) (of_some k) ∙ subst (λ (u : Tid). is_one which u part ≡ true) same one) (sym same) all
    by false at k more = more k (rest (is_one which e.0 e.1) all)

-- what it knew undecided as the tick came
record Began (m : Manager) (t : Tid) (b : ℕ) : Type 0 where
  pub part : Participant
  pub known : tm.part_of t m ≡ Some part
  pub home : part.engage.home ≡ true
  pub undecided : part.outcome ≡ None
  pub begun : part.begun_at ≡ b

pub weaker : (Y Z : Tid → ℕ → Type 0) (T : ℕ → Type 0) (log : List Tid) (work : Work) → ((t : Tid) (b : ℕ) → Y t b → Z t b) → Stays Y T log work → Stays Z T log work
weaker Y Z T log work gives s = record { rising = s.rising; began = λ t p known home undecided. gives t p.begun_at (s.began t p known home undecided); ticks = s.ticks; committed = s.committed }

module _ (T : ℕ → Type 0) (log : List Tid) (c : Stage) (stage : IsStage c) where
  k : Keeps c.past c.begun c.met c.setting.node c.setting.nodes (IsTidy c)
  k = tidy_keeps c stage

  -- what is aborted is undecided no more
  abort_one : (Y : Tid → ℕ → Type 0) (age : ℕ) (work : Work) (tid : Tid) → is_homed c.past c.setting.node tid ≡ true → Both Y T log c stage work → Both (λ t b. Y t b × (tid ≢ t)) T log c stage (abort_old age work tid)
  abort_one Y age work tid homed i = decided_walk c.past c.begun c.met c.setting.node c.setting.nodes (Both Z T log c stage) (both_reads Z T log c stage) (both_keeps Z T log c stage) tid outcomes.Abort (Some (causes.Old age)) work homed (
    k.decide tid outcomes.Abort (Some (causes.Old age)) work homed (λ never. absurd (cc never)) i.0,
    stays_still Z T log decided (keep_outcome tid outcomes.Abort (Some (causes.Old age)) decided) refl refl (record {
      rising = changed_rises tid (outcome_rules.decided outcomes.Abort) work.node.manager i.1.rising;
      began = each_changed tid (outcome_rules.decided outcomes.Abort) work.node.manager (λ t p. p.engage.home ≡ true → p.outcome ≡ None → Z t p.begun_at) (λ t p far known home undecided. (i.1.began t p known home undecided, far.differ)) (λ p known home undecided. absurd (cc undecided));
      ticks = i.1.ticks;
      committed = i.1.committed;
    }),
  )
    where
      Z : Tid → ℕ → Type 0
      Z t b = Y t b × (tid ≢ t)

      decided : Work
      decided = with_manager (tm.decide tid outcomes.Abort) work

  abort_all : (Y : Tid → ℕ → Type 0) (age : ℕ) (tids : List Tid) (work : Work) → list_all (is_homed c.past c.setting.node) tids ≡ true → Both Y T log c stage work → Both (λ t b. Y t b × Every (λ (u : Tid). u ≢ t) tids) T log c stage (fold (abort_old age) work tids)
  abort_all Y age [] work all i = (i.0, weaker Y (λ t b. Y t b × Every (λ (u : Tid). u ≢ t) []) T log work (λ t b y. (y, tt)) i.1)
  abort_all Y age (tid ∷ tids) work all i =
      let both : (is_homed c.past c.setting.node tid ≡ true) × (list_all (is_homed c.past c.setting.node) tids ≡ true) = and_both (is_homed c.past c.setting.node tid) _ all in
      let rest : Both (λ t b. (Y t b × (tid ≢ t)) × Every (λ (u : Tid). u ≢ t) tids) T log c stage (fold (abort_old age) (abort_old age work tid) tids) =
      abort_all (λ t b. Y t b × (tid ≢ t)) age tids (abort_old age work tid) both.1 (abort_one Y age work tid both.0 i) in
      (rest.0, weaker (λ t b. (Y t b × (tid ≢ t)) × Every (λ (u : Tid). u ≢ t) tids) (λ t b. Y t b × Every (λ (u : Tid). u ≢ t) (tid ∷ tids)) T log (fold (abort_old age) (abort_old age work tid) tids) (λ t b y. (y.0.0, (y.0.1, y.1))) rest.1)

module _ (log : List Tid) (c : Stage) (stage : IsStage c) (time : ℕ) (room : time < 2 ^ 62) where
  abbrev next : ℕ
  next = min (time + 1) (2 ^ 64 - 1)

  abbrev pub YoungBy : ℕ → Tid → ℕ → Type 0
  YoungBy at t b = IsYoungAt c.setting.age at b

  abbrev Says : ℕ → ℕ → Type 0
  Says at t = t ≡ at

  abbrev after : Work → Work
  after work = with_manager tm.tick (change_server timers_no (λ value. record value { timers = ticked value.timers }) (enter acts.Tick work))

  pub tick_young : (work : Work) → Both (YoungBy time) (Says time) log c stage work → Both (YoungBy (min (time + 1) (2 ^ 64 - 1))) (Says (min (time + 1) (2 ^ 64 - 1))) log c stage (tick work)
  tick_young work i = by work.node.setting.age (sym (ap (λ (s : Setting). s.age) i.0.node.setting))
    where
      k_tidy : Keeps c.past c.begun c.met c.setting.node c.setting.nodes (IsTidy c)
      k_tidy = tidy_keeps c stage

      tidy : IsTidy c (after work)
      tidy = tidy_ticks c _ (k_tidy.serve timers_no (λ value. record value { timers = ticked value.timers }) _ (λ value. refl) (k_tidy.enter acts.Tick work i.0))

      Y0 : Tid → ℕ → Type 0
      Y0 t b = IsYoungAt c.setting.age time b × Began work.node.manager t b

      ticking : Both Y0 (Says next) log c stage (after work)
      ticking = (
        tidy,
        record {
          rising = i.1.rising;
          began = λ t p known home undecided. (i.1.began t p known home undecided, record { part = p; known = known; home = home; undecided = undecided; begun = refl });
          ticks = ap (λ (t : ℕ). min (t + 1) (2 ^ 64 - 1)) i.1.ticks;
          committed = i.1.committed;
        },
      )

      none_is : (o : Option Outcome) → o ≡ None → is_none o ≡ true
      none_is o is = ap is_none is

      low : (b t : ℕ) → t < 2 ^ 62 → b ≤ t → b ≤ min (t + 1) (2 ^ 64 - 1)
      low b t small h = grind (arith, nat_tests, small, h)

      below : (a n b : ℕ) → nat_le a (n - b) ≡ false → n - b < a
      below a n b is = grind (arith, nat_tests, is)

      young : (age : ℕ) → c.setting.age ≡ Some age → (t : Tid) (b : ℕ) → Y0 t b × Every (λ (u : Tid). u ≢ t) (tm.aged age (after work).node.manager) → IsYoungAt c.setting.age next b
      young age limit t b y = record { begun = low b time room y.0.0.begun; age = λ other is. subst (λ (x : ℕ). next - b < x) (of_some (sym limit ∙ is)) (below age next b (off (nat_le age (next - b)) refl)) }
        where
          its : Began work.node.manager t b
          its = y.0.1

          which : Which
          which = whiches.Aged (after work).node.manager.ticks age

          apart : Every (λ (u : Tid). u ≢ t) (chosen which work.node.manager.known)
          apart = subst (Every (λ (u : Tid). u ≢ t)) (chosen_are which work.node.manager.known []) y.1

          ticks_are : (after work).node.manager.ticks ≡ next
          ticks_are = ap (λ (t : ℕ). min (t + 1) (2 ^ 64 - 1)) i.1.ticks

          off : (x : Bool) → nat_le age (next - b) ≡ x → nat_le age (next - b) ≡ false
          off false is = is
          off true is = absurd (is_chosen which work.node.manager.known t its.part its.known (and_three (is_none its.part.outcome) its.part.engage.home (nat_le age ((after work).node.manager.ticks - its.part.begun_at)) (none_is its.part.outcome its.undecided) its.home
              (ap (λ (n : ℕ). nat_le age (n - its.part.begun_at)) ticks_are ∙ (ap (λ (n : ℕ). nat_le age (next - n)) its.begun ∙ is))) apart)

      by : (o : Option ℕ) → c.setting.age ≡ o → Both (YoungBy next) (Says next) log c stage (age_rule o (after work))
      by None is = (ticking.0, weaker Y0 (YoungBy next) (Says next) log (after work) (λ t b y. record { begun = low b time room y.0.begun; age = λ age some. absurd (cc (sym is ∙ some)) }) ticking.1)
      by (Some age) is =
          let done : Both (λ t b. Y0 t b × Every (λ (u : Tid). u ≢ t) (tm.aged age (after work).node.manager)) (Says next) log c stage (fold (abort_old age) (after work) (tm.aged age (after work).node.manager)) =
          abort_all (Says next) log c stage Y0 age (tm.aged age (after work).node.manager) (after work) ((tidy_reads c stage).aged age (after work) tidy) ticking in
          (done.0, weaker (λ t b. Y0 t b × Every (λ (u : Tid). u ≢ t) (tm.aged age (after work).node.manager)) (YoungBy next) (Says next) log (fold (abort_old age) (after work) (tm.aged age (after work).node.manager)) (young age is) done.1)
