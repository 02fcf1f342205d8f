-- At each stage of a step, each transaction that has begun then is followed by a machine that shows it, which was there before the step.
use Rattle.qs_world_runs.proofs.Words.{◌≡◌, ◌⊎◌, inl, inr, ℕ, ◌+◌, ◌<◌, ◌==◌, ◌&&◌, ◌||◌, not, Bool, true, false, Option, Some, None, refl, sym, ap, subst, ◌∙◌, arith, nat_lt, nat_le, if◌then◌else◌, eqb-true, nat_tests, Tid, Command, names_transaction, Work, work_on, happen, Event, Source, Commanded, Handed, Queues, Clock, Noticed, Step, command_of, event_of, next_parcel, Parcel, World, count_in, inc_in, may_be_known, ShowsAll, IsShownWorld, BeginsNew, MachineGives, stage_of, IsSteady}
use Rattle.qs_world_runs.proofs.Words.{is_sound, IsStage, IsTidy, Stage, StepCame, step_came, from_client, StepMay, step_may, shown_fit, begin_incarnation_sound, ComesFit, begun_tidy, begun_low, steady_gives, begins_in, MakesStep}
use Rattle.qs_book_journal.specs.declared.script_line.Command.TheVariants as commands
use Rattle.qs_node_step.specs.declared.event.Event.TheVariants as events
use Rattle.qs_tm.specs.Manager as tm
use Rattle.qs_world.specs.Moves as moves
use Rattle.qs_world_agree.specs.World as machine
use Rattle.qs_world_refine.specs.Begun.{has_begun}
use Rattle.qs_world_refine.specs.SoundSteps.{MayHappen, begun}
use Rattle.qs_world_refine.specs.Steadies.{GivesAt}
use Rattle.qs_world_refine.specs.Walks.{begins_one}
use Rattle.qs_world_refine.proofs.BegunStep.{begins_come}
use Rattle.qs_world_refine.proofs.EachMay.{FromClient}
use Rattle.qs_world_refine.proofs.ShownMoves.{shown_gives}
use Rattle.qs_world_refine.proofs.SoundParts.{and_both}
use Rattle.qs_world_refine.proofs.SoundHappen.{happen_sound}
use Rattle.qs_world_refine.proofs.SteadyBegins.{comes_may, comes_new}
use Rattle.qs_world_refine.proofs.SteadyMays.{event_fits}
use Rattle.qs_world_refine.proofs.SteadySteps.{bump}
use Rattle.qs_world_refine.proofs.ToCome.{tid_is}
use Rattle.qs_world_refine.proofs.UnseenWorlds.{start_shows_all, started}
use Rattle.qs_world_runs.proofs.AgreesTidy.{behind, before, done_tidy, stage_before, stage_behind}
use Rattle.qs_world_runs.proofs.AgreesFirst.{Follows, follows_done, follows_first}

-- ---- in a world in which all that began is shown

module _ (world : World) (is : IsShownWorld world) (n stamp free : ℕ) (source : Source) (event : Event) (makes : MakesStep world n stamp source event) where
  its : StepMay world n source
  its = step_may world n stamp source makes.may

  pub low : n < world.size
  low = its.low

  pub up : world.channels.up n ≡ true
  up = its.runs

  pub steady : IsSteady world
  steady = steady_gives world is.steady is.listed

  abbrev pub came_to : Work
  came_to = begun (world.hosts n).node free

  pub gives : MachineGives event came_to
  gives = subst (λ (o : Option Event). GivesAt world n free o) makes.comes (shown_gives world (Step n stamp free source) makes.may is)

  pub fit : ComesFit world is.steady n free low up event
  fit = event_fits world is.steady n free low up stamp source event makes.comes

  pub may : MayHappen event came_to
  may = comes_may world is.steady n free low up event fit gives

  pub begins_new : BeginsNew event came_to
  begins_new = comes_new world is.steady n free low up event

  home_low : (t : Tid) → has_begun world t ≡ true → t.home.0 < world.size
  home_low t began = let there : nat_lt t.home.0 world.size ≡ true = (and_both (nat_lt t.home.0 world.size) _ (and_both (names_transaction t) _ began).1).0 in grind (arith, nat_tests, there)

  pub begun_first : (t : Tid) → has_begun world t ≡ true → Follows world n came_to t
  begun_first t began = follows_first t world (is.shown t began).machine steady (home_low t began) (is.shown t began).shows n free low up

  begun_done : (t : Tid) → has_begun world t ≡ true → Follows world n (happen event came_to) t
  begun_done t began = follows_done t world (is.shown t began).machine steady (home_low t began) (is.shown t began).shows n free low up source event
      (step_came t world (is.shown t began).machine steady (home_low t began) (begun_low world t began) (is.shown t began).shows (shown_fit world is) n free low up stamp source event its.serves makes.comes)

  -- ---- one that begins in the step is of this node, and has the next number

  record IsNext (t : Tid) : Type 0 where
    numbered : names_transaction t ≡ true
    at : t.home.0 ≡ n
    now : t.inc ≡ world.channels.inc n
    number : t.seq ≡ (world.hosts n).node.manager.begun + 1

  next_of : (t : Tid) → has_begun world t ≡ false → (behind world is.steady n free low up).begun t ≡ true → IsNext t
  next_of t off on = by (t.home.0 == n) refl
    where
      named : names_transaction t ≡ true
      named = (and_both (names_transaction t) _ on).0

      rest : (nat_lt t.home.0 world.size ≡ true) × ((nat_lt t.inc (inc_in world t.home.0) || ((t.inc == inc_in world t.home.0) && nat_le t.seq (bump n (count_in world) t.home.0))) ≡ true)
      rest = and_both (nat_lt t.home.0 world.size) _ (and_both (names_transaction t) _ on).1

      without : (a b c : Bool) → a ≡ true → b ≡ true → (a && (b && c)) ≡ false → c ≡ false
      without true true c x y so = so
      without false b c x y so = absurd (cc (x))
      without true false c x y so = absurd (cc (y))

      none : (nat_lt t.inc (inc_in world t.home.0) || ((t.inc == inc_in world t.home.0) && nat_le t.seq (count_in world t.home.0))) ≡ false
      none = without (names_transaction t) (nat_lt t.home.0 world.size) _ named rest.0 off

      by : (b : Bool) → (t.home.0 == n) ≡ b → IsNext t
      by false apart = absurd (let same : bump n (count_in world) t.home.0 ≡ count_in world t.home.0 = rw apart refl in let both : true ≡ false = sym (subst (λ (k : ℕ). (nat_lt t.inc (inc_in world t.home.0) || ((t.inc == inc_in world t.home.0) && nat_le t.seq k)) ≡ true) same rest.1) ∙ none in cc (both))
      by true same = record { numbered = named; at = at_n; now = same_inc; number = one_more }
        where
          at_n : t.home.0 ≡ n
          at_n = eqb-true t.home.0 n same

          inc_is : inc_in world t.home.0 ≡ world.channels.inc n
          inc_is = ap (inc_in world) at_n ∙ rw up refl

          count_is : count_in world t.home.0 ≡ (world.hosts n).node.manager.begun
          count_is = ap (count_in world) at_n ∙ rw up refl

          bumped_is : bump n (count_in world) t.home.0 ≡ (world.hosts n).node.manager.begun + 1
          bumped_is = picked (t.home.0 == n) same ∙ ap (λ (k : ℕ). k + 1) count_is
            where
              picked : (b : Bool) → b ≡ true → (if b then count_in world t.home.0 + 1 else count_in world t.home.0) ≡ count_in world t.home.0 + 1
              picked b so = rw so refl

          same_inc : t.inc ≡ world.channels.inc n
          same_inc = let a = rest.1 in let b = none in one t.inc (inc_in world t.home.0) (world.channels.inc n) _ _ a b inc_is
            where
              one : (i k l : ℕ) (x y : Bool) → (nat_lt i k || ((i == k) && x)) ≡ true → (nat_lt i k || ((i == k) && y)) ≡ false → k ≡ l → i ≡ l
              one i k l x y p q r = eqb-true i l (subst (λ (z : ℕ). (i == z) ≡ true) r (pick (nat_lt i k) (i == k) x y p q))
                where
                  pick : (a b x y : Bool) → (a || (b && x)) ≡ true → (a || (b && y)) ≡ false → b ≡ true
                  pick true b x y p q = absurd (cc (q))
                  pick false true x y p q = refl
                  pick false false x y p q = absurd (cc (p))

          one_more : t.seq ≡ (world.hosts n).node.manager.begun + 1
          one_more = past t.seq (world.hosts n).node.manager.begun
              (subst (λ (k : ℕ). nat_le t.seq k ≡ true) bumped_is (pick (nat_lt t.inc (inc_in world t.home.0)) (t.inc == inc_in world t.home.0) (nat_le t.seq (bump n (count_in world) t.home.0)) (nat_le t.seq (count_in world t.home.0)) rest.1 none).0)
              (subst (λ (k : ℕ). nat_le t.seq k ≡ false) count_is (pick (nat_lt t.inc (inc_in world t.home.0)) (t.inc == inc_in world t.home.0) (nat_le t.seq (bump n (count_in world) t.home.0)) (nat_le t.seq (count_in world t.home.0)) rest.1 none).1)
            where
              pick : (a b x y : Bool) → (a || (b && x)) ≡ true → (a || (b && y)) ≡ false → (x ≡ true) × (y ≡ false)
              pick true b x y p q = absurd (cc (q))
              pick false true x y p q = (p, q)
              pick false false x y p q = absurd (cc (p))

              past : (a b : ℕ) → nat_le a (b + 1) ≡ true → nat_le a b ≡ false → a ≡ b + 1
              past a b p q = grind (arith, nat_tests, p, q)

  -- the machine at its start shows it before the step
  new_done : (t : Tid) → has_begun world t ≡ false → begins_in event ≡ true → (behind world is.steady n free low up).begun t ≡ true → Follows world n (happen event came_to) t
  new_done t off one on = by source makes.comes
    where
      next : IsNext t
      next = next_of t off on

      home_in : t.home.0 < world.size
      home_in = subst (λ (k : ℕ). k < world.size) (sym next.at) low

      unknown : may_be_known world t ≡ false
      unknown = none (names_transaction t) (nat_lt t.home.0 world.size) (has_begun world t) (grind (arith, nat_tests, home_in)) off
        where
          none : (a b c : Bool) → b ≡ true → c ≡ false → (a && (not b || c)) ≡ false
          none true b c x y = rw (x, y) refl
          none false b c x y = refl

      home_up : world.channels.up t.home.0 ≡ true
      home_up = ap world.channels.up next.at ∙ up

      now : t.inc ≡ world.channels.inc t.home.0
      now = next.now ∙ ap world.channels.inc (sym next.at)

      w0 : machine.World
      w0 = started t world is.steady next.numbered home_in unknown home_up now

      all : ShowsAll t world w0
      all = start_shows_all t world is.steady next.numbered home_in unknown home_up now

      first_tidy : IsTidy (stage_of world n) came_to
      first_tidy = begun_tidy world is.steady n free low up

      next_is : t ≡ tm.next_tid came_to.node.manager
      next_is = tid_is t (tm.next_tid came_to.node.manager) (ap (λ (k : ℕ). record { 0 = k }) next.at ∙ (sym (is.steady.seated.node n low) ∙ sym first_tidy.node.own))
          (next.now ∙ (sym (is.steady.seated.inc n low) ∙ sym first_tidy.node.inc)) (next.number ∙ ap (λ (k : ℕ). k + 1) (sym first_tidy.node.count))

      at : (k : ℕ) → event_of world n stamp (Commanded k) ≡ Some event → StepCame t world n free (Commanded k) event w0
      at k comes = with_line (from_client world n k event steady comes)
        where
          begin_is : (c : Command) → begins_one c ≡ true → c ≡ commands.Begin
          begin_is commands.Begin so = refl
          begin_is commands.Commit so = absurd (cc (so))
          begin_is commands.Abort so = absurd (cc (so))
          begin_is commands.Take so = absurd (cc (so))
          begin_is commands.Yield so = absurd (cc (so))
          begin_is (commands.Request member op) so = absurd (cc (so))

          with_line : (from : FromClient world n k event) → StepCame t world n free (Commanded k) event w0
          with_line from = subst (λ (e : Event). StepCame t world n free (Commanded k) e w0) (sym from.is)
              (begins_come t world w0 steady is.steady next.numbered home_in unknown all n free low up next_is k from.line (begin_is from.line.command (subst (λ (e : Event). begins_in e ≡ true) from.is one)))

      begins_found : Option Event → Bool
      begins_found o = elim o [ None ↦ false | Some e ↦ begins_in e ]

      other : (o : Option Event) → begins_found o ≡ false → o ≡ Some event → ⊥
      other o quiet comes = let both : true ≡ false = sym one ∙ (sym (ap begins_found comes) ∙ quiet) in absurd (cc (both))

      by : (source : Source) → event_of world n stamp source ≡ Some event → Follows world n (happen event came_to) t
      by (Commanded k) comes = follows_done t world w0 steady home_in all n free low up (Commanded k) event (at k comes)
      by (Handed m) comes = absurd (other (event_of world n stamp (Handed m)) (quiet m) comes)
        where
          quiet : (m : ℕ) → begins_found (event_of world n stamp (Handed m)) ≡ false
          quiet m = picked (next_parcel world n m)
            where
              picked : (o : Option Parcel) → begins_found (elim o [ None ↦ None | Some parcel ↦ if nat_lt parcel.stamp stamp then Some (events.Received (record { 0 = m }) parcel.message) else None ]) ≡ false
              picked None = refl
              picked (Some parcel) = late (nat_lt parcel.stamp stamp)
                where
                  late : (b : Bool) → begins_found (if b then Some (events.Received (record { 0 = m }) parcel.message) else None) ≡ false
                  late true = refl
                  late false = refl
      by Queues comes = absurd (other (event_of world n stamp Queues) refl comes)
      by Clock comes = absurd (other (event_of world n stamp Clock) refl comes)
      by (Noticed m new) comes = absurd (other (event_of world n stamp (Noticed m new)) (quiet (nat_lt 0 (world.channels.peer n m) && (nat_lt (world.channels.peer n m) new && moves.has_begun world stamp m new))) comes)
        where
          quiet : (b : Bool) → begins_found (if b then Some (events.PeerRestarted (record { 0 = m }) (world.channels.peer n m) new) else None) ≡ false
          quiet true = refl
          quiet false = refl

  -- ---- all that has begun, as the step begins and once what comes is done

  pub record AllFollow (work : Work) : Type 0 where
    pub stage : Stage
    pub is_stage : IsStage stage
    pub size : stage.setting.nodes ≡ world.size
    pub tidy : IsTidy stage work
    pub sound : is_sound work.node ≡ true
    pub each : (t : Tid) → stage.begun t ≡ true → Follows world n work t

  first_sound : is_sound came_to.node ≡ true
  first_sound = begin_incarnation_sound (work_on (world.hosts n).node free) (is.steady.sound n low).node

  pub all_first : AllFollow came_to
  all_first = record {
    stage = before world is.steady n free low up;
    is_stage = stage_before world is.steady n free low up;
    size = is.steady.seated.nodes n low;
    tidy = begun_tidy world is.steady n free low up;
    sound = first_sound;
    each = begun_first;
  }

  pub all_done : AllFollow (happen event came_to)
  all_done = by (done_tidy world is.steady n free low up event fit)
    where
      sound_then : is_sound (happen event came_to).node ≡ true
      sound_then = happen_sound event came_to may first_sound

      by : IsTidy (before world is.steady n free low up) (happen event came_to) ⊎ ((begins_in event ≡ true) × IsTidy (behind world is.steady n free low up) (happen event came_to)) → AllFollow (happen event came_to)
      by (inl tidy) = record {
        stage = before world is.steady n free low up;
        is_stage = stage_before world is.steady n free low up;
        size = is.steady.seated.nodes n low;
        tidy = tidy;
        sound = sound_then;
        each = begun_done;
      }
      by (inr began) = record {
        stage = behind world is.steady n free low up;
        is_stage = stage_behind world is.steady n free low up;
        size = is.steady.seated.nodes n low;
        tidy = began.1;
        sound = sound_then;
        each = λ t on. either t on (has_begun world t) refl;
      }
        where
          either : (t : Tid) → (behind world is.steady n free low up).begun t ≡ true → (b : Bool) → has_begun world t ≡ b → Follows world n (happen event came_to) t
          either t on true old = begun_done t old
          either t on false off = new_done t off began.0 on
