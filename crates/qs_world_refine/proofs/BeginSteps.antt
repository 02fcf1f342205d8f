-- A step of the home of a transaction whose number is still to be given: it begins the transaction, or gives no such number and appends no record of it.
use Rattle.qs_world_refine.proofs.Words.{◌≡◌, ◌≢◌, ◌⊎◌, inl, inr, ℕ, ◌+◌, ◌<◌, ◌==◌, ◌&&◌, Bool, true, false, [], Option, Some, None, refl, sym, ap, subst, ◌∙◌, arith, if◌then◌else◌, list_any, eqb-true, nat_tests, Tid, CrashCause, Command, step_work, effects_of, after_step, Work, Source, Commanded, Handed, Queues, Clock, Noticed, event_of, command_of, taken_by, step_with, cut_with, cut_log, stopped, stepped_host, Begins, begun_among, past_among, inc_in, count_in, may_be_known, IsUnbegun, ShowsAll}
use Rattle.qs_world_refine.proofs.Words.{AllGoes, node_no, WorldGoes, is_record_of, is_cut_with, scene_of, sight, begun, opening_seen, IsSteadyWorld, MachineGives, stage_of, IsSteady, IsTidy, is_tidy_record, ScriptLine, begins_one}
use Rattle.std.proofs.lemmas.Bool.{both_ways}
use Rattle.qs_book_journal.specs.declared.script_line.Command.TheVariants as commands
use Rattle.qs_node_step.specs.declared.event.Event.{Event}
use Rattle.qs_tm.specs.Manager as tm
use Rattle.qs_world.specs.World.{World}
use Rattle.qs_world_agree.specs.Origins.{Begun}
use Rattle.qs_world_agree.specs.World as machine
use Rattle.qs_world_refine.specs.Begun.{has_begun}
use Rattle.qs_world_refine.proofs.BegunStep.{begins_come}
use Rattle.qs_world_refine.proofs.EachEvent.{StepCame}
use Rattle.qs_world_refine.proofs.EachMay.{from_client, from_node, from_notice}
use Rattle.qs_world_refine.proofs.Moving.{inc_taken, up_taken}
use Rattle.qs_world_refine.proofs.Posted.{inc_all, up_all}
use Rattle.qs_world_refine.proofs.Starting as starting
use Rattle.qs_world_refine.proofs.SteadyBegins.{ComesFit, begun_tidy, comes_may, comes_new}
use Rattle.qs_world_refine.proofs.SteadyGives.{none_any}
use Rattle.qs_world_refine.proofs.SteadyGrows.{begun_past}
use Rattle.qs_world_refine.proofs.SteadyMays.{event_fits}
use Rattle.qs_world_refine.proofs.SteadySteps.{d, bump, step_tidy}
use Rattle.qs_world_refine.proofs.StepAll.{goes_all, kept_same, stays_stopped, node_stopped, step_goes_on, cut_goes_on}
use Rattle.qs_world_refine.proofs.StepMoves.{stops, cut}
use Rattle.qs_world_refine.proofs.StillSteps.{begins_in, step_still}
use Rattle.qs_world_refine.proofs.UnseenWorlds.{started, may_begin, start_shows_all, fit_apart}
use Rattle.qs_world_refine.proofs.ToCome.{IsToCome, tid_is, to_come, not_known, still, as_before, count_up, inc_up, which_inc, other_stops, later_stops}

abbrev begins_found : Option Event → Bool
begins_found o = elim o [ None ↦ false | Some event ↦ begins_in event ]

module _ (tid : Tid) (world : World) (steady : IsSteady world) (tidy : IsSteadyWorld world) (is : IsUnbegun tid world) where
  abbrev h : ℕ
  h = tid.home.0

  abbrev Done : World → Type 0
  Done new = Begins IsUnbegun ShowsAll tid new

  -- ---- where its home runs, in the incarnation that is to give the number

  module _ (up : world.channels.up h ≡ true) (now : tid.inc ≡ world.channels.inc h) where
    abbrev w0 : machine.World
    w0 = started tid world tidy is.numbered is.home_in is.unknown up now

    all : ShowsAll tid world w0
    all = start_shows_all tid world tidy is.numbered is.home_in is.unknown up now

    began : (new : World) → AllGoes tid new w0 → Done new
    began new goes = inr (Begun (opening_seen tid (sight tid (scene_of world))), starting.may_begin tid (sight tid (scene_of world)) (may_begin tid world tidy is.numbered is.home_in is.unknown up now), (goes.next, goes.leads, goes.shown))

    -- its node stops
    pub home_stops : (n stamp : ℕ) (cause : CrashCause) → n < world.size → world.channels.up n ≡ true → Done (stopped world n stamp cause (world.hosts n).log)
    home_stops n stamp cause n_in on = began (stopped world n stamp cause (world.hosts n).log)
        (goes_all tid world w0 is.home_in all (stopped world n stamp cause (world.hosts n).log) refl goes
        (kept_same tid world (stopped world n stamp cause (world.hosts n).log) w0 goes.next all goes.leads (node_stopped world n stamp cause (world.hosts n).log h)) (λ k k_in runs. inl (stays_stopped world n stamp cause (world.hosts n).log k runs)))
      where
        goes : WorldGoes tid (stopped world n stamp cause (world.hosts n).log) w0
        goes = stops tid world w0 tidy.seated is.home_in all.seen n stamp cause (world.hosts n).log [] n_in on refl tt

  -- ---- a step

  module _ (n stamp free : ℕ) (source : Source) (event : Event) (n_in : n < world.size) (on : world.channels.up n ≡ true) (comes : event_of world n stamp source ≡ Some event) (gives : MachineGives event (begun (world.hosts n).node free)) where
    abbrev work : Work
    work = step_work (world.hosts n).node event free

    abbrev after : World
    after = step_with world n stamp free source (Some event)

    up_is : after.channels.up ≡ world.channels.up
    up_is = up_all n stamp (effects_of (world.hosts n).node event free).messages (taken_by world n source) ∙ up_taken world n source

    inc_is : after.channels.inc ≡ world.channels.inc
    inc_is = inc_all n stamp (effects_of (world.hosts n).node event free).messages (taken_by world n source) ∙ inc_taken world n source

    inc_same : inc_in after h ≡ inc_in world h
    inc_same = rw (up_is, inc_is) refl

    other_steps : (h == n) ≡ false → IsUnbegun tid after
    other_steps apart = as_before tid world is after refl inc_same (rw (up_is, apart) refl)

    fit : ComesFit world tidy n free n_in on event
    fit = event_fits world tidy n free n_in on stamp source event comes

    -- ---- of the home

    module _ (at : h ≡ n) (now : tid.inc ≡ world.channels.inc h) where
      up : world.channels.up h ≡ true
      up = ap world.channels.up at ∙ on

      more : (world.hosts n).node.manager.begun < tid.seq
      more = subst (λ (k : ℕ). (world.hosts k).node.manager.begun < tid.seq) at (subst (λ (c : ℕ). c < tid.seq) (count_up tid world is up) (by (to_come tid world is)))
        where
          by : IsToCome tid (inc_in world) (count_in world) → count_in world h < tid.seq
          by (inl less) = absurd (let later : world.channels.inc h < tid.inc = subst (λ (k : ℕ). k < tid.inc) (inc_up tid world is up) less in grind (arith, later, now))
          by (inr same) = same.1

      its : IsTidy (stage_of world n) (begun (world.hosts n).node free)
      its = begun_tidy world tidy n free n_in on

      -- it is the next number
      next_is : tid.seq ≡ (world.hosts n).node.manager.begun + 1 → tid ≡ tm.next_tid (begun (world.hosts n).node free).node.manager
      next_is number = tid_is tid (tm.next_tid (begun (world.hosts n).node free).node.manager) (ap node_no at ∙ (sym (tidy.seated.node n n_in) ∙ sym its.node.own))
          (now ∙ (ap world.channels.inc at ∙ (sym (tidy.seated.inc n n_in) ∙ sym its.node.inc))) (number ∙ ap (λ (k : ℕ). k + 1) (sym its.node.count))

      -- it was not given, and the step appended no record of it
      record Apart : Type 0 where
        count : work.node.manager.begun < tid.seq
        records : list_any (is_record_of tid) (effects_of (world.hosts n).node event free).records ≡ false

      none_given : IsTidy (stage_of world n) work → Apart
      none_given t = record {
        count = subst (λ (k : ℕ). k < tid.seq) (sym t.node.count) more;
        records = none_any (is_record_of tid) (is_tidy_record (stage_of world n)) (fit_apart tid (may_be_known world) (has_begun world) is.unknown (λ u began. (begun_past world.size (inc_in world) (count_in world) u began).0) (world.hosts n).node.setting.node)
            (effects_of (world.hosts n).node event free).records t.out.records;
      }

      one_given : tid.seq ≢ (world.hosts n).node.manager.begun + 1 → IsTidy (d world tidy n free n_in on) work → Apart
      one_given other t = record {
        count = subst (λ (k : ℕ). k < tid.seq) (sym t.node.count) beyond;
        records = none_any (is_record_of tid) (is_tidy_record (d world tidy n free n_in on))
            (fit_apart tid (past_among world.size (inc_in world) (bump n (count_in world))) (begun_among world.size (inc_in world) (bump n (count_in world))) (not_known tid world is (inc_in world) (bump n (count_in world)) (inr (now ∙ sym (inc_up tid world is up), subst (λ (k : ℕ). k < tid.seq) (sym bumped) beyond)))
            (λ u began. (begun_past world.size (inc_in world) (bump n (count_in world)) u began).0) (world.hosts n).node.setting.node)
            (effects_of (world.hosts n).node event free).records t.out.records;
      }
        where
          beyond : (world.hosts n).node.manager.begun + 1 < tid.seq
          beyond = past_it (world.hosts n).node.manager.begun tid.seq more other
            where
              past_it : (a b : ℕ) → a < b → b ≢ a + 1 → a + 1 < b
              past_it a b p q = omega (arith, p, q)

          bumped : bump n (count_in world) h ≡ (world.hosts n).node.manager.begun + 1
          bumped = picked (h == n) (grind (arith, nat_tests, at)) ∙ ap (λ (k : ℕ). k + 1) (count_up tid world is up ∙ ap (λ (k : ℕ). (world.hosts k).node.manager.begun) at)
            where
              picked : (b : Bool) → b ≡ true → (if b then count_in world h + 1 else count_in world h) ≡ count_in world h + 1
              picked b so = rw so refl

      is_begun : (k : ℕ) (line : ScriptLine) → event ≡ command_of line → (c : Command) → line.command ≡ c → StepCame tid world n free (Commanded k) event (w0 up now) ⊎ Apart
      is_begun k line same commands.Begin begins = by (tid.seq == (world.hosts n).node.manager.begun + 1) refl
        where
          apart : IsTidy (stage_of world n) work ⊎ IsTidy (d world tidy n free n_in on) work → tid.seq ≢ (world.hosts n).node.manager.begun + 1 → Apart
          apart (inl t) other = none_given t
          apart (inr t) other = one_given other t

          by : (b : Bool) → (tid.seq == (world.hosts n).node.manager.begun + 1) ≡ b → StepCame tid world n free (Commanded k) event (w0 up now) ⊎ Apart
          by true number = inl (subst (λ (e : Event). StepCame tid world n free (Commanded k) e (w0 up now)) (sym same)
              (begins_come tid world (w0 up now) steady tidy is.numbered is.home_in is.unknown (all up now) n free n_in on (next_is (eqb-true tid.seq ((world.hosts n).node.manager.begun + 1) number)) k line begins))
          by false off = inr (apart (step_tidy world tidy n free n_in on event fit gives) (λ number. both_ways (tid.seq == (world.hosts n).node.manager.begun + 1) off (grind (arith, nat_tests, number))))
      is_begun k line same commands.Commit command = inr (none_given (step_still world tidy n free n_in on event (rw same (ap begins_one command)) fit gives))
      is_begun k line same commands.Abort command = inr (none_given (step_still world tidy n free n_in on event (rw same (ap begins_one command)) fit gives))
      is_begun k line same commands.Take command = inr (none_given (step_still world tidy n free n_in on event (rw same (ap begins_one command)) fit gives))
      is_begun k line same commands.Yield command = inr (none_given (step_still world tidy n free n_in on event (rw same (ap begins_one command)) fit gives))
      is_begun k line same (commands.Request member op) command = inr (none_given (step_still world tidy n free n_in on event (rw same (ap begins_one command)) fit gives))

      begins_no : begins_in event ≡ false → Apart
      begins_no none = none_given (step_still world tidy n free n_in on event none fit gives)

      which : (source : Source) → event_of world n stamp source ≡ Some event → StepCame tid world n free source event (w0 up now) ⊎ Apart
      which (Commanded k) comes = let from = from_client world n k event steady comes in is_begun k from.line from.is from.line.command refl
      which (Handed m) comes = let from = from_node world n stamp m event comes in inr (begins_no (rw from.is refl))
      which Queues comes = inr (begins_no (sym (ap begins_found comes)))
      which Clock comes = inr (begins_no (sym (ap begins_found comes)))
      which (Noticed m new) comes = let from = from_notice world n stamp m new event comes in inr (begins_no (rw from.is refl))

      home_steps : Done after
      home_steps = by (which source comes)
        where
          count_is : count_in after h ≡ work.node.manager.begun
          count_is = picked (after.channels.up h) (h == n) (ap (λ (f : ℕ → Bool). f h) up_is ∙ up) (grind (arith, nat_tests, at))
            where
              picked : (b c : Bool) → b ≡ true → c ≡ true → (if b then (if c then stepped_host stamp (after_step (world.hosts n).node event free) (effects_of (world.hosts n).node event free) (world.hosts n) else world.hosts h).node.manager.begun else 0) ≡ work.node.manager.begun
              picked b c x y = rw (x, y) refl

          by : StepCame tid world n free source event (w0 up now) ⊎ Apart → Done after
          by (inl came) = began up now after (step_goes_on tid world (w0 up now) steady is.home_in (all up now) n stamp free n_in on source event comes came (comes_may world tidy n free n_in on event fit gives, comes_new world tidy n free n_in on event))
          by (inr apart) = inl (still tid world is after refl (inr (now ∙ (sym (inc_up tid world is up) ∙ sym inc_same), subst (λ (k : ℕ). k < tid.seq) (sym count_is) apart.count)))

      module _ (is_kept : Bool) (cause : CrashCause) where
        abbrev cut_off : World
        cut_off = cut_with world n stamp free is_kept cause (Some event)

        not_cut : Apart → is_cut_with tid is_kept world n free event ≡ true → ⊥
        not_cut apart has = last is_kept (effects_of (world.hosts n).node event free).force (list_any (is_record_of tid) (effects_of (world.hosts n).node event free).records) apart.records has
          where
            last : (a b c : Bool) → c ≡ false → (a && (b && c)) ≡ true → ⊥
            last true true c off so = cc (off, so)
            last true false c off so = cc (so)
            last false b c off so = cc (so)

        apart_cut : Apart → AllGoes tid cut_off (w0 up now)
        apart_cut apart = goes_all tid world (w0 up now) is.home_in (all up now) cut_off refl goes (kept_same tid world cut_off (w0 up now) goes.next (all up now) goes.leads (node_stopped world n stamp cause _ h)) (λ k k_in runs. inl (stays_stopped world n stamp cause _ k runs))
          where
            goes : WorldGoes tid cut_off (w0 up now)
            goes = cut tid world (w0 up now) tidy.seated is.home_in (all up now).seen n stamp free source event n_in on comes is_kept cause (λ has. absurd (not_cut apart has))

        home_cuts : Done cut_off
        home_cuts = by (which source comes)
          where
            by : StepCame tid world n free source event (w0 up now) ⊎ Apart → Done cut_off
            by (inl came) = began up now cut_off (cut_goes_on tid world (w0 up now) steady is.home_in (all up now) n stamp free n_in on source event comes came (comes_may world tidy n free n_in on event fit gives, comes_new world tidy n free n_in on event) is_kept cause)
            by (inr apart) = began up now cut_off (apart_cut apart)

    later_steps : (h == n) ≡ true → world.channels.inc h < tid.inc → IsUnbegun tid after
    later_steps same less = still tid world is after refl (inl (subst (λ (k : ℕ). k < tid.inc) (sym (inc_same ∙ inc_up tid world is (ap world.channels.up (eqb-true h n same) ∙ on))) less))

    pub steps : Done after
    steps = by (h == n) refl
      where
        by : (b : Bool) → (h == n) ≡ b → Done after
        by false apart = inl (other_steps apart)
        by true same = at (which_inc tid world is (ap world.channels.up (eqb-true h n same) ∙ on))
          where
            at : (world.channels.inc h < tid.inc) ⊎ (tid.inc ≡ world.channels.inc h) → Done after
            at (inl less) = inl (later_steps same less)
            at (inr now) = home_steps (eqb-true h n same) now

    pub cuts : (is_kept : Bool) (cause : CrashCause) → Done (cut_with world n stamp free is_kept cause (Some event))
    cuts is_kept cause = by (h == n) refl
      where
        by : (b : Bool) → (h == n) ≡ b → Done (stopped world n stamp cause (cut_log (world.hosts n) is_kept (effects_of (world.hosts n).node event free)))
        by false apart = inl (other_stops tid world is n stamp cause (cut_log (world.hosts n) is_kept (effects_of (world.hosts n).node event free)) apart)
        by true same = at (which_inc tid world is (ap world.channels.up (eqb-true h n same) ∙ on))
          where
            at : (world.channels.inc h < tid.inc) ⊎ (tid.inc ≡ world.channels.inc h) → Done (stopped world n stamp cause (cut_log (world.hosts n) is_kept (effects_of (world.hosts n).node event free)))
            at (inl less) = inl (later_stops tid world is n stamp cause (cut_log (world.hosts n) is_kept (effects_of (world.hosts n).node event free)) same less)
            at (inr now) = home_cuts (eqb-true h n same) now is_kept cause
