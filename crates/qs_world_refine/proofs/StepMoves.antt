-- What shows the world before a step, a step that is cut off, or a stop shows it after.
use Rattle.qs_world_refine.proofs.Words.{◌≡◌, ◌≢◌, ◌⊎◌, inl, inr, ℕ, ◌+◌, ◌*◌, ◌<◌, ◌≤◌, ◌==◌, ◌&&◌, not, nat_lt, nat_le, Bool, true, false, List, [], ◌∷◌, ◌++◌, fold, Option, Some, None, refl, sym, ap, subst, ◌∙◌, arith, if◌then◌else◌, list_any, eqb-true, fold-append, Tid, CrashCause, Record, recovery, found_record, nothing_said, effects_of, step_work, Effects, Source, Move, Cut, Stop, Rise, event_of, taken_by, log_after, step_with, cut_with, cut_log, stopped, stopped_host, risen, reopened}
use Rattle.qs_world_refine.proofs.Words.{may_move, moved, is_later, is_in_order, Leads, leads_on, IsSeated, MayClose, AllClose, sight_logged, ShowsWorld, WorldGoes, taken_scene, StepShown, is_record_of, is_cut_with, place, SightGoes, scene_of, sight, Shows, Sight}
use Rattle.qs_session_channels.specs.Network.{with_at}
use Rattle.qs_record.specs.declared.record.Record.TheVariants as records
use Rattle.qs_node_step.specs.declared.event.Event.{Event}
use Rattle.qs_world.specs.Moves.{Step, Meet, waiting_after, met, has_begun}
use Rattle.qs_world.specs.World.{World}
use Rattle.qs_world_agree.specs.World as machine
use Rattle.qs_world_refine.specs.StepLaws.{stepped}
use Rattle.qs_world_refine.proofs.Alike.{sight_alike}
use Rattle.qs_world_refine.proofs.ClosingAll.{stays_closed, closed_goes}
use Rattle.qs_world_refine.proofs.EventGoes.{crash}
use Rattle.qs_world_refine.proofs.Facts.{lawful_on}
use Rattle.qs_world_refine.proofs.Moving.{step_sight, whole_cut, stop_cut, up_taken, inc_taken}
use Rattle.qs_world_refine.proofs.Placing.{placed_stay}
use Rattle.qs_world_refine.proofs.Seating.{well_seated, well_taken}

-- ---- records that may close

pub all_append : (tid : Tid) (n q : ℕ) (w : machine.World) (xs ys : List Record) → AllClose tid n q w xs → AllClose tid n q w ys → AllClose tid n q w (xs ++ ys)
all_append tid n q w [] ys first second = second
all_append tid n q w (x ∷ xs) ys first second = (first.0, all_append tid n q w xs ys first.1 second)

-- those of other transactions
pub all_other : (tid : Tid) (n q : ℕ) (w : machine.World) (recs : List Record) → list_any (is_record_of tid) recs ≡ false → AllClose tid n q w recs
all_other tid n q w [] none = tt
all_other tid n q w (rec ∷ recs) none = (one rec (off (is_record_of tid rec) (list_any (is_record_of tid) recs) none).0, all_other tid n q w recs (off (is_record_of tid rec) (list_any (is_record_of tid) recs) none).1)
  where
    off : (a b : Bool) → Rattle.std.proofs.Common.◌||◌ a b ≡ false → (a ≡ false) × (b ≡ false)
    off true b is = absurd (cc (is))
    off false b is = (refl, is)

    one : (rec : Record) → is_record_of tid rec ≡ false → MayClose tid n q w rec
    one (records.Prepare u server covers changes) apart = apart
    one (records.Commit u told) apart = apart
    one (records.Aborted u) apart = λ same. absurd (cc (apart, same))
    one (records.End u) apart = λ same. absurd (cc (apart, same))

module _ (tid : Tid) (world : World) (w : machine.World) (seated : IsSeated world) (home_in : tid.home.0 < world.size) (sw : ShowsWorld tid world w) where
  abbrev pub x : Sight
  x = sight tid (scene_of world)

  pub at_home : (m i : ℕ) → m < world.size → m ≡ tid.home.0 → w.node (place m i) ≡ w.node w.home
  at_home m i m_in is = sw.shown.stage.nodes m i m_in ∙ (is ∙ sym (ap w.node sw.shown.stage.home ∙ sw.shown.stage.nodes tid.home.0 tid.inc home_in))

  -- what waited may close the transaction still
  pub closes_on : (v : machine.World) → Leads w v → (m : ℕ) → m < world.size → world.channels.up m ≡ true → v.up (place m (world.channels.inc m)) ≡ true → AllClose tid m (place m (world.channels.inc m)) v (world.hosts m).waiting
  closes_on v leads m m_in on runs = stays_closed tid m (place m (world.channels.inc m)) w v (world.hosts m).waiting sw.lawful leads runs (at_home m (world.channels.inc m) m_in) (sw.closes m m_in on)

  -- ---- a node stops

  -- once what is on its disk counts
  pub crashes : (n stamp : ℕ) (cause : CrashCause) (log : List Record) (between : machine.World) (first : Leads w between) (last : SightGoes tid (sight tid (scene_of (stopped world n stamp cause log))) between) → WorldGoes tid (stopped world n stamp cause log) w
  crashes n stamp cause log between first last = record {
    next = last.next;
    leads = all;
    shown = record {
      lawful = lawful_on w last.next sw.lawful all;
      placed = placed_stay w last.next sw.lawful sw.placed all;
      shown = last.shown;
      closes = λ m m_in on. closes m m_in on (m == n) refl;
    };
  }
    where
      all : Leads w last.next
      all = leads_on w between last.next first last.leads

      closes : (m : ℕ) → m < world.size → with_at world.channels.up n false m ≡ true → (b : Bool) → (m == n) ≡ b → AllClose tid m (place m (world.channels.inc m)) last.next (if b then stopped_host stamp log (world.hosts n) else world.hosts m).waiting
      closes m m_in on true is = tt
      closes m m_in on false is = closes_on last.next all m m_in (ran (m == n) is on) (last.shown.faces m m_in on).up
        where
          ran : (b : Bool) → b ≡ false → (if b then false else world.channels.up m) ≡ true → world.channels.up m ≡ true
          ran b off so = rw off at so

  -- with what waited on its disk, or nothing
  pub stops : (n stamp : ℕ) (cause : CrashCause) (log more : List Record) → n < world.size → world.channels.up n ≡ true → recovery log ≡ fold found_record (recovery (world.hosts n).log) more → AllClose tid n (place n (world.channels.inc n)) w more → WorldGoes tid (stopped world n stamp cause log) w
  stops n stamp cause log more n_in on says may =
      let first : SightGoes tid (sight_logged x n more) w = closed_goes tid more x w n sw.lawful sw.shown (record { in_run = n_in; up = on }) home_in may in
      crashes n stamp cause log first.next first.leads
      (crash tid (sight_logged x n more) (sight tid (scene_of (stopped world n stamp cause log))) first.next n first.shown (record { in_run = n_in; up = on }) (stop_cut tid world n stamp cause log more says))

  -- ---- a step

  module _ (n stamp free : ℕ) (source : Source) (event : Event) (n_in : n < world.size) (on : world.channels.up n ≡ true) (is : event_of world n stamp source ≡ Some event) where
    abbrev out : Effects
    out = effects_of (world.hosts n).node event free

    abbrev work : Rattle.qs_node_step.specs.State.Work
    work = step_work (world.hosts n).node event free

    pub whole : StepShown tid world n free source event w → WorldGoes tid (step_with world n stamp free source (Some event)) w
    whole goes = record {
      next = goes.next;
      leads = goes.leads;
      shown = record {
        lawful = lawful_on w goes.next sw.lawful goes.leads;
        placed = placed_stay w goes.next sw.lawful sw.placed goes.leads;
        shown = shown;
        closes = λ m m_in runs. closes m m_in runs (m == n) refl;
      };
    }
      where
        after : World
        after = step_with world n stamp free source (Some event)

        shown : Shows tid (scene_of after) goes.next
        shown = sight_alike tid (sight tid (stepped (taken_scene world n source) n work (log_after (world.hosts n) out))) (sight tid (scene_of after)) goes.next
            (step_sight tid world n stamp source work (well_taken world n stamp source event is (well_seated world seated)).ordered) goes.shown

        inc_is : after.channels.inc ≡ world.channels.inc
        inc_is = Rattle.qs_world_refine.proofs.Posted.inc_all n stamp out.messages (taken_by world n source) ∙ inc_taken world n source

        up_is : after.channels.up ≡ world.channels.up
        up_is = Rattle.qs_world_refine.proofs.Posted.up_all n stamp out.messages (taken_by world n source) ∙ up_taken world n source

        runs_at : (m : ℕ) → m < world.size → world.channels.up m ≡ true → goes.next.up (place m (world.channels.inc m)) ≡ true
        runs_at m m_in runs = subst (λ (i : ℕ → ℕ). goes.next.up (place m (i m)) ≡ true) inc_is (shown.faces m m_in (ap (λ (f : ℕ → Bool). f m) up_is ∙ runs)).up

        closes : (m : ℕ) → m < world.size → after.channels.up m ≡ true → (b : Bool) → (m == n) ≡ b
            → AllClose tid m (place m (after.channels.inc m)) goes.next (if b then Rattle.qs_world.specs.Moves.stepped_host stamp (Rattle.qs_node_step.specs.Step.after_step (world.hosts n).node event free) out (world.hosts n) else world.hosts m).waiting
        closes m m_in runs true same = rw (inc_is, eqb-true m n same) goes.closes
        closes m m_in runs false apart = rw inc_is (closes_on goes.next goes.leads m m_in (ap (λ (f : ℕ → Bool). f m) (sym up_is) ∙ runs) (runs_at m m_in (ap (λ (f : ℕ → Bool). f m) (sym up_is) ∙ runs)))

    -- the machine is as far as the step brings it
    pub whole_next : (goes : StepShown tid world n free source event w) → (whole goes).next ≡ goes.next
    unfolding whole
    whole_next goes = refl

    -- cut off with its batch on the disk
    cut_whole : (cause : CrashCause) → StepShown tid world n free source event w → WorldGoes tid (stopped world n stamp cause (log_after (world.hosts n) out)) w
    cut_whole cause goes = crashes n stamp cause (log_after (world.hosts n) out) goes.next goes.leads
        (crash tid (sight tid (stepped (taken_scene world n source) n work (log_after (world.hosts n) out))) (sight tid (scene_of (stopped world n stamp cause (log_after (world.hosts n) out)))) goes.next n goes.shown
        (record { in_run = n_in; up = ap (λ (f : ℕ → Bool). f n) (up_taken world n source) ∙ on }) (whole_cut tid world n stamp source work cause (log_after (world.hosts n) out)))

    pub cut : (is_kept : Bool) (cause : CrashCause) → (is_cut_with tid is_kept world n free event ≡ true → StepShown tid world n free source event w) → WorldGoes tid (cut_with world n stamp free is_kept cause (Some event)) w
    cut false cause goes = stops n stamp cause (world.hosts n).log [] n_in on refl tt
    cut true cause goes = by out.force (list_any (is_record_of tid) out.records) refl refl goes
      where
        by : (a b : Bool) → out.force ≡ a → list_any (is_record_of tid) out.records ≡ b → ((a && b) ≡ true → StepShown tid world n free source event w)
            → WorldGoes tid (stopped world n stamp cause (if a then (world.hosts n).log ++ ((world.hosts n).waiting ++ out.records) else (world.hosts n).log)) w
        by false b force has goes = stops n stamp cause (world.hosts n).log [] n_in on refl tt
        by true true force has goes = subst (λ (a : Bool). WorldGoes tid (stopped world n stamp cause (if a then (world.hosts n).log ++ ((world.hosts n).waiting ++ out.records) else (world.hosts n).log)) w) force (cut_whole cause (goes refl))
        by true false force has goes = stops n stamp cause ((world.hosts n).log ++ ((world.hosts n).waiting ++ out.records)) ((world.hosts n).waiting ++ out.records) n_in on
            (fold-append found_record nothing_said (world.hosts n).log ((world.hosts n).waiting ++ out.records))
            (all_append tid n (place n (world.channels.inc n)) w (world.hosts n).waiting out.records (sw.closes n n_in on) (all_other tid n (place n (world.channels.inc n)) w out.records has))
