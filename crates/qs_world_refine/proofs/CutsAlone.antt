-- A node stops with nothing of a step kept of a transaction: while that is undecided, its place stops and nothing else happens.
use Rattle.qs_world_refine.proofs.Words.{◌≡◌, ◌≢◌, inl, ℕ, ◌<◌, ◌==◌, ◌&&◌, Bool, true, false, List, [], ◌∷◌, ◌++◌, fold, Option, refl, sym, subst, if◌then◌else◌, list_any, eqb-true, or_from, or_parts, fold-append, same_tid, Tid, CrashCause, is_crash, Record, Recovery, recovery, found_record, nothing_said, effects_of, Source, Cut, Stop, event_of, may_step, stopped, stopped_host, cut_log, cut_with, Open, Committed, Aborted, Leads, ShowsAll, KeepsDecided, AllGoes, IsSeated, MayClose, AllClose}
use Rattle.qs_world_refine.proofs.Words.{sight_logged, ShowsWorld, WorldGoes, is_record_of, is_cut_with, place, IsCut, scene_of, sight, Shows, Sight, ShowsSight}
use Rattle.std.proofs.lemmas.Bool.{false_from_ne_true}
use Rattle.qs_session_channels.specs.Network.{with_at}
use Rattle.qs_record.specs.declared.record.Record.TheVariants as records
use Rattle.qs_node_step.specs.declared.event.Event.{Event}
use Rattle.qs_world.specs.World.{World}
use Rattle.qs_world_agree.specs.World as machine
use Rattle.qs_world_agree.specs.World.{Outcome}
use Rattle.qs_world_refine.specs.CutLaws.{StopsAlone, StopGoesAlone, CutGoesAlone}
use Rattle.qs_world_refine.proofs.Alike.{SameFound, same_itself, found_itself, found_on, sight_alike}
use Rattle.qs_world_refine.proofs.Crashing as crashing
use Rattle.qs_world_refine.proofs.Facts.{lawful_on}
use Rattle.qs_world_refine.proofs.LogFrames.{Apart, record_tid, record_apart}
use Rattle.qs_world_refine.proofs.MoveGoes.{in_run, StepMay, step_may}
use Rattle.qs_world_refine.proofs.Moving.{stop_cut}
use Rattle.qs_world_refine.proofs.Placing.{placed_stay}
use Rattle.qs_world_refine.proofs.ShownMoves.{steady, home_in_run}
use Rattle.qs_world_refine.proofs.SoundParts.{and_both}
use Rattle.qs_world_refine.proofs.StepAll.{goes_all, outcome_on, kept_same, node_stopped, stays_stopped}
use Rattle.qs_world_refine.proofs.StepMoves.{x, all_append, all_other, closes_on, stops}

-- ---- records of others say nothing of it

other_tid : (tid : Tid) (rec : Record) → is_record_of tid rec ≡ false → Apart tid (record_tid rec)
other_tid tid (records.Prepare u server covers changes) apart = apart
other_tid tid (records.Commit u told) apart = apart
other_tid tid (records.Aborted u) apart = apart
other_tid tid (records.End u) apart = apart

others_found : (tid : Tid) (rs : List Record) (r : Recovery) → list_any (is_record_of tid) rs ≡ false → SameFound tid r (fold found_record r rs)
others_found tid [] r none = found_itself tid r
others_found tid (rec ∷ rs) r none =
    let both : (is_record_of tid rec ≡ false) × (list_any (is_record_of tid) rs ≡ false) = or_parts (is_record_of tid rec) (list_any (is_record_of tid) rs) none in
    found_on tid r (found_record r rec) (fold found_record (found_record r rec) rs) (record_apart tid rec r (other_tid tid rec both.0)) (others_found tid rs (found_record r rec) both.1)

-- what may close it is of others while it is undecided
others_wait : (tid : Tid) (n q : ℕ) (w : machine.World) (rs : List Record) → w.outcome q ≢ Aborted → w.outcome q ≢ Committed → AllClose tid n q w rs → list_any (is_record_of tid) rs ≡ false
others_wait tid n q w [] abort commit all = refl
others_wait tid n q w (rec ∷ rs) abort commit all = or_from (is_record_of tid rec) (list_any (is_record_of tid) rs) (one rec all.0) (others_wait tid n q w rs abort commit all.1)
  where
    one : (rec : Record) → MayClose tid n q w rec → is_record_of tid rec ≡ false
    one (records.Prepare u server covers changes) may = may
    one (records.Commit u told) may = may
    one (records.Aborted u) may = false_from_ne_true (same_tid tid u) (λ same. abort (may same))
    one (records.End u) may = false_from_ne_true (same_tid tid u) (λ same. commit (may same).1.0)

module _ (tid : Tid) (world : World) (w : machine.World) (seated : IsSeated world) (home_in : tid.home.0 < world.size) (all : ShowsAll tid world w)
    (n stamp : ℕ) (cause : CrashCause) (log more : List Record) (n_in : n < world.size) (on : world.channels.up n ≡ true) (says : recovery log ≡ fold found_record (recovery (world.hosts n).log) more) (may : AllClose tid n (place n (world.channels.inc n)) w more) where
  abbrev sw : ShowsWorld tid world w
  sw = all.seen

  abbrev here : Sight
  here = x tid world w seated home_in sw

  abbrev after : World
  after = stopped world n stamp cause log

  abbrev q : ℕ
  q = place n (world.channels.inc n)

  of_world : (goes : WorldGoes tid after w) → AllGoes tid after w
  of_world goes = goes_all tid world w home_in all after refl goes (kept_same tid world after w goes.next all goes.leads (node_stopped world n stamp cause log tid.home.0)) (λ k k_in up. inl (stays_stopped world n stamp cause log k up))

  -- ---- undecided: what is on its disk then says nothing of it

  module _ (undecided : w.cell ≡ Open) where
    none : list_any (is_record_of tid) more ≡ false
    none = others_wait tid n q w more (λ is. let known : w.cell ≡ Aborted = sw.lawful.agreed.knows_abort q is in cc (known, undecided)) (λ is. let known : w.cell ≡ Committed = sw.lawful.agreed.knows_commit q is in cc (known, undecided)) may

    shown_logged : ShowsSight tid (sight_logged here n more) w
    shown_logged = sight_alike tid here (sight_logged here n more) w
        (record { size = refl; inc = refl; up = refl; knows = refl; face = λ k. same_itself (here.face k); said = λ a k b l. refl; unmet = λ a b. refl; found = λ k. by k (k == n) refl }) sw.shown
      where
        by : (k : ℕ) (b : Bool) → (k == n) ≡ b → SameFound tid (here.found k) (if b then fold found_record (here.found n) more else here.found k)
        by k true is = rw (eqb-true k n is) (others_found tid more (here.found n) none)
        by k false is = found_itself tid (here.found k)

    cut : IsCut (sight_logged here n more) (sight tid (scene_of after)) n
    cut = stop_cut tid world n stamp cause log more says

    abbrev v : machine.World
    v = crashing.v tid (sight_logged here n more) (sight tid (scene_of after)) w n shown_logged n_in on cut.size cut.inc cut.knows cut.found cut.up cut.faces cut.unmet cut.said_other cut.said_cut

    leads : Leads w v
    leads = crashing.leads tid (sight_logged here n more) (sight tid (scene_of after)) w n shown_logged n_in on cut.size cut.inc cut.knows cut.found cut.up cut.faces cut.unmet cut.said_other cut.said_cut

    shown : Shows tid (scene_of after) v
    shown = crashing.after tid (sight_logged here n more) (sight tid (scene_of after)) w n shown_logged n_in on cut.size cut.inc cut.knows cut.found cut.up cut.faces cut.unmet cut.said_other cut.said_cut

    then_shown : ShowsWorld tid after v
    then_shown = record {
      lawful = lawful_on w v sw.lawful leads;
      placed = placed_stay w v sw.lawful sw.placed leads;
      shown = shown;
      closes = λ m m_in runs. closes m m_in runs (m == n) refl;
    }
      where
        closes : (m : ℕ) → m < world.size → with_at world.channels.up n false m ≡ true → (b : Bool) → (m == n) ≡ b → AllClose tid m (place m (world.channels.inc m)) v (if b then stopped_host stamp log (world.hosts n) else world.hosts m).waiting
        closes m m_in runs true is = tt
        closes m m_in runs false is = closes_on tid world w seated home_in sw v leads m m_in (ran (m == n) is runs) (shown.faces m m_in runs).up
          where
            ran : (b : Bool) → b ≡ false → (if b then false else world.channels.up m) ≡ true → world.channels.up m ≡ true
            ran b off so = rw off at so

    then_kept : KeepsDecided tid after v
    then_kept = kept_same tid world after w v all leads (node_stopped world n stamp cause log tid.home.0)

    alone : StopsAlone tid world after n w
    alone = record {
      goes = record {
        next = v;
        leads = leads;
        shown = record { seen = then_shown; outcome = outcome_on tid world w home_in all after v leads refl then_shown then_kept (λ k k_in up. inl (stays_stopped world n stamp cause log k up)); kept = then_kept };
      };
      alone = λ is. refl;
    }

  pub stops_alone : StopsAlone tid world after n w
  stops_alone = by w.cell refl
    where
      decided : w.cell ≢ Open → StopsAlone tid world after n w
      decided other = record { goes = of_world (stops tid world w seated home_in sw n stamp cause log more n_in on says may); alone = λ is. absurd (other is) }

      by : (o : Outcome) → w.cell ≡ o → StopsAlone tid world after n w
      by Open is = alone is
      by Committed is = decided (λ so. cc (is, so))
      by Aborted is = decided (λ so. cc (is, so))

-- ---- each way to stop so

pub stop_goes_alone : StopGoesAlone
stop_goes_alone tid world n stamp cause w may is begun all =
    let runs = and_both (world.channels.up n) _ may in
    stops_alone tid world w (steady world is).seated (home_in_run world is tid begun) all n stamp cause (world.hosts n).log [] (in_run world n stamp (and_both (Rattle.qs_world.specs.Moves.is_in_order world n stamp) _ runs.1).0) runs.0 refl tt

pub cut_goes_alone : CutGoesAlone
cut_goes_alone tid world n stamp free source is_kept cause event w may is begun all comes lost =
    subst (λ (o : Option Event). StopsAlone tid world (cut_with world n stamp free is_kept cause o) n w) (sym comes) (by is_kept lost)
  where
    its : StepMay world n source
    its = step_may world n stamp source (and_both (may_step world n stamp source) (is_crash cause) may).0

    home_in : tid.home.0 < world.size
    home_in = home_in_run world is tid begun

    same_log : StopsAlone tid world (stopped world n stamp cause (world.hosts n).log) n w
    same_log = stops_alone tid world w (steady world is).seated home_in all n stamp cause (world.hosts n).log [] its.low its.runs refl tt

    kept : (a b : Bool) → (effects_of (world.hosts n).node event free).force ≡ a → list_any (is_record_of tid) (effects_of (world.hosts n).node event free).records ≡ b → (a && b) ≡ false → StopsAlone tid world (stopped world n stamp cause (if a then (world.hosts n).log ++ ((world.hosts n).waiting ++ (effects_of (world.hosts n).node event free).records) else (world.hosts n).log)) n w
    kept false b force has none = same_log
    kept true true force has none = absurd (cc none)
    kept true false force has none = stops_alone tid world w (steady world is).seated home_in all n stamp cause ((world.hosts n).log ++ ((world.hosts n).waiting ++ (effects_of (world.hosts n).node event free).records)) ((world.hosts n).waiting ++ (effects_of (world.hosts n).node event free).records) its.low its.runs
        (fold-append found_record nothing_said (world.hosts n).log ((world.hosts n).waiting ++ (effects_of (world.hosts n).node event free).records))
        (all_append tid n (place n (world.channels.inc n)) w (world.hosts n).waiting (effects_of (world.hosts n).node event free).records (all.seen.closes n its.low its.runs) (all_other tid n (place n (world.channels.inc n)) w (effects_of (world.hosts n).node event free).records has))

    by : (b : Bool) → is_cut_with tid b world n free event ≡ false → StopsAlone tid world (stopped world n stamp cause (cut_log (world.hosts n) b (effects_of (world.hosts n).node event free))) n w
    by false none = same_log
    by true none = kept (effects_of (world.hosts n).node event free).force (list_any (is_record_of tid) (effects_of (world.hosts n).node event free).records) refl refl none
